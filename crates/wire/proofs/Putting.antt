-- A head and a record, written part by part.
use Rattle.std.proofs.Common.{◌≡◌, ℕ, ◌+◌, ◌-◌, List, [], ◌∷◌, ◌++◌, length, take, drop, sym, refl, ap, ◌∙◌, append_assoc, append-nil, arith, length-drop, take_all, drop-drop, take_at, drop_at}
use borrow.Rule.Slice.PartMut.{put_mid}
use Rattle.std.proofs.lemmas.List.{drop_all}
use Rattle.ledger.specs.Dispatch.{be4}
use Rattle.wire.specs.Heads.{head_bytes}
use Rattle.wire.specs.declared.head.Head.{Head}

-- a part written right behind those before it
next_part : (front part out : List ℕ) (a n : ℕ) → length front ≡ a → put_mid a n (front ++ drop a out) part ≡ (front ++ part) ++ drop (a + n) out
next_part front part out a n l =
    let first : take a (front ++ drop a out) ≡ front = take_at front (drop a out) a l in
    let rest : drop n (drop a (front ++ drop a out)) ≡ drop (a + n) out = ap (drop n) (drop_at front (drop a out) a l) ∙ drop-drop n a out in
    (λ i. first i ++ (part ++ rest i)) ∙ sym (append_assoc front part (drop (a + n) out))

-- a head
pub headed : (head : Head) (whole kinds count root out : List ℕ) → whole ≡ be4 head.whole → kinds ≡ head.version ∷ head.kind ∷ [] → count ≡ be4 head.count → root ≡ be4 head.root →
    put_mid 10 4 (put_mid 6 4 (put_mid 4 2 (whole ++ drop 4 out) kinds) count) root ≡ head_bytes head ++ drop 14 out
headed head whole kinds count root out w k c r =
    let first = be4 head.whole in
    let second = head.version ∷ head.kind ∷ [] in
    let third = be4 head.count in
    let last = be4 head.root in
    (λ i. put_mid 10 4 (put_mid 6 4 (put_mid 4 2 (w i ++ drop 4 out) (k i)) (c i)) (r i)) ∙
    ap (λ s. put_mid 10 4 (put_mid 6 4 s third) last) (next_part first second out 4 2 refl) ∙
    ap (λ s. put_mid 10 4 s last) (next_part (first ++ second) third out 6 4 refl) ∙
    next_part ((first ++ second) ++ third) last out 10 4 refl

-- a label, and links written right behind it
links_behind : (label links out : List ℕ) (w : ℕ) → length label ≡ w →
    put_mid w (length (label ++ drop w out) - w) (label ++ drop w out) (links ++ drop 8 (take (length (label ++ drop w out) - w) (drop w (label ++ drop w out)))) ≡ (label ++ links) ++ drop (w + 8) out
links_behind label links out w l =
    let first : take w (label ++ drop w out) ≡ label = take_at label (drop w out) w l in
    let behind : drop w (label ++ drop w out) ≡ drop w out = drop_at label (drop w out) w l in
    let whole : take (length (label ++ drop w out) - w) (drop w (label ++ drop w out)) ≡ drop w out =
    take_all (length (label ++ drop w out) - w) (drop w (label ++ drop w out)) (omega (arith, length-drop w (label ++ drop w out))) ∙ behind in
    let none : drop (length (label ++ drop w out) - w) (drop w (label ++ drop w out)) ≡ [] =
    drop_all (length (label ++ drop w out) - w) (drop w (label ++ drop w out)) (omega (arith, length-drop w (label ++ drop w out))) in
    (λ i. first i ++ ((links ++ drop 8 (whole i)) ++ none i)) ∙
    ap (λ r. label ++ r) (append-nil (links ++ drop 8 (drop w out))) ∙
    sym (append_assoc label links (drop 8 (drop w out))) ∙
    ap (λ r. (label ++ links) ++ r) (drop-drop 8 w out)

-- a record
pub recorded : (label out sent links : List ℕ) (w width z o : ℕ) → length label ≡ width → w ≡ width → sent ≡ label ++ drop width out →
    links ≡ be4 z ++ (be4 o ++ drop 8 (take (length sent - w) (drop w sent))) →
    put_mid w (length sent - w) sent links ≡ (label ++ (be4 z ++ be4 o)) ++ drop (width + 8) out
recorded label out sent links w width z o l e s p = let h = links_behind label (be4 z ++ be4 o) out width l in cc
