-- Rows of vertices and rows of lists say the same: vertices drawn from a ledger's lists draw those lists, and a sound row of vertices draws a ledger.
use Rattle.std.proofs.Common.{◌≡◌, ℕ, zero, suc, ◌+◌, ◌≤◌, Bool, true, false, ◌⊎◌, ◌↔◌, List, [], ◌∷◌, ◌++◌, length, Some, sym, refl, ap, ◌∙◌, ap₂, inl, inr, arith}
use Rattle.symbols.specs.Order.{Order}
use Rattle.ledger.specs.Lists.{Codes, none, blank, begun, Member, Comes, SomeCode, Proper}
use Rattle.ledger.specs.declared.Vertex.{Vertex}
use Rattle.ledger.specs.Diagrams.{look, Has, SameCodes, Good, Sound, Formed}
use Rattle.ledger.specs.Ledger.{listed, position, number, lay, list_in, lists, codes, vertices_in, vertices_of, Drawing, fresh}
use Rattle.ledger.proofs.Reading.{none_some}
use Rattle.ledger.proofs.Canon.{Kind, is_0, is_1, is_vertex, kind}
use Rattle.ledger.proofs.Sets.{proper_same}
use Rattle.ledger.proofs.Ends.{nth_front, nth_last, nth_cases, by_ends}
pub use Rattle.ledger.proofs.Draws.{draw_append}
use Rattle.ledger.proofs.Draws.{lists_long, codes_formed, formed_member, member_formed, same_lists}
use Rattle.ledger.proofs.Rows.{both_ways, Known, Ledger, empty_row, one_more, known_front, number_front, list_number, known_list, known_proper, number_list, position_below, get_or_position, lay_ledger, lay_knows}

-- each list of ts comes with its outer and inner list in the row
abbrev pub Closed : {S : Type 0} → (S → S → Bool) → List (Codes S) → List (Codes S) → Type 0
Closed before row [] = Unit {0}
Closed before row (none ∷ ts) = Closed before row ts
Closed before row (blank ∷ ts) = Closed before row ts
Closed before row (begun a z o ∷ ts) = Known before row z × Known before row o × Closed before row ts

module _ {S : Type 0} (before : S → S → Bool) (order : Order before) where
  closed_front : (row more ts : List (Codes S)) → Closed before row ts → Closed before (row ++ more) ts
  closed_front row more [] k = tt
  closed_front row more (none ∷ ts) k = closed_front row more ts k
  closed_front row more (blank ∷ ts) k = closed_front row more ts k
  closed_front row more (begun a z o ∷ ts) k = (known_front before order row more z k.0, known_front before order row more o k.1, closed_front row more ts k.2)

  closed_append : (row ts us : List (Codes S)) → Closed before row ts → Closed before row us → Closed before row (ts ++ us)
  closed_append row [] us k l = l
  closed_append row (none ∷ ts) us k l = closed_append row ts us k l
  closed_append row (blank ∷ ts) us k l = closed_append row ts us k l
  closed_append row (begun a z o ∷ ts) us k l = (k.0, k.1, closed_append row ts us k.2 l)

  pub ledger_closed : {row : List (Codes S)} → Ledger before row → Closed before row row
  ledger_closed (empty_row e) = rw e tt
  ledger_closed (one_more front a z o e L kz ko p new) =
      let x = begun a z o in
      rw e
      (closed_append (front ++ begun a z o ∷ []) front (begun a z o ∷ [])
      (closed_front front (begun a z o ∷ []) front (ledger_closed L))
      (known_front before order front (begun a z o ∷ []) z kz, known_front before order front (begun a z o ∷ []) o ko, tt))

  vertices_of_front : (row more ts : List (Codes S)) → Closed before row ts → vertices_in before (row ++ more) ts ≡ vertices_in before row ts
  vertices_of_front row more [] k = refl
  vertices_of_front row more (none ∷ ts) k = vertices_of_front row more ts k
  vertices_of_front row more (blank ∷ ts) k = vertices_of_front row more ts k
  vertices_of_front row more (begun a z o ∷ ts) k = rw (number_front before order row more z k.0, number_front before order row more o k.1, vertices_of_front row more ts k.2)

  vertices_of_append : (row ts us : List (Codes S)) → vertices_in before row (ts ++ us) ≡ vertices_in before row ts ++ vertices_in before row us
  vertices_of_append row [] us = refl
  vertices_of_append row (none ∷ ts) us = vertices_of_append row ts us
  vertices_of_append row (blank ∷ ts) us = vertices_of_append row ts us
  vertices_of_append row (begun a z o ∷ ts) us = rw (vertices_of_append row ts us)

  -- one more list is one more vertex
  pub vertices_of_more : (row : List (Codes S)) (a : S) (z o : Codes S) → Ledger before row → Known before row z → Known before row o →
      vertices_of before (row ++ begun a z o ∷ []) ≡ vertices_of before row ++ record { label = a; zero = number before row z; one = number before row o } ∷ []
  vertices_of_more row a z o L kz ko =
      let x = begun a z o in
      rw (
        vertices_of_append (row ++ begun a z o ∷ []) row (begun a z o ∷ []),
        vertices_of_front row (begun a z o ∷ []) row (ledger_closed L),
        number_front before order row (begun a z o ∷ []) z kz,
        number_front before order row (begun a z o ∷ []) o ko,
      )

  -- the vertices of a ledger draw its lists
  pub lists_vertices_of : {row : List (Codes S)} → Ledger before row → lists (vertices_of before row) ≡ row
  lists_vertices_of (empty_row e) = rw e
  lists_vertices_of (one_more front a z o e L kz ko p new) =
      let below = lists_vertices_of L in
      rw (e, vertices_of_more front a z o L kz ko, draw_append [] (vertices_of before front), below, list_number before order front z kz, list_number before order front o ko)

  -- what is read off a sound row of vertices
  pub record Pictured (vs : List (Vertex S)) : Type 0 where
    pub unfolds : (n : ℕ) (v : Vertex S) → look vs n ≡ Some v → codes vs n ≡ begun v.label (codes vs v.zero) (codes vs v.one)
    pub ledger : Ledger before (lists vs)
    pub back : vertices_of before (lists vs) ≡ vs
    pub long : length (lists vs) ≡ length vs

  pub look_front : (vs more : List (Vertex S)) (n : ℕ) (v : Vertex S) → look vs n ≡ Some v → look (vs ++ more) n ≡ Some v
  look_front vs more zero v e = absurd (none_some refl e)
  look_front vs more (suc zero) v e = absurd (none_some refl e)
  look_front vs more (suc (suc k)) v e = nth_front vs more k v e

  pub look_cases : (vs : List (Vertex S)) (x : Vertex S) (n : ℕ) (v : Vertex S) → look (vs ++ x ∷ []) n ≡ Some v → (look vs n ≡ Some v) ⊎ ((n ≡ suc (suc (length vs))) × (x ≡ v))
  look_cases vs x zero v e = absurd (none_some refl e)
  look_cases vs x (suc zero) v e = absurd (none_some refl e)
  look_cases vs x (suc (suc k)) v e = by (nth_cases vs x k v e)
    where
      by : (look vs (suc (suc k)) ≡ Some v) ⊎ ((k ≡ length vs) × (x ≡ v)) → (look vs (suc (suc k)) ≡ Some v) ⊎ ((suc (suc k) ≡ suc (suc (length vs))) × (x ≡ v))
      by (inl p) = inl p
      by (inr p) = inr (ap (λ m. suc (suc m)) p.0, p.1)

  pub formed_front : (vs more : List (Vertex S)) → Formed before (vs ++ more) → Formed before vs
  formed_front vs more s =
      record {
        zero_below = λ n v e. s.zero_below n v (look_front vs more n v e);
        one_below = λ n v e. s.one_below n v (look_front vs more n v e);
        one_not_0 = λ n v e. s.one_not_0 n v (look_front vs more n v e);
        later = λ n v w e f. s.later n v w (look_front vs more n v e) (look_front vs more v.zero w f);
      }

  pub sound_front : (vs more : List (Vertex S)) → Sound before (vs ++ more) → Sound before vs
  sound_front vs more s =
      record {
        formed = formed_front vs more s.formed;
        different = λ m n v e f. s.different m n v (look_front vs more m v e) (look_front vs more n v f);
      }

  -- one more vertex
  module _ (vs : List (Vertex S)) (v : Vertex S) (sound : Sound before (vs ++ v ∷ [])) (P : Pictured vs) where
    row : List (Codes S)
    row = lists vs

    at_end : look (vs ++ v ∷ []) (suc (suc (length vs))) ≡ Some v
    at_end = nth_last vs v

    zero_in : v.zero ≤ length (lists vs) + 1
    zero_in = let h = sound.formed.zero_below (suc (suc (length vs))) v at_end in omega (arith, P.long)

    one_in : v.one ≤ length (lists vs) + 1
    one_in = let h = sound.formed.one_below (suc (suc (length vs))) v at_end in omega (arith, P.long)

    abbrev pub new : Codes S
    new = begun v.label (codes vs v.zero) (codes vs v.one)

    pub lists_more : lists (vs ++ v ∷ []) ≡ lists vs ++ new ∷ []
    lists_more = draw_append [] vs (v ∷ [])

    pub comes : Comes before v.label (codes vs v.zero)
    comes = by (kind vs v.zero (omega (arith, zero_in, P.long)))
      where
        by : Kind vs v.zero → Comes before v.label (codes vs v.zero)
        by (is_0 e) = rw e tt
        by (is_1 e) = rw e tt
        by (is_vertex w p) = rw (P.unfolds v.zero w p) (sound.formed.later (suc (suc (length vs))) v w at_end (look_front vs (v ∷ []) v.zero w p))

    pub some_code : SomeCode (codes vs v.one)
    some_code = by (kind vs v.one (omega (arith, one_in, P.long)))
      where
        by : Kind vs v.one → SomeCode (codes vs v.one)
        by (is_0 e) = absurd (sound.formed.one_not_0 (suc (suc (length vs))) v at_end e)
        by (is_1 e) = rw e tt
        by (is_vertex w p) = rw (P.unfolds v.one w p) tt

    number_codes : (n : ℕ) → n ≤ length vs + 1 → number before (lists vs) (codes vs n) ≡ n
    number_codes n h = number_list before order P.ledger n (omega (arith, P.long))

    -- it is not there yet: else an old vertex would be the same
    no_old : (j : ℕ) → 2 ≤ j → j ≤ length vs + 1 → codes vs j ≡ new → ⊥
    no_old j low high here = by (kind vs j high)
      where
        by : Kind vs j → ⊥
        by (is_0 e) = omega arith
        by (is_1 e) = omega arith
        by (is_vertex w p) =
            let there = P.unfolds j w p in
            let s = sound_front vs (v ∷ []) sound in
            let wz = s.formed.zero_below j w p in
            let wo = s.formed.one_below j w p in
            let l : w.label ≡ v.label = cc in
            let z : codes vs w.zero ≡ codes vs v.zero = cc in
            let o : codes vs w.one ≡ codes vs v.one = cc in
            let zn : w.zero ≡ v.zero = sym (number_codes w.zero (omega arith)) ∙ ap (number before (lists vs)) z ∙ number_codes v.zero (omega (arith, zero_in, P.long)) in
            let on : w.one ≡ v.one = sym (number_codes w.one (omega arith)) ∙ ap (number before (lists vs)) o ∙ number_codes v.one (omega (arith, one_in, P.long)) in
            let w_v : w ≡ v = λ i. record { label = l i; zero = zn i; one = on i } in
            let again = sound.different j (suc (suc (length vs))) v (look_front vs (v ∷ []) j w p ∙ ap Some w_v) at_end in
            omega arith

    pub not_there : listed before (lists vs) new ≡ true → ⊥
    not_there h =
        let small = position_below before order (lists vs) new h in
        no_old (suc (suc (position before (lists vs) new))) (omega arith) (omega (arith, P.long)) (get_or_position before order (lists vs) new none h)

    pictured_more : Pictured (vs ++ v ∷ [])
    pictured_more =
        record {
          unfolds = codes_formed before order (vs ++ v ∷ []) sound.formed;
          ledger =
              one_more (lists vs) v.label (codes vs v.zero) (codes vs v.one) lists_more P.ledger kz ko
              (comes, some_code, known_proper before order P.ledger _ kz, known_proper before order P.ledger _ ko)
              (away (both_ways (listed before (lists vs) new)));
          back =
              ap (vertices_of before) lists_more ∙ vertices_of_more (lists vs) v.label (codes vs v.zero) (codes vs v.one) P.ledger kz ko ∙
              ap₂ (λ xs (x : Vertex S). xs ++ x ∷ []) P.back
              (λ i. record {
                label = v.label;
                zero = number_codes v.zero (omega (arith, zero_in, P.long)) i;
                one = number_codes v.one (omega (arith, one_in, P.long)) i;
              });
          long = lists_long before order (vs ++ v ∷ []);
        }
      where
        kz : Known before (lists vs) (codes vs v.zero)
        kz = known_list before order (lists vs) v.zero zero_in

        ko : Known before (lists vs) (codes vs v.one)
        ko = known_list before order (lists vs) v.one one_in

        away : (listed before (lists vs) new ≡ true) ⊎ (listed before (lists vs) new ≡ false) → listed before (lists vs) new ≡ false
        away (inl h) = absurd (not_there h)
        away (inr h) = h

  -- a sound row of vertices draws a ledger, and is what that ledger's lists give
  pub pictured : (vs : List (Vertex S)) → Sound before vs → Pictured vs
  pictured vs =
      by_ends (λ xs. Sound before xs → Pictured xs)
      (λ s. record { unfolds = λ n v e. absurd (none n v e); ledger = empty_row refl; back = refl; long = refl })
      (λ xs x ih s. pictured_more xs x s (ih (sound_front xs (x ∷ []) s)))
      vs
    where
      none : (n : ℕ) (v : Vertex S) → look [] n ≡ Some v → ⊥
      none zero v e = none_some refl e
      none (suc zero) v e = none_some refl e
      none (suc (suc k)) v e = none_some refl e

  -- the codes of a number are those of its list
  pub has_member : (vs : List (Vertex S)) → Sound before vs → {n : ℕ} {c : List S} → Has vs n c → Member (codes vs n) c
  has_member vs s h = formed_member before order vs s.formed h

  pub member_has : (vs : List (Vertex S)) → Sound before vs → (n : ℕ) → Good vs n → (c : List S) → Member (codes vs n) c → Has vs n c
  member_has vs s n g c m = member_formed before order vs s.formed n g c m

  pub codes_proper : (vs : List (Vertex S)) → Sound before vs → (n : ℕ) → Good vs n → Proper before (codes vs n)
  codes_proper vs s n g = let P = pictured vs s in known_proper before order P.ledger _ (known_list before order (lists vs) n (omega (arith, P.long)))

  -- a list is read back from what is written of it
  pub read_back : (t : Codes S) → Proper before t → codes (fresh before t).drawn (fresh before t).root ≡ t
  read_back t p =
      let L = lay_ledger before order [] t (empty_row refl) p in
      ap (λ r. list_in r (number before (lay before [] t) t)) (lists_vertices_of L) ∙ list_number before order (lay before [] t) t (lay_knows before order [] t)

  pub fresh_same : (t u : Codes S) → Proper before t → Proper before u → fresh before t ≡ fresh before u → t ≡ u
  fresh_same t u pt pu e = sym (read_back t pt) ∙ ap (λ (d : Drawing S). codes d.drawn d.root) e ∙ read_back u pu

  pub written_alike : (vs ws : List (Vertex S)) → Sound before vs → Sound before ws → (m n : ℕ) → Good vs m → Good ws n →
      (fresh before (codes vs m) ≡ fresh before (codes ws n)) ↔ SameCodes vs m ws n
  written_alike vs ws sv sw m n gm gn = (there, back)
    where
      there : fresh before (codes vs m) ≡ fresh before (codes ws n) → SameCodes vs m ws n
      there e =
          same_lists before order vs ws sv.formed sw.formed m n gm gn
          (fresh_same (codes vs m) (codes ws n) (codes_proper vs sv m gm) (codes_proper ws sw n gn) e)

      back : SameCodes vs m ws n → fresh before (codes vs m) ≡ fresh before (codes ws n)
      back alike =
          ap (fresh before)
          (proper_same before order (codes vs m) (codes ws n) (codes_proper vs sv m gm) (codes_proper ws sw n gn)
          (λ c. (λ k. has_member ws sw ((alike c).0 (member_has vs sv m gm c k)), λ k. has_member vs sv ((alike c).1 (member_has ws sw n gn c k)))))
