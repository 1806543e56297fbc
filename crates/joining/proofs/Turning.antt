-- What each turn of the walk does to what the walk stands for.
use Rattle.std.proofs.Common.{◌≡◌, ℕ, ◌<◌, Bool, ◌≢◌, ◌⊎◌, List, [], ◌∷◌, ◌++◌, length, Some, None, Ok, Err, Option, Result, MatchOption, sym, refl, ap, ◌∙◌, subst, inl, inr, append_assoc, append-nil, arith}
use mathlib.Core.Path.{subst⁻¹}
use Rattle.symbols.specs.Order.{Order}
use Rattle.ledger.specs.declared.Vertex.{Vertex}
use Rattle.ledger.specs.Lists.{Codes, Proper}
use Rattle.ledger.specs.Diagrams.{Good, Sound}
use Rattle.ledger.specs.Ledger.{lay, lists, codes}
use Rattle.ledger.specs.Laid.{Laid}
use Rattle.ledger.specs.Operations.{takes, make}
use Rattle.ledger.proofs.Drawn.{sound_front}
use Rattle.ledger.proofs.Laying.{laid_known}
use Rattle.ledger.proofs.Reading.{some_same}
use Rattle.memory.specs.declared.recall.Question.{Question}
use Rattle.memory.specs.declared.shelf.Full.{Full}
use Rattle.memory.specs.Tables.{Told}
use Rattle.joining.specs.Recalled.{Right, RightEntry}
use Rattle.joining.specs.Pairs.{asked, joint, Settled, Settles, apart}
use Rattle.joining.specs.Walks.{Waits, Held, Stack, Running, Coupled}
use Rattle.joining.specs.declared.pairs.Pair.{Pair}
use Rattle.joining.specs.declared.pairs.Split.{Split}
use Rattle.joining.specs.declared.frames.Frame.{Frame}
use Rattle.joining.specs.declared.turns.Turn.{Turn}
use Rattle.joining.specs.declared.turns.Turn.TheVariants.{Meet, Answer}
use Rattle.joining.proofs.Splits.{Parted, parted_is, parted_some}
use Rattle.joining.proofs.Growing.{good_front, apart_front, joint_front, right_front, joint_proper, settled_good, settled_is}
use Rattle.joining.proofs.Coupling.{Couples, couples}
use Rattle.joining.proofs.Stacks.{stack_longer}

-- neither settled nor recalled
pub settles_none : (rule : ℕ) (pair : Pair) (P : Type 0) (r : Option ℕ) → Settles rule pair r → MatchOption r P (λ x. None ≡ Some x) → (0 < pair.first) × (0 < pair.second) × (pair.first ≢ pair.second)
settles_none rule pair P (Some m) s e = cc
settles_none rule pair P None s e = s

module _ {S : Type 0} (before : S → S → Bool) (order : Order before) (old : List (Vertex S)) (rule : ℕ) (goal : Codes S) (vs : List (Vertex S)) (table : Question → Option ℕ) (frames : List Frame) where
  -- the old vertices are the first of these
  module _ (sound : Sound before vs) (more : List (Vertex S)) (extends : vs ≡ old ++ more) where
    old_sound : Sound before old
    old_sound = sound_front before order old more (subst (Sound before) extends sound)

    old_good : (n : ℕ) → Good old n → Good vs n
    old_good n good = subst⁻¹ (λ (us : List (Vertex S)). Good us n) extends (good_front before order old more n good)

    old_joint : (pair : Pair) → Good old pair.first → Good old pair.second → joint before vs rule pair ≡ joint before old rule pair
    old_joint pair first second = ap (λ (us : List (Vertex S)). joint before us rule pair) extends ∙ joint_front before order old more rule pair first second

    old_apart : (pair : Pair) → Good old pair.first → Good old pair.second → apart before vs pair ≡ apart before old pair
    old_apart pair first second = ap (λ (us : List (Vertex S)). apart before us pair) extends ∙ apart_front before order old more pair first second

  -- a pair is met
  module _ (pair : Pair) (R : Running before old rule goal vs table frames (Meet pair)) where
    abbrev Known : ℕ → Type 0
    Known n = Running before old rule goal vs table frames (Answer n)

    first : Good old pair.first
    first = R.stands.0

    second : Good old pair.second
    second = R.stands.1

    known : (n : ℕ) → Good vs n → codes vs n ≡ joint before vs rule pair → Known n
    known n good is =
        record {
          sound = R.sound;
          more = R.more;
          extends = R.extends;
          right = R.right;
          stands = (
            vs,
            joint before old rule pair,
            R.stands.2,
            subst (λ (t : Codes S). Laid before vs t vs n) (is ∙ old_joint R.sound R.more R.extends pair first second) (laid_known before order vs R.sound n good),
          );
        }

    turn_settled : (n : ℕ) → Settled rule pair n → Known n
    turn_settled n s =
        let gf = old_good R.sound R.more R.extends pair.first first in
        let gs = old_good R.sound R.more R.extends pair.second second in
        known n (settled_good before order vs R.sound rule pair gf gs n s) (settled_is before order vs R.sound rule pair gf gs n s)

    turn_recalled : (n : ℕ) → table (asked rule pair) ≡ Some n → Known n
    turn_recalled n e = let r = R.right (asked rule pair) n e in known n r.answer r.is

    -- settled, or else recalled
    pub turn_known : (n : ℕ) (P : Type 0) (r : Option ℕ) → Settles rule pair r → MatchOption r P (λ x. Some n ≡ Some x) → (P → table (asked rule pair) ≡ Some n) → Known n
    turn_known n P (Some m) s e told = subst Known (some_same e refl) (turn_settled m s)
    turn_known n P None s e told = turn_recalled n (told e)

    module _ (first_some : 0 < pair.first) (second_some : 0 < pair.second) where
      pub turn_never : pair.first ≢ pair.second → apart before vs pair ≡ None → ⊥
      turn_never ne e =
          parted_some before order old (old_sound R.sound R.more R.extends) (takes rule) pair first second first_some second_some ne
          (sym (old_apart R.sound R.more R.extends pair first second) ∙ e)

      pub turn_push : (s : Split S) → apart before vs pair ≡ Some s → (after : List Frame) → after ≡ record { pair = pair; outer = None } ∷ frames → Running before old rule goal vs table after (Meet s.outer)
      turn_push s e after top =
          let is = sym (old_apart R.sound R.more R.extends pair first second) ∙ e in
          let p : Parted before order old (old_sound R.sound R.more R.extends) (takes rule) pair s =
          parted_is before order old (old_sound R.sound R.more R.extends) (takes rule) pair first second first_some second_some s is in
          let f : Frame = record { pair = pair; outer = None } in
          let h : Held before old rule f vs (joint before old rule s.outer) = record {
            first = first;
            second = second;
            first_some = first_some;
            second_some = second_some;
            base = vs;
            sound = R.sound;
            part = s;
            is = is;
            waits = (refl, refl);
          } in
          subst⁻¹ (λ (fs : List Frame). Running before old rule goal vs table fs (Meet s.outer)) top
          (record {
            sound = R.sound;
            more = R.more;
            extends = R.extends;
            right = R.right;
            stands = (p.outer_first, p.outer_second, (h, R.stands.2));
          })

  -- a number comes back to the top frame
  module _ (n : ℕ) (f : Frame) (R : Running before old rule goal vs table (f ∷ frames) (Answer n)) where
    come : Laid before R.stands.0 R.stands.1 vs n
    come = R.stands.3

    over : Stack before old rule goal (f ∷ frames) R.stands.0 R.stands.1
    over = R.stands.2

    same_apart : apart before vs f.pair ≡ apart before old f.pair
    same_apart = old_apart R.sound R.more R.extends f.pair over.0.first over.0.second

    module _ (s : Split S) (e : apart before vs f.pair ≡ Some s) where
      part_is : over.0.part ≡ s
      part_is = some_same over.0.is (sym same_apart ∙ e)

      parted : Parted before order old (old_sound R.sound R.more R.extends) (takes rule) f.pair s
      parted =
          parted_is before order old (old_sound R.sound R.more R.extends) (takes rule) f.pair over.0.first over.0.second over.0.first_some over.0.second_some s
          (sym same_apart ∙ e)

      -- on to the inner pair
      pub turn_inner : f.outer ≡ None → (after : List Frame) → after ≡ record { pair = f.pair; outer = Some n } ∷ frames → Running before old rule goal vs table after (Meet s.inner)
      turn_inner stage after top =
          let w : (R.stands.0 ≡ over.0.base) × (R.stands.1 ≡ joint before old rule over.0.part.outer) =
          subst (λ (x : Option ℕ). Waits before old rule over.0.part over.0.base x R.stands.0 R.stands.1) stage over.0.waits in
          let t_is : R.stands.1 ≡ joint before old rule s.outer = w.1 ∙ ap (λ (x : Split S). joint before old rule x.outer) part_is in
          let laid : Laid before over.0.base (joint before old rule s.outer) vs n =
          subst (λ (us : List (Vertex S)). Laid before us (joint before old rule s.outer) vs n) w.0 (subst (λ (t : Codes S). Laid before R.stands.0 t vs n) t_is come) in
          let g : Frame = record { pair = f.pair; outer = Some n } in
          let h : Held before old rule g vs (joint before old rule s.inner) = record {
            first = over.0.first;
            second = over.0.second;
            first_some = over.0.first_some;
            second_some = over.0.second_some;
            base = over.0.base;
            sound = over.0.sound;
            part = s;
            is = sym same_apart ∙ e;
            waits = (laid, refl);
          } in
          subst⁻¹ (λ (fs : List Frame). Running before old rule goal vs table fs (Meet s.inner)) top
          (record {
            sound = R.sound;
            more = R.more;
            extends = R.extends;
            right = R.right;
            stands = (parted.inner_first, parted.inner_second, (h, over.1));
          })

      -- the frame's own vertex
      module _ (low capacity : ℕ) (stage : f.outer ≡ Some low) (ws : List (Vertex S)) where
        made_is : joint before old rule f.pair ≡ make s.label (joint before old rule s.outer) (joint before old rule s.inner)
        made_is = parted.is

        outcome : (r : Result ℕ Full) → Coupled capacity vs s.label low n r ws → Couples before order over.0.base (joint before old rule f.pair) capacity vs r ws
        outcome r c =
            let w : Laid before over.0.base (joint before old rule over.0.part.outer) R.stands.0 low × (R.stands.1 ≡ joint before old rule over.0.part.inner) =
            subst (λ (x : Option ℕ). Waits before old rule over.0.part over.0.base x R.stands.0 R.stands.1) stage over.0.waits in
            let outer : Laid before over.0.base (joint before old rule s.outer) R.stands.0 low =
            subst (λ (x : Split S). Laid before over.0.base (joint before old rule x.outer) R.stands.0 low) part_is w.0 in
            let inner : Laid before R.stands.0 (joint before old rule s.inner) vs n =
            subst (λ (t : Codes S). Laid before R.stands.0 t vs n) (w.1 ∙ ap (λ (x : Split S). joint before old rule x.inner) part_is) come in
            let proper : Proper before (make s.label (joint before old rule s.outer) (joint before old rule s.inner)) =
            subst (Proper before) made_is (joint_proper before order old (old_sound R.sound R.more R.extends) rule f.pair over.0.first over.0.second) in
            subst⁻¹ (λ (t : Codes S). Couples before order over.0.base t capacity vs r ws) made_is
            (couples before order over.0.base R.stands.0 vs over.0.sound (joint before old rule s.outer) (joint before old rule s.inner) low n outer inner s.label proper capacity ws r c)

        pub turn_full : (e : Full) → Coupled capacity vs s.label low n (Err e) ws → (capacity < length (lay before (lists old) goal)) × ((more : List (Vertex S)) × (ws ≡ old ++ more))
        turn_full full c =
            let o = outcome (Err full) c in
            let l = stack_longer before order old rule goal (old_sound R.sound R.more R.extends) frames over.0.base (joint before old rule f.pair) over.1 in
            let h = o.0 in
            (omega arith, (R.more, o.1 ∙ R.extends))

        pub turn_couple : (m : ℕ) (told : Question → Option ℕ) → Coupled capacity vs s.label low n (Ok m) ws → Told table (asked rule f.pair) m told →
            Running before old rule goal ws told frames (Answer m)
        turn_couple m told c tells =
            let o = outcome (Ok m) c in
            let laid : Laid before over.0.base (joint before old rule f.pair) ws m = o.0 in
            let ext : ws ≡ old ++ (R.more ++ o.1.0) = o.1.1 ∙ ap (λ (us : List (Vertex S)). us ++ o.1.0) R.extends ∙ append_assoc old R.more o.1.0 in
            let right : Right before ws table = subst⁻¹ (λ (us : List (Vertex S)). Right before us table) o.1.1 (right_front before order vs o.1.0 table R.right) in
            let mine : RightEntry before ws (asked rule f.pair) m = record {
              first = o_good laid.sound (R.more ++ o.1.0) ext f.pair.first over.0.first;
              second = o_good laid.sound (R.more ++ o.1.0) ext f.pair.second over.0.second;
              answer = laid.good;
              is = laid.is ∙ sym (o_joint laid.sound (R.more ++ o.1.0) ext f.pair over.0.first over.0.second);
            } in
            record {
              sound = laid.sound;
              more = R.more ++ o.1.0;
              extends = ext;
              right = λ q k is. entry q k (right q k) mine (tells q k is);
              stands = (over.0.base, joint before old rule f.pair, over.1, laid);
            }
          where
            o_good : Sound before ws → (more : List (Vertex S)) → ws ≡ old ++ more → (k : ℕ) → Good old k → Good ws k
            o_good sw more x k g = subst⁻¹ (λ (us : List (Vertex S)). Good us k) x (good_front before order old more k g)

            o_joint : Sound before ws → (more : List (Vertex S)) → ws ≡ old ++ more → (pair : Pair) → Good old pair.first → Good old pair.second → joint before ws rule pair ≡ joint before old rule pair
            o_joint sw more x pair gf gs =
                ap (λ (us : List (Vertex S)). joint before us rule pair) x ∙ joint_front before order old more rule pair gf gs

            entry : (q : Question) (k : ℕ) → (table q ≡ Some k → RightEntry before ws q k) → RightEntry before ws (asked rule f.pair) m →
                (table q ≡ Some k) ⊎ ((q ≡ asked rule f.pair) × (k ≡ m)) → RightEntry before ws q k
            entry q k right mine (inl is) = right is
            entry q k right mine (inr is) =
                subst⁻¹ (λ (x : Question). RightEntry before ws x k) is.0 (subst⁻¹ (λ (x : ℕ). RightEntry before ws (asked rule f.pair) x) is.1 mine)

module _ {S : Type 0} (before : S → S → Bool) (old : List (Vertex S)) (rule : ℕ) (goal : Codes S) (table : Question → Option ℕ) (frames : List Frame) where
  -- the same frames and the same turn
  pub at_turn : (vs : List (Vertex S)) (after : List Frame) (turn next : Turn) → frames ≡ after → turn ≡ next → Running before old rule goal vs table frames turn → Running before old rule goal vs table after next
  at_turn vs after turn next same is R =
      subst (λ (x : Turn). Running before old rule goal vs table after x) is (subst (λ (fs : List Frame). Running before old rule goal vs table fs turn) same R)

  -- the walk ends
  pub ends : (vs : List (Vertex S)) (turn : Turn) (n : ℕ) → frames ≡ [] → turn ≡ Answer n → Running before old rule goal vs table frames turn → Laid before old goal vs n × Right before vs table
  ends vs turn n none is R =
      let Q = at_turn vs [] turn (Answer n) none is R in
      let s = Q.stands.2 in
      (subst (λ (us : List (Vertex S)). Laid before us goal vs n) s.0 (subst (λ (t : Codes S). Laid before Q.stands.0 t vs n) s.1 Q.stands.3), Q.right)

-- and begins
pub begins : {S : Type 0} (before : S → S → Bool) (vs : List (Vertex S)) (rule : ℕ) (table : Question → Option ℕ) (pair : Pair) (frames : List Frame) → frames ≡ [] →
    Sound before vs → Good vs pair.first → Good vs pair.second → Right before vs table → Running before vs rule (joint before vs rule pair) vs table frames (Meet pair)
begins before vs rule table pair frames none sound first second right =
    subst⁻¹ (λ (fs : List Frame). Running before vs rule (joint before vs rule pair) vs table fs (Meet pair)) none
    (record { sound = sound; more = []; extends = sym (append-nil vs); right = right; stands = (first, second, (refl, refl)) })
