-- The calls: for each, what it answers from a state, over any arguments and memory, and what state it leaves.
-- A store's capacity never changes; `before` is the order of its symbols.
use Rattle.std.specs.Prelude.{◌≡◌, ℕ, ◌^◌, ◌≤◌, Bool, ◌⊎◌, List, [], ◌∷◌, ◌++◌, map, length, drop, Some, None, Ok, Err, Option, Result, nat_le, nat_lt}
use Rattle.std.specs.List.{slice_get}
use Rattle.std.specs.Option.{option_map}
use Rattle.symbols.specs.Wire.{Travel}
use Rattle.ledger.specs.Lists.{Codes}
use Rattle.ledger.specs.Diagrams.{look, parts, Reached, Counts}
use Rattle.ledger.specs.Ledger.{lists, codes, number, Lays}
use Rattle.ledger.specs.Operations.{has, takes, join, added, removed, under}
use Rattle.ledger.specs.Ordered.{ordered}
use Rattle.ledger.specs.Gather.{gather, renumber, Keeps}
use Rattle.memory.specs.declared.recall.Question.{Question}
use Rattle.memory.specs.declared.work.Place.{Place}
use Rattle.paths.specs.Changed.{changed}
use Rattle.paths.specs.declared.changing.Change.{Change}
use Rattle.joining.specs.Recalled.{RightEntry}
use Rattle.wire.specs.Written.{written}
use Rattle.store.specs.declared.fault.Fault.{Fault}
use Rattle.store.specs.declared.fault.Fault.TheVariants.{NoSuchRule, ShortOutput, TooManyCodes, NoSuchCode, ShelfFull}
use Rattle.store.specs.State.{State, Forgotten, check, check_lists, check_code, check_work, check_output, answered, Checked}

module _ {S : Type 0} (before : S → S → Bool) (capacity : ℕ) where
  -- a list is laid down, and the table stays; or the shelf is full, the vertices stay, and the table is forgotten
  abbrev pub LaidDown : State S → Codes S → Result ℕ Fault → State S → Type 0
  LaidDown s t (Ok n) s' = Lays {F = Fault} before capacity s.vertices t (Ok n) s'.vertices × (s'.table ≡ s.table)
  LaidDown s t (Err fault) s' =
      (fault ≡ ShelfFull) × Lays before capacity s.vertices t (Err fault) s'.vertices × Forgotten s'.table

  abbrev pub change_checks : State S → ℕ → List S → List Place → Option Fault
  change_checks s list code work = check_lists s.vertices 0 (list ∷ []) (check_code code (check_work capacity work None))

  -- the list that a change by a code makes of it, laid down; its number
  abbrev pub Changes : Change → State S → ℕ → List S → List Place → Result ℕ Fault → State S → Type 0
  Changes change s list code work r s' =
      Checked (change_checks s list code work) r (s' ≡ s) (LaidDown s (changed before change (codes s.vertices list) code) r s')

  -- the list with the code, laid down; its number
  abbrev pub Adds : State S → ℕ → List S → List Place → Result ℕ Fault → State S → Type 0
  Adds s list code work r s' =
      Checked (change_checks s list code work) r (s' ≡ s) (LaidDown s (added before (codes s.vertices list) code) r s')

  -- the list without the code, laid down; its number
  abbrev pub Removes : State S → ℕ → List S → List Place → Result ℕ Fault → State S → Type 0
  Removes s list code work r s' =
      Checked (change_checks s list code work) r (s' ≡ s) (LaidDown s (removed before (codes s.vertices list) code) r s')

  -- the join of two lists by a rule, laid down; its number. Each entry of the table after is an old one, or right.
  abbrev pub JoinedDown : State S → Codes S → Result ℕ Fault → State S → Type 0
  JoinedDown s t (Ok n) s' =
      Lays {F = Fault} before capacity s.vertices t (Ok n) s'.vertices ×
      ((q : Question) (k : ℕ) → s'.table q ≡ Some k → (s.table q ≡ Some k) ⊎ RightEntry before s'.vertices q k)
  JoinedDown s t (Err fault) s' = LaidDown s t (Err fault) s'

  abbrev pub join_checks : State S → ℕ → ℕ → ℕ → List Place → Option Fault
  join_checks s rule first second work =
      check_lists s.vertices 0 (first ∷ second ∷ []) (check (nat_lt 7 rule) NoSuchRule (check_work capacity work None))

  abbrev pub Joins : State S → ℕ → ℕ → ℕ → List Place → Result ℕ Fault → State S → Type 0
  Joins s rule first second work r s' =
      Checked (join_checks s rule first second work) r
      (s' ≡ s) (JoinedDown s (join before (takes rule) (codes s.vertices first) (codes s.vertices second)) r s')

  -- what remains of the codes that begin with a code: its number, which it has already
  abbrev pub Unders : State S → ℕ → List S → Result ℕ Fault → Type 0
  Unders s list code r =
      r ≡ answered (check_lists s.vertices 0 (list ∷ []) (check_code code None))
      (number before (lists s.vertices) (under before (codes s.vertices list) code))

  -- whether the code is in the list
  abbrev pub Holds : State S → ℕ → List S → Result Bool Fault → Type 0
  Holds s list code r =
      r ≡ answered (check_lists s.vertices 0 (list ∷ []) (check_code code None)) (has before (codes s.vertices list) code)

  -- the label, the zero link and the one link of a number; never refused
  abbrev pub Looks : State S → ℕ → Option (S × ℕ × ℕ) → Type 0
  Looks s n r = r ≡ option_map parts (look s.vertices n)

  abbrev pub count_checks : State S → ℕ → List Place → Option Fault → Option Fault
  count_checks s list work behind = check_lists s.vertices 0 (list ∷ []) (check_work capacity work behind)

  -- 2^64 codes or more
  abbrev pub check_many : List (List S) → Option Fault → Option Fault
  check_many cs behind = check (nat_le (2 ^ 64) (length cs)) TooManyCodes behind

  -- how many codes the list has
  abbrev pub CountsCodes : State S → ℕ → List Place → Result ℕ Fault → Type 0
  CountsCodes s list work r =
      r ≡ answered (count_checks s list work (check_many (ordered (codes s.vertices list)) None)) (length (ordered (codes s.vertices list)))

  -- how many vertices are reached from the number
  abbrev pub CountsVertices : State S → ℕ → List Place → Result ℕ Fault → Type 0
  CountsVertices s list work (Ok n) = (count_checks s list work None ≡ None) × Counts (Reached s.vertices list) n
  CountsVertices s list work (Err fault) = count_checks s list work None ≡ Some fault

  -- the code with k before it, at the start of the output, and its length; symbols past it don't change
  abbrev pub Picked : State S → ℕ → ℕ → List S → Result ℕ Fault → List S → Type 0
  Picked s list k out (Ok n) out' =
      (code : List S) × (slice_get (ordered (codes s.vertices list)) k ≡ Some code) × (n ≡ length code) × (out' ≡ code ++ drop n out)
  Picked s list k out (Err fault) out' =
      (fault ≡ NoSuchCode) × (length (ordered (codes s.vertices list)) ≤ k) × (out' ≡ out)

  abbrev pub pick_checks : State S → ℕ → List S → List Place → Option Fault → Option Fault
  pick_checks s list out work behind = check_lists s.vertices 0 (list ∷ []) (check_output out (check_work capacity work behind))

  abbrev pub Picks : State S → ℕ → ℕ → List S → List Place → Result ℕ Fault → List S → Type 0
  Picks s list k out work r out' =
      Checked (pick_checks s list out work (check_many (ordered (codes s.vertices list)) None)) r
      (out' ≡ out) (Picked s list k out r out')

  -- exactly the lists of the keep-list and all reached from them stay, in their order; the keep-list gets their new
  -- numbers, used is answered, and the table is forgotten
  abbrev pub ClearedOut : State S → List ℕ → Result ℕ Fault → State S → List ℕ → Type 0
  ClearedOut s keep r s' keep' =
      (marks : List Bool) × Keeps s.vertices keep marks × (s'.vertices ≡ gather marks s.vertices) ×
      (keep' ≡ map (renumber marks) keep) × (r ≡ Ok (length s'.vertices)) × Forgotten s'.table

  abbrev pub ClearsOut : State S → List ℕ → List Place → Result ℕ Fault → State S → List ℕ → Type 0
  ClearsOut s keep work r s' keep' =
      Checked (check_lists s.vertices 0 keep (check_work capacity work None)) r
      ((s' ≡ s) × (keep' ≡ keep)) (ClearedOut s keep r s' keep')

  -- the dispatch of the list at the start of the output, and its length; bytes past it don't change
  abbrev pub Written : List ℕ → List ℕ → Result ℕ Fault → List ℕ → Type 0
  Written bytes out r out' = (r ≡ Ok (length bytes)) × (out' ≡ bytes ++ drop (length bytes) out)

  abbrev pub Writes : Travel S → State S → ℕ → List ℕ → List Place → Result ℕ Fault → List ℕ → Type 0
  Writes travel s list out work r out' =
      Checked (count_checks s list work (check (nat_lt (length out) (length (written before travel (codes s.vertices list)))) ShortOutput None)) r
      (out' ≡ out) (Written (written before travel (codes s.vertices list)) out r out')
