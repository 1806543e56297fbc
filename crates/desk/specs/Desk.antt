-- What a line is answered, and what it leaves: the calls of the store, in the words of the line.
use Rattle.std.specs.Prelude.{◌≡◌, ℕ, Bool, ◌⊎◌, List, take, Ok, Err, Result}
use Rattle.std.specs.Borrow.{Bor}
use Rattle.commands.specs.Grammar.{Line, Says, add, remove, holds, under, count, write, pick, join, receive}
use Rattle.memory.specs.declared.work.Place.{Place}
use Rattle.store.specs.declared.fault.Fault.{Fault}
use Rattle.store.specs.State.{State}
use Rattle.store.specs.Calls.{Adds, Removes, Joins, Unders, Holds, CountsCodes, Picks}
use Rattle.texts.specs.declared.TextFault.{TextFault}
use Rattle.desk.specs.declared.reply.Reply.{Reply}
use Rattle.desk.specs.declared.reply.Reply.TheVariants.{List as a_list, Count, Truth, Picked}
use Rattle.desk.specs.declared.reply.LineFault.{LineFault}
use Rattle.desk.specs.declared.reply.LineFault.TheVariants as faults
use Rattle.desk.specs.Replies.{told}

-- an unreadable line, or one that is not served
abbrev pub Unreadable : {S : Type 0} → State S → Result Reply LineFault → State S → Type 0
Unreadable s reply s' = (reply ≡ Err faults.Unreadable) × (s' ≡ s)

-- a text that spells a code goes to the call; any other is refused, and nothing changes
abbrev pub Coded : {S : Type 0} → Result (List S) TextFault → State S → Result Reply LineFault → State S → (List S → Type 0) → Type 0
Coded (Ok code) s reply s' calls = calls code
Coded (Err fault) s reply s' calls = (reply ≡ Err (faults.Text fault)) × (s' ≡ s)

-- the code that a text spells, cut where the room ends; or the text spells none
abbrev pub Fitted : {S : Type 0} → Result (List S) TextFault → ℕ → Result (Bor (List S)) TextFault → Type 0
Fitted {S} spelled room (Ok part) = (code : List S) × (spelled ≡ Ok code) × (part.now ≡ take room code)
Fitted spelled room (Err fault) = spelled ≡ Err fault

module _ {S : Type 0} (before : S → S → Bool) (spells : List ℕ → Result (List S) TextFault) (capacity : ℕ) where
  -- what a readable line is answered: the call that it names, with its numbers and the code that its text spells, takes
  -- the state s to s', and the reply tells its result. A picked code goes to the start of the symbol output, from out to
  -- out'.
  abbrev pub Calls : State S → List Place → List S → Line → Result Reply LineFault → State S → List S → Type 0
  Calls s work out (add list text) reply s' out' =
      Coded (spells text) s reply s' (λ code. (r : Result ℕ Fault) × Adds before capacity s list code work r s' × (reply ≡ told a_list r))
  Calls s work out (remove list text) reply s' out' =
      Coded (spells text) s reply s' (λ code. (r : Result ℕ Fault) × Removes before capacity s list code work r s' × (reply ≡ told a_list r))
  Calls s work out (holds list text) reply s' out' =
      Coded (spells text) s reply s' (λ code. (r : Result Bool Fault) × Holds before capacity s list code r × (reply ≡ told Truth r) × (s' ≡ s))
  Calls s work out (under list text) reply s' out' =
      Coded (spells text) s reply s' (λ code. (r : Result ℕ Fault) × Unders before capacity s list code r × (reply ≡ told a_list r) × (s' ≡ s))
  Calls s work out (count list) reply s' out' =
      (r : Result ℕ Fault) × CountsCodes before capacity s list work r × (reply ≡ told Count r) × (s' ≡ s)
  Calls s work out (pick list k) reply s' out' =
      (r : Result ℕ Fault) × Picks before capacity s list k out work r out' × (reply ≡ told Picked r) × (s' ≡ s)
  Calls s work out (join rule first second) reply s' out' =
      (r : Result ℕ Fault) × Joins before capacity s rule first second work r s' × (reply ≡ told a_list r)
  Calls s work out (write list) reply s' out' = Unreadable s reply s'
  Calls s work out (receive text) reply s' out' = Unreadable s reply s'

  -- what any bytes are answered: what the line that they say is, or, if they say none, refusal 18
  abbrev pub Serves : State S → List Place → List S → List ℕ → Result Reply LineFault → State S → List S → Type 0
  Serves s work out bytes reply s' out' =
      ((l : Line) × Says bytes l × Calls s work out l reply s' out') ⊎ (((l : Line) → Says bytes l → ⊥) × Unreadable s reply s')
