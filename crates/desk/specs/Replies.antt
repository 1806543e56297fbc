-- What the result of a call is answered, the refusal of a line, and the text of a reply.
use Rattle.std.specs.Prelude.{◌≡◌, ◌≢◌, ℕ, ◌<◌, true, false, ◌⊎◌, List, length, take, Ok, Err, codes, decimal, Result}
use Rattle.symbols.specs.declared.Refusal.{Refusal}
use Rattle.symbols.specs.declared.ShortOutput.{ShortOutput}
use Rattle.symbols.specs.Refusals.{plain}
use Rattle.commands.specs.Answers.{ended, refused_text}
use Rattle.store.specs.declared.fault.Fault.{Fault}
use Rattle.store.specs.Refusals as calls
use Rattle.texts.specs.Refusals as texts
use Rattle.texts.specs.Texts.{Starts}
use Rattle.desk.specs.declared.reply.Reply.{Reply}
use Rattle.desk.specs.declared.reply.Reply.TheVariants.{List as a_list, Count, Truth, Picked}
use Rattle.desk.specs.declared.reply.LineFault.{LineFault}
use Rattle.desk.specs.declared.reply.LineFault.TheVariants.{Unreadable, Text, Store, Refused}

-- what a call answers, as a reply of this kind, or why the store refuses it
abbrev pub told : {A : Type 0} → (A → Reply) → Result A Fault → Result Reply LineFault
told kind (Ok a) = Ok (kind a)
told kind (Err fault) = Err (Store fault)

-- what a line is answered: never a refusal that is a number alone
abbrev pub Reasoned : Result Reply LineFault → Type 0
Reasoned reply = (number : ℕ) → reply ≢ Err (Refused number)

-- the refusal of a line, or of a number alone
abbrev pub line_refusal : LineFault → Refusal
line_refusal Unreadable = plain 18
line_refusal (Text fault) = texts.refusal fault
line_refusal (Store fault) = calls.refusal fault
line_refusal (Refused number) = plain number

-- the answer line of a reply, where a picked code has this text; or that of the refusal, by its number
abbrev pub reply_text : List ℕ → Result Reply LineFault → List ℕ
reply_text text (Ok (a_list n)) = ended (decimal n)
reply_text text (Ok (Count n)) = ended (decimal n)
reply_text text (Ok (Truth true)) = ended (codes "YES")
reply_text text (Ok (Truth false)) = ended (codes "NO")
reply_text text (Ok (Picked n)) = ended text
reply_text text (Err fault) = ended (refused_text (line_refusal fault).number)

-- the same where the refusal may be any, as it is told
abbrev pub reply_or_refusal_text : List ℕ → Result Reply Refusal → List ℕ
reply_or_refusal_text text (Ok reply) = reply_text text (Ok reply)
reply_or_refusal_text text (Err refusal) = ended (refused_text refusal.number)

-- the code that a reply picks from a symbol output
abbrev pub picked : {S E : Type 0} → List S → Result Reply E → List S
picked out (Ok (Picked n)) = take n out
picked out (Ok (a_list n)) = take 0 out
picked out (Ok (Count n)) = take 0 out
picked out (Ok (Truth b)) = take 0 out
picked out (Err fault) = take 0 out

-- the answer line of a reply stands at the start of the output, whose rest is as it was; refused, with the output as it
-- was, only if the line is longer than the output or than the room for a code's text
abbrev pub Put : List ℕ → List ℕ → List ℕ → Result ℕ ShortOutput → List ℕ → Type 0
Put line room old (Ok n) new = Starts line old new n
Put line room old (Err short) new = ((length old < length line) ⊎ (length room < length line)) × (new ≡ old)
