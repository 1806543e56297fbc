-- What a command that borrows from its line means.
use Rattle.commands.specs.declared.command.Command.{Command}
use Rattle.commands.specs.declared.command.Command.TheVariants.{Add, Remove, Holds, Under, Count, Write, Pick, Join, Receive}
use Rattle.commands.specs.Grammar.{Line}
use Rattle.commands.specs.Grammar.{add, remove, holds, under, count, write, pick, join, receive}

abbrev pub meaning : Command → Line
meaning (Add n code) = add n code.now
meaning (Remove n code) = remove n code.now
meaning (Holds n code) = holds n code.now
meaning (Under n code) = under n code.now
meaning (Count n) = count n
meaning (Write n) = write n
meaning (Pick n k) = pick n k
meaning (Join rule m n) = join rule m n
meaning (Receive hex) = receive hex.now
