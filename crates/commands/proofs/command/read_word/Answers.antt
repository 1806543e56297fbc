use Rattle.std.proofs.Common.{codes, arith}
use Rattle.commands.proofs.Words.{named}
use Rattle.commands.proofs.command.read_word.Goals as goal

pub returns-in-REMOVE : goal.returns-in-REMOVE
returns-in-REMOVE c = named c.args.word.now (codes "REMOVE") (omega arith) (omega arith, (omega arith, (omega arith, (omega arith, (omega arith, (omega arith, tt))))))

pub returns-in-HOLDS : goal.returns-in-HOLDS
returns-in-HOLDS c = named c.args.word.now (codes "HOLDS") (omega arith) (omega arith, (omega arith, (omega arith, (omega arith, (omega arith, tt)))))

pub returns-in-UNDER : goal.returns-in-UNDER
returns-in-UNDER c = named c.args.word.now (codes "UNDER") (omega arith) (omega arith, (omega arith, (omega arith, (omega arith, (omega arith, tt)))))

pub returns-in-COUNT : goal.returns-in-COUNT
returns-in-COUNT c = named c.args.word.now (codes "COUNT") (omega arith) (omega arith, (omega arith, (omega arith, (omega arith, (omega arith, tt)))))

pub returns-in-WRITE : goal.returns-in-WRITE
returns-in-WRITE c = named c.args.word.now (codes "WRITE") (omega arith) (omega arith, (omega arith, (omega arith, (omega arith, (omega arith, tt)))))

pub returns-in-PICK : goal.returns-in-PICK
returns-in-PICK c = named c.args.word.now (codes "PICK") (omega arith) (omega arith, (omega arith, (omega arith, (omega arith, tt))))

pub returns-in-JOIN : goal.returns-in-JOIN
returns-in-JOIN c = named c.args.word.now (codes "JOIN") (omega arith) (omega arith, (omega arith, (omega arith, (omega arith, tt))))

pub returns-in-RECEIVE : goal.returns-in-RECEIVE
returns-in-RECEIVE c = named c.args.word.now (codes "RECEIVE") (omega arith) (omega arith, (omega arith, (omega arith, (omega arith, (omega arith, (omega arith, (omega arith, tt)))))))
