use Rattle.std.proofs.Common.{sym}
use Rattle.rep_retain.proofs.Placing.{found, absent}
use Rattle.rep_retain.proofs.table.find.Goals as goal

pub returns-in-Ok : goal.returns-in-Ok
returns-in-Ok c = sym (found c.args.topic.now c.args.entries.now c.in-Ok.at c.index-entries-at.result c.in-Ok.ensures.1)

pub returns-in-Err : goal.returns-in-Err
returns-in-Err c = sym (absent c.args.topic.now c.args.entries.now c.in-Err.field-0 c.in-Err.ensures.1)
