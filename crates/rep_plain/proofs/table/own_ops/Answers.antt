use Rattle.std.proofs.Common.{Some, None, ◌∙◌}
use Rattle.rep_plain.proofs.Found.{own_found}
use Rattle.rep_plain.proofs.table.own_ops.Goals as goal

pub returns-in-Some : goal.returns-in-Some
returns-in-Some c = c.as_slice.ensures.value ∙ own_found c.args.client.now c.args.table.now.entries (Some c.in-Some.entry.now) c.in-Some.ensures.value

pub returns-in-None : goal.returns-in-None
returns-in-None c = own_found c.args.client.now c.args.table.now.entries None c.in-None.ensures.value
