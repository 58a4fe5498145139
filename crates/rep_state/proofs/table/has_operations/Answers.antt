use Rattle.std.proofs.Common.{Some, None, ap, ◌∙◌}
use Rattle.rep_shared.specs.Rows.{has_any}
use Rattle.rep_state.specs.Tables.{by_client}
use Rattle.rep_state.proofs.Reading.{own_found}
use Rattle.rep_state.proofs.table.has_operations.Goals as goal

pub returns-in-Some : goal.returns-in-Some
returns-in-Some c =
    let client = c.args.client.now in
    c.has_operations.ensures client ∙ ap has_any (own_found client (by_client c.args.table.now.entries) (Some c.in-Some.entry.now) c.in-Some.ensures)

pub returns-in-None : goal.returns-in-None
returns-in-None c = ap has_any (own_found c.args.client.now (by_client c.args.table.now.entries) None c.in-None.ensures)
