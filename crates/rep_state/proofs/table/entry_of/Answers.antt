use Rattle.std.proofs.Common.{◌∙◌}
use Rattle.rep_state.proofs.Rows.{found_by_client}
use Rattle.rep_state.proofs.table.entry_of.Goals as goal

pub returns : goal.returns
returns c = c.get.ensures.value ∙ found_by_client c.args.client.now c.args.table.now.entries
