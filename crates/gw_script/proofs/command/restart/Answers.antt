use Rattle.gw_script.proofs.Lines.{no_spared}
use Rattle.gw_script.proofs.command.restart.Goals as goal

pub returns-in-None : goal.returns-in-None
returns-in-None c = no_spared c.args.fields.now _ (rw c.in-None.is at c.spared.ensures)
