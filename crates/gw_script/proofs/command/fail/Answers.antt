use Rattle.gw_script.proofs.Lines.{no_failure}
use Rattle.gw_script.proofs.command.fail.Goals as goal

pub returns-in-None : goal.returns-in-None
returns-in-None c = no_failure c.args.fields.now _ (rw c.in-None.is at c.failure.ensures)
