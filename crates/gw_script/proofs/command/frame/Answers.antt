use Rattle.gw_script.proofs.Lines.{no_octets}
use Rattle.gw_script.proofs.command.frame.Goals as goal

pub returns-in-None : goal.returns-in-None
returns-in-None c = no_octets c.args.fields.now _ (rw c.in-None.is at c.in_ok-bytes.ensures)
