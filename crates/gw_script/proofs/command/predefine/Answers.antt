use Rattle.gw_script.proofs.Lines.{no_name}
use Rattle.gw_script.proofs.command.predefine.Goals as goal

pub returns-in-None : goal.returns-in-None
returns-in-None c = let none = rw c.in-None.is at c.in_ok-octets.ensures in no_name c.args.fields.now _ (λ octets hex name. none octets hex)
