-- What the reader refuses is no call.
use Rattle.gw_script.proofs.Together.{refuses}
use Rattle.gw_script.proofs.rows.read_call.Goals as goal

pub returns-in-Err-clause-refused : goal.returns-in-Err-clause-refused
returns-in-Err-clause-refused c = λ e. refuses c.args.gateway c.args.line.now c.read_command.result c.read_command.ensures.reads (cc)
