use Rattle.std.proofs.lemmas.Result.{err_from_is_err_and}
use Rattle.gw_script.proofs.Growth.{unreadable, not_empty}
use Rattle.gw_script.proofs.script.Script.extend.Goals as goal

pub returns-in_err-command-clause-refused : goal.returns-in_err-command-clause-refused
returns-in_err-command-clause-refused c = λ e.
    let p = err_from_is_err_and c.from_residual.result c.from_residual.ensures.1 in
    let same = p.2 in
    let told = p.1 in
    let was = c.in_err-command.was in
    unreadable c.args.self.now c.args.line.now c.read_command.result c.read_command.ensures.reads (cc) (not_empty c.args.line.now c.is_empty.result c.is_empty.ensures c.if-is_empty.false)
