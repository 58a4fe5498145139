-- A line that is neither.
use Rattle.gw_script.proofs.Together.{no_line}
use Rattle.gw_script.proofs.script.Script.read_at.Goals as goal

pub returns-in-Err-NotACommand-clause-bad : goal.returns-in-Err-NotACommand-clause-bad
returns-in-Err-NotACommand-clause-bad c = λ k e.
    let told = c.read_row.ensures.bad k e in
    (told.0, no_line c.args.lines.now c.args.at _ c.args.self.now c.requires (c.in-Err-NotACommand.ensures.refused (cc)) told.1)
