-- The line has its number.
use Rattle.std.proofs.Common.{◌≡◌}
use Rattle.gw_script.proofs.rows.call_at.Goals as goal

pub returns-in-Err-NotACommand-clause-err : goal.returns-in-Err-NotACommand-clause-err
returns-in-Err-NotACommand-clause-err c = λ k e. let same : k ≡ c.args.number = cc in (same, c.in-Err-NotACommand.ensures.refused (cc))
