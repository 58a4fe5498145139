use Rattle.std.proofs.Common.{rules}
use Rattle.gw_shift.proofs.gathering.told.Goals as goal

-- the delta is the one that was found
pub returns-in-Some : goal.returns-in-Some
returns-in-Some c = (c.in-Some._delta.now, search rules, search rules)
