use Rattle.std.proofs.Common.{◌-◌}
use Rattle.gw_random.proofs.report.random_run.Given as goal

abbrev pub decreases-loop-played : goal.decreases-loop-played
decreases-loop-played g l = l.events - l.played
