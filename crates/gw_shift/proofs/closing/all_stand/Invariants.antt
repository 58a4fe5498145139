use Rattle.std.proofs.Common.{length}
use Rattle.gw_shift.specs.inner.Closing.{AllStand}
use Rattle.gw_shift.proofs.closing.all_stand.Given as goal

-- all stand where those that are left do
abbrev pub invariant-calls : goal.invariant-calls
invariant-calls l = AllStand l.history l.place l.left → AllStand l.history l.place l.calls

abbrev pub decreases-calls : goal.decreases-calls
decreases-calls l = length l.left
