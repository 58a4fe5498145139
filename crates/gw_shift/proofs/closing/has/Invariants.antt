use Rattle.std.proofs.Common.{◌≡◌, length}
use Rattle.gw_shift.specs.Closing.{has_number}
use Rattle.gw_shift.proofs.closing.has.Given as goal

-- it is among those that are left just where it is among all
abbrev pub invariant-calls : goal.invariant-calls
invariant-calls l = has_number l.number l.left ≡ has_number l.number l.calls

abbrev pub decreases-calls : goal.decreases-calls
decreases-calls l = length l.left
