use Rattle.std.proofs.Common.{◌≡◌, length}
use Rattle.gw_main.specs.Patterns.{is_pattern}
use Rattle.gw_main.proofs.patterns.is_pattern.Given as goal

abbrev pub invariant-octets : goal.invariant-octets
invariant-octets l = is_pattern l.text ≡ is_pattern l.left

abbrev pub decreases-octets : goal.decreases-octets
decreases-octets l = length l.left
