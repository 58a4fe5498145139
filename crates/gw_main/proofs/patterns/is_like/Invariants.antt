use Rattle.std.proofs.Common.{◌≡◌, length}
use Rattle.gw_main.specs.Patterns.{is_like}
use Rattle.gw_main.proofs.patterns.is_like.Given as goal

abbrev pub invariant-octets : goal.invariant-octets
invariant-octets l = is_like l.pattern l.id ≡ is_like l.wanted l.left

abbrev pub decreases-octets : goal.decreases-octets
decreases-octets l = length l.wanted
