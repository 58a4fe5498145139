use Rattle.std.proofs.Common.{◌≡◌, ◌+◌, length}
use Rattle.gw_link.proofs.relay.numbers_of.Given as goal

-- those that were told, and room for others
abbrev pub invariant-places : goal.invariant-places
invariant-places l = length l.all.items + l.room ≡ l.most

abbrev pub decreases-places : goal.decreases-places
decreases-places l = length l.left
