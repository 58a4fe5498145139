use Rattle.std.proofs.Common.{◌≡◌, length}
use Rattle.br_core.specs.Sides.{sends}
use Rattle.br_core.proofs.sides.sends.Given as goal

-- what is left to be sent makes the same of it
abbrev pub invariant-sending : goal.invariant-sending
invariant-sending l = sends l.settings l.bridge ≡ sends l.settings l.fn.bridge

abbrev pub decreases-sending : goal.decreases-sending
decreases-sending l = length l.bridge.waiting
