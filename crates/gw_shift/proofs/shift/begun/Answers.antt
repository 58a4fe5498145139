use Rattle.std.proofs.Common.{ap}
use Rattle.gw_node.specs.Parts.{state_of}
use Rattle.gw_shift.proofs.Histories.{begins}
use Rattle.gw_shift.proofs.shift.begun.Goals as goal

pub invariant_of-result-clause-legal : goal.invariant_of-result-clause-legal
invariant_of-result-clause-legal g c = rw c.requires.empty (∣ (begins _ _ _ (ap (state_of g.R.Replica.kept) c.requires.given) c.requires.held) ∣₁)
