use Rattle.std.proofs.Math.Logic.{∥∥₁_map}
use Rattle.gw_shift.proofs.Histories.{from_first}
use Rattle.gw_shift.proofs.locked.Locked.ended.Goals as goal

pub invariant_of-result-clause-legal : goal.invariant_of-result-clause-legal
invariant_of-result-clause-legal g c = ∥∥₁_map c.args.self.legal (from_first _ _ _ _)
