use Rattle.std.proofs.Common.{take, All}
use Rattle.std.specs.Prelude.{IsTrue}
use Rattle.rep_op.specs.Values.{IsOpValue}
use Rattle.rep_op.specs.WellMade.{is_well_made}
use Rattle.rep_ops.proofs.size.are_well_made.Given as goal

abbrev pub invariant-loop-op : goal.invariant-loop-op
invariant-loop-op l = record {
  made : All (λ op. IsTrue (is_well_made op)) (take l.op-index l.ops);
  values : All IsOpValue (take l.op-index l.ops);
}
