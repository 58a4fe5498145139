use Rattle.std.proofs.Common.{◌≡◌, ◌≤◌, ◌+◌, length, take}
use Rattle.std.specs.List.{flat_map}
use Rattle.rep_op.specs.Spelling.{op_octets}
use Rattle.rep_ops.proofs.size.is_within.Given as goal

abbrev pub invariant-loop-op : goal.invariant-loop-op
invariant-loop-op l = record {
  size : l.size ≡ 5 + length (flat_map (op_octets l.version) (take l.op-index l.ops));
  small : l.size ≤ 8388608;
}
