use Rattle.std.proofs.Common.{◌≡◌, ◌++◌, map, take}
use Rattle.sn_plan.specs.Numbering.{ack_of}
use Rattle.sn_plan.proofs.numbering.append_acks.Given as goal

abbrev pub invariant-loop-seq : goal.invariant-loop-seq
invariant-loop-seq l = l.ops.items ≡ l.fn.ops.items ++ map (ack_of l.client) (take l.seq-index l.acks)
