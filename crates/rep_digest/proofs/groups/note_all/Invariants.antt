use Rattle.std.proofs.Common.{◌≡◌, ◌++◌, List, take}
use Rattle.rep_op.specs.declared.op.Op.{Op}
use Rattle.rep_digest.specs.inner.Steps.{groups}
use Rattle.rep_digest.proofs.groups.note_all.Given as goal

abbrev pub invariant-loop-op : goal.invariant-loop-op
invariant-loop-op l = (W : List Op) → l.fn.groups.items ≡ groups l.clients W → l.groups.items ≡ groups l.clients (W ++ take l.op-index l.ops)
