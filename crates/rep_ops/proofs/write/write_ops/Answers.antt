use Rattle.std.proofs.Common.{take}
use Rattle.std.specs.List.{flat_map}
use Rattle.std.proofs.lemmas.Result.{err_from_is_err_and}
use Rattle.rep_op.specs.Spelling.{op_octets}
use Rattle.rep_write.proofs.Writing.{keeps_through}
use Rattle.rep_ops.proofs.write.write_ops.Goals as goal

pub returns-in_err-write_op : goal.returns-in_err-write_op
returns-in_err-write_op c =
    let p = err_from_is_err_and c.from_residual.result c.from_residual.ensures.1 in
    rw p.1 (keeps_through c.args.out.now.items (flat_map (op_octets c.args.version) (take c.loop-op.op-index c.args.ops.now)) c.loop-op.out.items c.write_op.new.out.items c.loop-op.invariant c.in_err-write_op.ensures)
