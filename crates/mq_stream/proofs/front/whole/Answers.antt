use Rattle.std.proofs.Common.{arith}
use Rattle.std.proofs.lemmas.Result.{err_from_is_err_and}
use Rattle.mq_stream.proofs.Whole.{whole_faulty, whole_piece}
use Rattle.mq_stream.proofs.front.whole.Goals as goal

pub returns-in_err-packet-clause-err : goal.returns-in_err-packet-clause-err
returns-in_err-packet-clause-err c =
    let p = err_from_is_err_and c.from_residual.result c.from_residual.ensures.1 in
    rw (p.1, p.2) (whole_faulty c.args.octets.now c.split_at.result.0.now c.args.first c.args.said c.args.body.now c.in_err-packet.field-0.0 c.requires (omega arith) (omega arith) c.split_at.ensures.front c.in_err-packet.ensures.fault)

pub returns-clause-ok : goal.returns-clause-ok
returns-clause-ok c =
    whole_piece c.args.octets.now c.split_at.result.0.now c.split_at.result.1.now c.args.first c.args.said c.args.body.now c.in_ok-packet.packet c.requires (omega arith) (omega arith) c.split_at.ensures.front c.split_at.ensures.back c.in_ok-packet.ensures.ok
