use Rattle.std.proofs.Common.{◌∙◌, arith}
use Rattle.std.proofs.lemmas.Result.{err_from_is_err_and}
use Rattle.mq_stream.proofs.Whole.{cut_faulty, cut_piece}
use Rattle.mq_stream.proofs.front.cut.Goals as goal

pub returns-in_err-packet-clause-err : goal.returns-in_err-packet-clause-err
returns-in_err-packet-clause-err c =
    let p = err_from_is_err_and c.from_residual-in_err-packet.result c.from_residual-in_err-packet.ensures.1 in
    let own = c.as_slice.ensures.value ∙ c.in_ok-own.ensures in
    rw (p.1, p.2) (cut_faulty c.args._octets.now c.as_slice.result.now c.split_at.result.0.now c.args.first c.args.said c.args.body.now c.in_err-packet.field-0.0 c.requires.head c.requires.long (omega arith) c.split_at.ensures.front own c.in_err-packet.ensures.fault)

pub returns-clause-ok : goal.returns-clause-ok
returns-clause-ok c =
    let own = c.as_slice.ensures.value ∙ c.in_ok-own.ensures in
    cut_piece c.args._octets.now c.as_slice.result.now c.split_at.result.0.now c.split_at.result.1.now c.args.first c.args.said c.args.body.now c.in_ok-packet.packet c.requires.head c.requires.long (omega arith) c.split_at.ensures.front c.split_at.ensures.back own c.in_ok-packet.ensures.ok
