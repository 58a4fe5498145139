use Rattle.std.proofs.Common.{◌-◌, length, arith, refl}
use Rattle.std.proofs.lemmas.Option.{slice_get_read}
use Rattle.rep_ops.proofs.join.has_twice.Goals as goal

pub returns-then-share_name-clause-twice : goal.returns-then-share_name-clause-twice
returns-then-share_name-clause-twice c = λ _.
    let low = c.loop-i.auto.i in (
      c.loop-i.i - 1,
      c.loop-i.i,
      c.index-ops-i.result,
      c.index-ops-i-in-loop-i.result,
      omega arith,
      slice_get_read c.args.ops.now (length c.args.ops.now) (c.loop-i.i - 1) c.index-ops-i.result refl (omega arith) c.index-ops-i.is,
      slice_get_read c.args.ops.now (length c.args.ops.now) c.loop-i.i c.index-ops-i-in-loop-i.result refl c.loop-i-test.true c.index-ops-i-in-loop-i.is,
      c.share_name.ensures.0 c.if-share_name.true,
    )
