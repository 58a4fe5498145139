use Rattle.std.proofs.Common.{[]}
use Rattle.std.proofs.lemmas.Result.{err_from_is_err_and}
use Rattle.rep_read.specs.Reading.{many_at}
use Rattle.rep_digest.specs.Reading.{origin_at}
use Rattle.rep_read.proofs.Many.{many_goes_on, many_ends, many_done}
use Rattle.rep_digest.proofs.read.entry.read_each_origin.Goals as goal

pub returns-in_err-origin : goal.returns-in_err-origin
returns-in_err-origin c =
    let p = err_from_is_err_and c.from_residual.result c.from_residual.ensures.1 in
    rw (p.1, p.2) (many_ends origin_at c.in_err-origin.field-0.0 c.loop.origins.items c.args.count c.loop.counter c.loop.rest.now (many_at origin_at c.args.count [] c.args.bytes.now) c.loop-test.true c.in_err-origin.ensures c.loop.invariant)

pub loop-preserved : goal.loop-preserved
loop-preserved c =
    rw c.in_ok-push.ensures.items (many_goes_on origin_at c.loop.origins.items c.args.count c.loop.counter c.loop.rest.now c.in_ok-origin.origin c.in_ok-origin.after.now (many_at origin_at c.args.count [] c.args.bytes.now) c.loop-test.true c.in_ok-origin.ensures c.loop.invariant)

pub returns : goal.returns
returns c = many_done origin_at c.loop.origins.items c.args.count c.loop.counter c.loop.rest.now (many_at origin_at c.args.count [] c.args.bytes.now) c.loop-test.false c.loop.invariant
