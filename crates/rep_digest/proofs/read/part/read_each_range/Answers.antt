use Rattle.std.proofs.Common.{[]}
use Rattle.std.proofs.lemmas.Result.{err_from_is_err_and}
use Rattle.rep_read.specs.Reading.{many_at, range_at}
use Rattle.rep_read.proofs.Many.{many_goes_on, many_ends, many_done}
use Rattle.rep_digest.proofs.read.part.read_each_range.Goals as goal

pub returns-in_err-range : goal.returns-in_err-range
returns-in_err-range c =
    let p = err_from_is_err_and c.from_residual.result c.from_residual.ensures.1 in
    rw (p.1, p.2) (many_ends range_at c.in_err-range.field-0.0 c.loop.ranges.items c.args.count c.loop.counter c.loop.rest.now (many_at range_at c.args.count [] c.args.bytes.now) c.loop-test.true c.in_err-range.ensures c.loop.invariant)

pub loop-preserved : goal.loop-preserved
loop-preserved c =
    rw c.in_ok-push.ensures.items (many_goes_on range_at c.loop.ranges.items c.args.count c.loop.counter c.loop.rest.now c.in_ok-range.range c.in_ok-range.after.now (many_at range_at c.args.count [] c.args.bytes.now) c.loop-test.true c.in_ok-range.ensures c.loop.invariant)

pub returns : goal.returns
returns c = many_done range_at c.loop.ranges.items c.args.count c.loop.counter c.loop.rest.now (many_at range_at c.args.count [] c.args.bytes.now) c.loop-test.false c.loop.invariant
