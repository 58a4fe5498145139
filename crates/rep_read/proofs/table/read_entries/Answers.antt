use Rattle.std.proofs.Common.{[]}
use Rattle.std.proofs.lemmas.Result.{err_from_is_err_and}
use Rattle.rep_read.specs.Reading.{many_at, entry_at}
use Rattle.rep_read.proofs.Many.{many_goes_on, many_ends, many_done}
use Rattle.rep_read.proofs.table.read_entries.Goals as goal

pub returns-in_err-entry : goal.returns-in_err-entry
returns-in_err-entry c =
    let p = err_from_is_err_and c.from_residual.result c.from_residual.ensures.1 in
    rw (p.1, p.2) (many_ends entry_at c.in_err-entry.field-0.0 c.loop.entries.items c.args.count c.loop.counter c.loop.rest.now (many_at entry_at c.args.count [] c.args.bytes.now) c.loop-test.true c.in_err-entry.ensures c.loop.invariant)

pub loop-preserved : goal.loop-preserved
loop-preserved c =
    rw c.in_ok-push.ensures.items (many_goes_on entry_at c.loop.entries.items c.args.count c.loop.counter c.loop.rest.now c.in_ok-entry.entry c.in_ok-entry.after.now (many_at entry_at c.args.count [] c.args.bytes.now) c.loop-test.true c.in_ok-entry.ensures c.loop.invariant)

pub returns : goal.returns
returns c = many_done entry_at c.loop.entries.items c.args.count c.loop.counter c.loop.rest.now (many_at entry_at c.args.count [] c.args.bytes.now) c.loop-test.false c.loop.invariant
