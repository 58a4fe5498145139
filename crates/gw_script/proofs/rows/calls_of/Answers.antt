-- One more call, a line that is none, and no line.
use Rattle.std.proofs.Common.{◌≡◌, ◌+◌, length, ap, ◌∙◌, arith}
use Rattle.std.proofs.lemmas.List.{length_push}
use Rattle.gw_script.proofs.Together.{one_call_more, told_at, missing_at}
use Rattle.gw_script.proofs.rows.calls_of.Goals as goal

pub loop-line-preserved : goal.loop-line-preserved
loop-line-preserved c =
    let size = ap length c.in_ok-push.ensures.items ∙ length_push c.loop-line.calls.items c.in-Ok.call in
    record {
      counted = omega (arith, size, c.loop-line.invariant.counted);
      few = omega (arith, c.loop-line.calls.ok.0, c.loop-line.invariant.counted, c.loop-line.invariant.few);
      spelled = one_call_more c.args.gateway c.args.lines.now c.loop-line.line-index _ c.loop-line.calls.items c.push.new.self.items c.in-Ok.call c.loop-line-test.true c.loop-line.invariant.spelled c.in-Ok.ensures.ok c.in_ok-push.ensures.items;
    }

pub returns-in-Err-clause-err : goal.returns-in-Err-clause-err
returns-in-Err-clause-err c = λ k e.
    let told = c.in-Err.ensures.err k (cc) in
    told_at c.args.gateway c.args.count c.args.before k c.args.lines.now c.loop-line.line-index _ c.loop-line.calls.items
    c.loop-line-test.true c.loop-line.invariant.counted (omega (arith, c.loop-line.calls.ok.0, c.loop-line.invariant.counted, c.loop-line.invariant.few)) (omega (arith, told.0, c.loop-line.calls.ok.0, c.loop-line.invariant.counted))
    c.loop-line.invariant.spelled told.1

pub returns-clause-err : goal.returns-clause-err
returns-clause-err c = λ k e.
    let same : k ≡ c.args.before + c.len-read-2.result + 1 = cc in
    missing_at c.args.gateway c.args.count c.args.before k c.args.lines.now c.loop-line.line-index c.loop-line.calls.items
    c.loop-line-test.false c.loop-line.invariant.counted (omega (arith, c.loop-line.calls.ok.0, c.loop-line.invariant.counted, c.loop-line.invariant.few)) (omega (arith, same, c.loop-line.calls.ok.0, c.loop-line.invariant.counted))
    c.loop-line.invariant.spelled
