-- From no line to the last one, or to the first that is bad.
use Rattle.std.proofs.Common.{arith}
use Rattle.gw_script.specs.Scripts.IsScriptOf.{none}
use Rattle.gw_script.proofs.Growth.{one_turn, told_bad, told_bad_call, gateways}
use Rattle.gw_script.proofs.script.parse.Goals as goal

pub reading-init : goal.reading-init
reading-init c = record { within = omega arith; said = rw c.empty-script.ensures none }

pub reading-preserved : goal.reading-preserved
reading-preserved c =
    let turn = one_turn c.in_ok-lines.lines.items c.as_slice.result.now _ c.len.result c.reading.at c.in-Ok.next c.reading.script c.read_at.new.self
    c.as_slice.ensures.value c.in_ok-lines.lines.ok.0 c.len.ensures c.reading-test.true c.reading.invariant.said c.in-Ok.ensures.ok in
    record { within = turn.1; said = turn.2 }

pub returns-in-Err-clause-bad : goal.returns-in-Err-clause-bad
returns-in-Err-clause-bad c = λ k e.
    told_bad c.in_ok-lines.lines.items c.as_slice.result.now _ _ c.len.result c.reading.at k c.reading.script
    c.as_slice.ensures.value c.in_ok-lines.ensures c.in_ok-lines.lines.ok.0 c.len.ensures c.reading-test.true c.reading.invariant.said (c.in-Err.ensures.bad k (cc))

pub returns-in-Err-clause-call : goal.returns-in-Err-clause-call
returns-in-Err-clause-call c = λ k e.
    told_bad_call c.in_ok-lines.lines.items c.as_slice.result.now _ _ c.len.result c.reading.at k c.reading.script
    c.as_slice.ensures.value c.in_ok-lines.ensures c.in_ok-lines.lines.ok.0 c.len.ensures c.reading-test.true c.reading.invariant.said (c.in-Err.ensures.call k (cc))

pub returns-clause-gateways : goal.returns-clause-gateways
returns-clause-gateways c = gateways _ c.reading.script c.reading.invariant.said
