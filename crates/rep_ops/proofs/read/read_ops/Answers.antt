use Rattle.std.proofs.Common.{[], ap, sym, ◌∙◌}
use Rattle.std.proofs.lemmas.Result.{err_from_is_err_and}
use Rattle.rep_read.specs.Reading.{op_at}
use Rattle.rep_ops.specs.Reading.{listed_at, may_follow}
use Rattle.rep_ops.proofs.Loop.{goes_on, misplaced, ends, is_done}
use Rattle.rep_ops.proofs.read.read_ops.Goals as goal

pub returns-in_err-op : goal.returns-in_err-op
returns-in_err-op c =
    let p = err_from_is_err_and c.from_residual.result c.from_residual.ensures.1 in
    rw (p.1, p.2) (ends (op_at c.args.version) may_follow c.in_err-op.field-0.0 c.loop.ops.items c.args.count c.loop.counter c.loop.rest.now (listed_at (op_at c.args.version) may_follow c.args.count [] c.args.bytes.now) c.loop-test.true c.in_err-op.ensures c.loop.invariant)

pub returns-then-not-may_follow : goal.returns-then-not-may_follow
returns-then-not-may_follow c =
    let test = sym (ap (λ ops. may_follow ops c.in_ok-op.op) c.as_slice.ensures.value) ∙ (sym c.may_follow.ensures ∙ c.if-not-may_follow.true) in
    misplaced (op_at c.args.version) may_follow c.loop.ops.items c.args.count c.loop.counter c.loop.rest.now c.in_ok-op.op c.in_ok-op.after.now (listed_at (op_at c.args.version) may_follow c.args.count [] c.args.bytes.now) c.loop-test.true c.in_ok-op.ensures test c.loop.invariant

pub loop-preserved : goal.loop-preserved
loop-preserved c =
    let test = sym (ap (λ ops. may_follow ops c.in_ok-op.op) c.as_slice.ensures.value) ∙ (sym c.may_follow.ensures ∙ c.if-not-may_follow.false) in
    rw c.in_ok-push.ensures.items (goes_on (op_at c.args.version) may_follow c.loop.ops.items c.args.count c.loop.counter c.loop.rest.now c.in_ok-op.op c.in_ok-op.after.now (listed_at (op_at c.args.version) may_follow c.args.count [] c.args.bytes.now) c.loop-test.true c.in_ok-op.ensures test c.loop.invariant)

pub returns : goal.returns
returns c = is_done (op_at c.args.version) may_follow c.loop.ops.items c.args.count c.loop.counter c.loop.rest.now (listed_at (op_at c.args.version) may_follow c.args.count [] c.args.bytes.now) c.loop-test.false c.loop.invariant
