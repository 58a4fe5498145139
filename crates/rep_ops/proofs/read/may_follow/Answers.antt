use Rattle.std.proofs.Common.{ap, sym, ◌∙◌, ◌&&◌}
use Rattle.std.specs.Ordering.{is_lt}
use Rattle.rep_ops.specs.Reading.{is_apart, is_next}
use Rattle.rep_ops.proofs.Loop.{follow_last}
use Rattle.rep_ops.proofs.read.may_follow.Goals as goal

pub returns-in-Less : goal.returns-in-Less
returns-in-Less c =
    let f = follow_last is_next c.args.ops.now c.in-Some.last.now c.args.op.now c.in-Some.ensures.value in
    c.is_apart.ensures ∙ sym (f ∙ ap (λ o. is_lt o && is_apart c.in-Some.last.now c.args.op.now) (sym c.name_order.ensures ∙ c.in-Less.is))

pub returns-in-Equal : goal.returns-in-Equal
returns-in-Equal c =
    let f = follow_last is_next c.args.ops.now c.in-Some.last.now c.args.op.now c.in-Some.ensures.value in
    sym (f ∙ ap (λ o. is_lt o && is_apart c.in-Some.last.now c.args.op.now) (sym c.name_order.ensures ∙ c.in-Equal.is))

pub returns-in-Greater : goal.returns-in-Greater
returns-in-Greater c =
    let f = follow_last is_next c.args.ops.now c.in-Some.last.now c.args.op.now c.in-Some.ensures.value in
    sym (f ∙ ap (λ o. is_lt o && is_apart c.in-Some.last.now c.args.op.now) (sym c.name_order.ensures ∙ c.in-Greater.is))
