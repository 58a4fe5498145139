use Rattle.std.proofs.Common.{◌+◌, sym, ap, ◌∙◌, drop}
use Rattle.rep_shared.proofs.Places.{drop_here}
use Rattle.std.specs.Option.{option_copied}
use Rattle.rep_plain.specs.inner.Steps.{first_of_two}
use Rattle.rep_op.specs.Sets.{put_at}
use Rattle.rep_plain.proofs.reading.put_at.Goals as goal

pub returns-in-Some : goal.returns-in-Some
returns-in-Some c =
    let S = drop (c.loop-op.op-index + 1) c.args.ops.now in
    let here = drop_here c.args.ops.now c.loop-op.op-index c.op-item.result c.loop-op-test.true c.op-item.is in
    ap (λ o. first_of_two (option_copied o) (put_at c.args.client.now S c.args.name)) (sym c.in-Some.is) ∙ sym (c.put_named.ensures S) ∙ ap (λ T. put_at c.args.client.now T c.args.name) (sym here) ∙ c.loop-op.invariant

pub loop-op-preserved : goal.loop-op-preserved
loop-op-preserved c =
    let S = drop (c.loop-op.op-index + 1) c.args.ops.now in
    let here = drop_here c.args.ops.now c.loop-op.op-index c.op-item.result c.loop-op-test.true c.op-item.is in
    ap (λ o. first_of_two (option_copied o) (put_at c.args.client.now S c.args.name)) (sym c.in_default.is) ∙ sym (c.put_named.ensures S) ∙ ap (λ T. put_at c.args.client.now T c.args.name) (sym here) ∙ c.loop-op.invariant
