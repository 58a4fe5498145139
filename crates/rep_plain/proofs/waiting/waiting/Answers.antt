use Rattle.std.proofs.Common.{◌≡◌, sym, ap, ◌∙◌, arith, drop, map}
use Rattle.std.proofs.lemmas.Result.{IfOk-weaker}
use Rattle.rep_op.specs.Orders.{put_cmp}
use Rattle.rep_model.specs.Views.{in_order, pending}
use Rattle.rep_plain.specs.inner.Steps.{unacknowledged_by}
use Rattle.rep_shared.proofs.Places.{drop_back}
use Rattle.rep_plain.proofs.Entering.{waiting_is_pending}
use Rattle.rep_plain.proofs.waiting.waiting.Goals as goal

pub loop-i-preserved : goal.loop-i-preserved
loop-i-preserved c =
    let e = drop_back c.args.ops.now c.loop-i.i c.index-ops-i.result (omega arith) (omega arith) c.index-ops-i.is in
    (omega arith, c.in_ok-note_put.ensures (drop c.loop-i.i c.args.ops.now) c.loop-i.invariant.1 ∙ ap (λ S. in_order put_cmp (unacknowledged_by c.args.ranges.now c.args.client.now S)) (sym e))

pub returns : goal.returns
returns c =
    let ranges = c.args.ranges.now in
    let client = c.args.client.now in
    let here : drop c.loop-i.i c.args.ops.now ≡ c.args.ops.now = ap (λ n. drop n c.args.ops.now) (let z : c.loop-i.i ≡ 0 = omega arith in z) in
    let es = c.loop-i.by_name.entries in
    let is = ap (λ entries. map (λ e. e.1) entries) c.loop-i.invariant.1
    ∙ ap (λ S. map (λ e. e.1) (in_order put_cmp (unacknowledged_by ranges client S))) here
    ∙ waiting_is_pending client c.args.ops.now ranges c.requires in
    IfOk-weaker c.into_puts.result (λ puts. puts ≡ map (λ e. e.1) es) (λ puts. puts ≡ pending client c.args.ops.now) (λ puts h. h ∙ is) c.into_puts.ensures
