use Rattle.std.proofs.Common.{◌≡◌, ℕ, ◌+◌, length, Some, None, sym, ap, subst, ◌∙◌, arith}
use Rattle.std.specs.FinMap.{find}
use Rattle.rep_op.specs.Orders.{operation_cmp}
use Rattle.rep_model.specs.Views.{history_at, session_made}
use Rattle.rep_shared.proofs.Maps.{lookup_is_find}
use Rattle.rep_shared.specs.inner.Replays.{IsReplayed}
use Rattle.rep_shared.proofs.Replays.{replayed_more, replayed_gap, replayed_all}
use Rattle.rep_plain.proofs.replay.replay.Goals as goal

pub returns-in_default-get-clause-prefix : goal.returns-in_default-get-clause-prefix
returns-in_default-get-clause-prefix c =
    let es = c.args.known.now.entries in
    let at = λ (k : ℕ). find operation_cmp (c.in-Some.stamp, k) es in
    let gap : at c.loop-counter.counter ≡ None = sym (lookup_is_find operation_cmp (c.in-Some.stamp, c.loop-counter.counter) es) ∙ sym c.in_default-get.ensures.value in
    (replayed_gap at c.loop-counter.session c.loop-counter.counter c.loop-counter-test.true gap c.loop-counter.invariant).0
    ∙ ap (λ v. length (history_at (λ name. find operation_cmp name es) v)) (sym c.in-Some.is)

pub returns-in_default-get-clause-session : goal.returns-in_default-get-clause-session
returns-in_default-get-clause-session c =
    let es = c.args.known.now.entries in
    let at = λ (k : ℕ). find operation_cmp (c.in-Some.stamp, k) es in
    let gap : at c.loop-counter.counter ≡ None = sym (lookup_is_find operation_cmp (c.in-Some.stamp, c.loop-counter.counter) es) ∙ sym c.in_default-get.ensures.value in
    (replayed_gap at c.loop-counter.session c.loop-counter.counter c.loop-counter-test.true gap c.loop-counter.invariant).1
    ∙ ap (λ v. session_made (history_at (λ name. find operation_cmp name es) v)) (sym c.in-Some.is)

pub loop-counter-preserved : goal.loop-counter-preserved
loop-counter-preserved c =
    let es = c.args.known.now.entries in
    let at = λ (k : ℕ). find operation_cmp (c.in-Some.stamp, k) es in
    let there : at c.loop-counter.counter ≡ Some c.in-Some-get.change.now = sym (lookup_is_find operation_cmp (c.in-Some.stamp, c.loop-counter.counter) es) ∙ sym c.in-Some-get.ensures.value in
    subst (λ s. IsReplayed at s (c.loop-counter.counter + 1)) (sym c.in_ok-session.ensures)
    (replayed_more at c.loop-counter.session c.loop-counter.counter c.in-Some-get.change.now c.loop-counter-test.true there c.loop-counter.invariant)

pub returns-clause-prefix : goal.returns-clause-prefix
returns-clause-prefix c =
    let es = c.args.known.now.entries in
    let at = λ (k : ℕ). find operation_cmp (c.in-Some.stamp, k) es in
    let whole : c.loop-counter.counter ≡ 256 = omega arith in
    sym whole ∙ (replayed_all at c.loop-counter.session c.loop-counter.counter whole c.loop-counter.invariant).0
    ∙ ap (λ v. length (history_at (λ name. find operation_cmp name es) v)) (sym c.in-Some.is)

pub returns-clause-session : goal.returns-clause-session
returns-clause-session c =
    let es = c.args.known.now.entries in
    let at = λ (k : ℕ). find operation_cmp (c.in-Some.stamp, k) es in
    (replayed_all at c.loop-counter.session c.loop-counter.counter (omega arith) c.loop-counter.invariant).1
    ∙ ap (λ v. session_made (history_at (λ name. find operation_cmp name es) v)) (sym c.in-Some.is)
