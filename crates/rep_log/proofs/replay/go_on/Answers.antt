use Rattle.std.proofs.Common.{◌≡◌, ℕ, ◌+◌, ◌++◌, Some, None, sym, subst, arith}
use Rattle.std.specs.FinMap.{find}
use Rattle.rep_op.specs.Orders.{operation_cmp}
use Rattle.rep_shared.specs.inner.Replays.{IsReplayed}
use Rattle.rep_shared.proofs.Replays.{replayed_more, replayed_gap, replayed_all}
use Rattle.rep_log.proofs.replay.go_on.Goals as goal

pub returns-in_default-clause-prefix : goal.returns-in_default-clause-prefix
returns-in_default-clause-prefix c =
    let at = λ (k : ℕ). find operation_cmp (c.args.stamp, k) (c.args.first.now ++ c.args.more.now) in
    let gap : at c.loop-prefix.prefix ≡ None = sym c.in_default.ensures in
    (replayed_gap at c.loop-prefix.session c.loop-prefix.prefix c.loop-prefix-test.true gap c.loop-prefix.invariant.1).0

pub returns-in_default-clause-session : goal.returns-in_default-clause-session
returns-in_default-clause-session c =
    let at = λ (k : ℕ). find operation_cmp (c.args.stamp, k) (c.args.first.now ++ c.args.more.now) in
    let gap : at c.loop-prefix.prefix ≡ None = sym c.in_default.ensures in
    (replayed_gap at c.loop-prefix.session c.loop-prefix.prefix c.loop-prefix-test.true gap c.loop-prefix.invariant.1).1

pub loop-prefix-preserved : goal.loop-prefix-preserved
loop-prefix-preserved c =
    let at = λ (k : ℕ). find operation_cmp (c.args.stamp, k) (c.args.first.now ++ c.args.more.now) in
    let there : at c.loop-prefix.prefix ≡ Some c.in-Some.change.now = sym c.in-Some.ensures in (
      omega arith,
      subst (λ s. IsReplayed at s (c.loop-prefix.prefix + 1)) (sym c.in_ok-session.ensures)
          (replayed_more at c.loop-prefix.session c.loop-prefix.prefix c.in-Some.change.now c.loop-prefix-test.true there c.loop-prefix.invariant.1),
    )

pub returns-clause-prefix : goal.returns-clause-prefix
returns-clause-prefix c =
    let at = λ (k : ℕ). find operation_cmp (c.args.stamp, k) (c.args.first.now ++ c.args.more.now) in
    (replayed_all at c.loop-prefix.session c.loop-prefix.prefix (omega arith) c.loop-prefix.invariant.1).0

pub returns-clause-session : goal.returns-clause-session
returns-clause-session c =
    let at = λ (k : ℕ). find operation_cmp (c.args.stamp, k) (c.args.first.now ++ c.args.more.now) in
    (replayed_all at c.loop-prefix.session c.loop-prefix.prefix (omega arith) c.loop-prefix.invariant.1).1
