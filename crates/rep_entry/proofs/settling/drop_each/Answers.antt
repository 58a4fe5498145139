use Rattle.std.proofs.Common.{◌≡◌, ◌+◌, ◌-◌, suc, ℕ, drop-drop, arith, ap, subst, ◌∙◌}
use Rattle.rep_log.specs.Mail.{NoneCovered}
use Rattle.rep_log.specs.Origins.{ranges_in}
use Rattle.rep_entry.specs.inner.Mail.{left_from}
use Rattle.rep_entry.proofs.Spans.{left_none, left_whole}
use Rattle.rep_entry.proofs.settling.drop_each.Goals as goal

pub loop-at-init : goal.loop-at-init
loop-at-init c =
    let rs = ranges_in c.args.acks.now in
    let ps = c.args.all.now.items in
    let from = c.args.from in
    let count = c.args.count in
    (omega arith, c.requires.bound, left_none rs (from + count) ps (subst (NoneCovered rs) (drop-drop count from ps) c.requires.back))

pub loop-at-preserved : goal.loop-at-preserved
loop-at-preserved c =
    let rs = ranges_in c.args.acks.now in
    let whole = c.args.all.now.items in
    let at = c.loop-at.at in
    let one_more : at ≡ suc (at - 1) = omega (arith, c.loop-at-test.true) in
    (omega (arith, c.loop-at-test.true), omega (arith, c.loop-at.invariant.1), c.drop_at.ensures whole (omega (arith, c.loop-at-test.true, c.loop-at.invariant.1)) (c.loop-at.invariant.2 ∙ ap (λ (n : ℕ). left_from rs n whole) one_more))

pub returns : goal.returns
returns c =
    let rs = ranges_in c.args.acks.now in
    let whole = c.args.all.now.items in
    let there : c.loop-at.at ≡ c.args.from = omega (arith, c.loop-at-test.false, c.loop-at.invariant.0) in
    c.loop-at.invariant.2 ∙ ap (λ (n : ℕ). left_from rs n whole) there ∙ left_whole rs c.args.from whole c.requires.front
