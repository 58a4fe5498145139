use Rattle.std.proofs.Common.{◌≡◌, false, sym, ap, ◌∙◌, true≢false}
use Rattle.std.specs.Option.{option_copied}
use Rattle.sn_local.specs.Seen.{seen_of}
use Rattle.sn_deliver.proofs.Parts.{any_step, bound_step}
use Rattle.sn_deliver.proofs.table.step.Goals as goal

pub returns-in-None : goal.returns-in-None
returns-in-None g c =
    let free = λ (h : _ ≡ false). sym c.client_at.ensures ∙ ap (λ x. option_copied x) c.in-None.is in
    rw (any_step c.args.config.now.gateway c.args.config.now.predefined (seen_of (g.R.Replica.kept c.args.replica.now)) c.args.dialogs.now.local c.args.from c.args.now c.args.config.now.lifetime c.args.frame.now free)
    at c.step_any.ensures

pub returns-then-is_from_any : goal.returns-then-is_from_any
returns-then-is_from_any g c =
    rw (any_step c.args.config.now.gateway c.args.config.now.predefined (seen_of (g.R.Replica.kept c.args.replica.now)) c.args.dialogs.now.local c.args.from c.args.now c.args.config.now.lifetime c.args.frame.now
    (λ h. absurd (true≢false (sym c.if-is_from_any.true ∙ c.is_from_any.ensures ∙ h))))
    at c.step_any-then-is_from_any.ensures

pub returns-else-is_from_any : goal.returns-else-is_from_any
returns-else-is_from_any g c =
    rw (bound_step c.args.config.now.gateway c.args.config.now.predefined (seen_of (g.R.Replica.kept c.args.replica.now)) c.args.dialogs.now.local c.args.from c.args.now c.in-Some.client.now
    (sym c.client_at.ensures ∙ ap (λ x. option_copied x) c.in-Some.is) c.args.config.now.lifetime c.args.frame.now (sym c.is_from_any.ensures ∙ c.if-is_from_any.false))
    at c.step_of.ensures
