use Rattle.std.proofs.Common.{◌==◌, not, ◌||◌, sym, ap, ◌∙◌}
use Rattle.sn_local.specs.Seen.{seen_of}
use Rattle.gw_own.specs.inner.Tidy.{stays_bound, leaves_all}
use Rattle.gw_own.proofs.ownership.leaves_all.Goals as goal

pub returns-else-counter-ne0 : goal.returns-else-counter-ne0
returns-else-counter-ne0 g c =
    let seen = seen_of (g.R.Replica.kept c.args.replica.now) in
    let local = c.args.dialogs.now.local in
    c.stays_bound.ensures ∙ sym (ap (λ n. not (n == 0) || stays_bound c.args.gateway seen local c.in-Session.client) c.if-counter-ne0.false)
    ∙ ap (leaves_all c.args.gateway seen local) (sym c.in-Session.is)
