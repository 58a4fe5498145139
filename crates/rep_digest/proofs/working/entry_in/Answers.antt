use Rattle.std.proofs.Common.{sym, ap, ◌∙◌}
use Rattle.rep_model.proofs.Named.{unnamed-unseen}
use Rattle.rep_digest.specs.inner.Steps.{drafted_entry}
use Rattle.rep_digest.proofs.working.entry_in.Goals as goal

pub returns-in_ok-entry-in-None : goal.returns-in_ok-entry-in-None
returns-in_ok-entry-in-None g c =
    c.in_ok-entry-in-None.ensures
    ∙ ap (λ v. drafted_entry c.args.client.now v c.args.acks.now) (c.unseen-view.ensures ∙ sym (unnamed-unseen c.args.client.now (g.R.Replica.kept c.args.replica.now) c.in-None.ensures))
