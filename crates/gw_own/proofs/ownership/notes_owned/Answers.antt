use Rattle.std.proofs.Common.{sym, ap, ◌∙◌}
use Rattle.sn_local.specs.Seen.{seen_of}
use Rattle.gw_own.specs.inner.Tidy.{notes_owned}
use Rattle.gw_own.proofs.ownership.notes_owned.Goals as goal

pub returns-in-Bind : goal.returns-in-Bind
returns-in-Bind g c = c.is_owned.ensures ∙ ap (notes_owned c.args.gateway (seen_of (g.R.Replica.kept c.args.replica.now))) (sym c.in-Bind.is)

pub returns-in-Heard : goal.returns-in-Heard
returns-in-Heard g c = c.is_owned-in-Heard.ensures ∙ ap (notes_owned c.args.gateway (seen_of (g.R.Replica.kept c.args.replica.now))) (sym c.in-Heard.is)

pub returns-in-Sent : goal.returns-in-Sent
returns-in-Sent g c = c.is_owned-in-Sent.ensures ∙ ap (notes_owned c.args.gateway (seen_of (g.R.Replica.kept c.args.replica.now))) (sym c.in-Sent.is)

pub returns-in-Resent : goal.returns-in-Resent
returns-in-Resent g c = c.is_owned-in-Resent.ensures ∙ ap (notes_owned c.args.gateway (seen_of (g.R.Replica.kept c.args.replica.now))) (sym c.in-Resent.is)

pub returns-in-Retried : goal.returns-in-Retried
returns-in-Retried g c = c.is_owned-in-Retried.ensures ∙ ap (notes_owned c.args.gateway (seen_of (g.R.Replica.kept c.args.replica.now))) (sym c.in-Retried.is)
