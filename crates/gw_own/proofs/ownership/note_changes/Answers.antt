use Rattle.std.proofs.Common.{◌≡◌, true, sym, ap, ◌∙◌}
use Rattle.std.specs.List.{list_all}
use Rattle.sn_local.specs.Seen.{seen_of}
use Rattle.gw_own.specs.inner.Tidy.{notes_owned}
use Rattle.gw_own.proofs.Owned.{owned_after}
use Rattle.gw_own.proofs.ownership.note_changes.Goals as goal

pub returns-then-note_owned-clause-owned : goal.returns-then-note_owned-clause-owned
returns-then-note_owned-clause-owned g c = λ _.
    let kept = g.R.Replica.kept c.args.replica.now in
    let local = c.args.dialogs.now.local in
    rw c.commit.ensures (owned_after c.args.gateway (seen_of kept) local c.args.changes (c.requires.known c.if-known.true)
    (ap (list_all (notes_owned c.args.gateway (seen_of kept))) (sym c.as_slice.ensures) ∙ sym c.note_owned.ensures ∙ c.if-note_owned.true))
