use Rattle.std.proofs.Common.{◌≡◌, true, sym, ◌∙◌}
use Rattle.gw_own.proofs.Owned.{still_owned}
use Rattle.gw_own.proofs.ownership.apply_local_after_delta.Goals as goal

pub note_changes-requires-clause-known : goal.note_changes-requires-clause-known
note_changes-requires-clause-known g c = λ _.
    still_owned c.args.gateway (g.R.Replica.kept c.args.replica.now) c.args.ops.now c.args.dialogs.now.local (c.requires.known c.if-known.true) (sym c.keeps_all_bound.ensures ∙ c.if-keeps_all_bound.true)
