use Rattle.std.proofs.Common.{◌≡◌, true, sym, ◌∙◌}
use Rattle.sn_local.specs.Seen.{seen_of}
use Rattle.gw_own.specs.Tidy.{are_owned}
use Rattle.gw_own.proofs.Owned.{owned_stay, owned_are_owned, still_owned}
use Rattle.gw_own.proofs.ownership.keep_owned.Goals as goal

pub returns-then-keeps_all_bound-clause-dropped : goal.returns-then-keeps_all_bound-clause-dropped
returns-then-keeps_all_bound-clause-dropped g c =
    let kept = g.R.Replica.kept c.args.replica.now in
    sym (owned_stay c.args.gateway (seen_of kept) c.args.dialogs.now.local
    (still_owned c.args.gateway kept c.args.ops.now c.args.dialogs.now.local (c.requires c.if-known.true) (sym c.keeps_all_bound.ensures ∙ c.if-keeps_all_bound.true)))

pub returns-then-keeps_all_bound-clause-owned : goal.returns-then-keeps_all_bound-clause-owned
returns-then-keeps_all_bound-clause-owned g c =
    still_owned c.args.gateway (g.R.Replica.kept c.args.replica.now) c.args.ops.now c.args.dialogs.now.local (c.requires c.if-known.true) (sym c.keeps_all_bound.ensures ∙ c.if-keeps_all_bound.true)

pub returns-clause-owned : goal.returns-clause-owned
returns-clause-owned g c =
    let seen = seen_of (g.R.Replica.kept c.args.replica.now) in
    rw c.keep_owned.ensures (owned_are_owned c.args.gateway seen c.args.dialogs.now.local)
