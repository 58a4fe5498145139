use Rattle.std.proofs.Common.{◌≡◌, ◌++◌, sym, subst}
use Rattle.rep_op.specs.Sets.{Same}
use Rattle.rep_ops.specs.Making.{AreWellMade}
use Rattle.rep_model.specs.Keep.{keep}
use Rattle.rep_retain.specs.Tables.{ops_of}
use Rattle.rep_retain.proofs.Found.{are_of_topics}
use Rattle.rep_retain.proofs.Held.{both_kept, made_both}
use Rattle.rep_retain.proofs.holding.both_to_keep.Goals as goal

pub returns-in-Ok-clause-same : goal.returns-in-Ok-clause-same
returns-in-Ok-clause-same g c =
    let A = g.C.ClientSet.kept c.args.clients.now in
    let T = ops_of c.args.topics.now in
    let B = c.in_ok-ops.ops.items in
    subst (λ ops. Same ops (keep (A ++ T))) (sym c.in-Ok.ensures.ok) (both_kept A T B c.requires (are_of_topics c.args.topics.now) c.in_ok-ops.ensures.ok c.push_to.ensures.stays)

pub returns-in-Ok-clause-well : goal.returns-in-Ok-clause-well
returns-in-Ok-clause-well g c =
    subst AreWellMade (sym c.in-Ok.ensures.ok) (made_both c.in_ok-ops.ops.items (ops_of c.args.topics.now) c.in_ok-ops.ensures.well c.push_to.ensures.made)

pub returns-in_err-ops-clause-made : goal.returns-in_err-ops-clause-made
returns-in_err-ops-clause-made g c = made_both (g.C.ClientSet.kept c.args.clients.now) (ops_of c.args.topics.now) c.to_keep.ensures.made c.are_made.ensures
