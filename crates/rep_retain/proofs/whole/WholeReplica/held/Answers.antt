use Rattle.std.proofs.Common.{◌++◌}
use Rattle.rep_retain.proofs.Held.{held_by}
use Rattle.rep_retain.specs.Tables.{ops_of}
use Rattle.rep_retain.proofs.whole.WholeReplica.held.Goals as goal

pub returns-clause-ok : goal.returns-clause-ok
returns-clause-ok g c =
    let w = c.args.self.now in
    held_by c.in_ok-ops.ops.items (g.C.ClientSet.kept w.clients ++ ops_of w.topics) c.in_ok-deltas_of.field-0.items c.in_ok-ops.ensures.same c.in_ok-deltas_of.ensures
