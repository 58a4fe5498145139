use Rattle.std.proofs.Common.{◌++◌, List, ap}
use Rattle.rep_op.specs.declared.op.Op.{Op}
use Rattle.rep_retain.specs.Tables.{ops_of}
use Rattle.rep_retain.proofs.whole.WholeReplica.aside.Goals as goal

-- no topics lie there
pub returns-clause-back : goal.returns-clause-back
returns-clause-back g c =
    let w = c.args.self.now in
    ap (λ (S : List Op). S ++ ops_of w.topics) c.in_ok-clients.ensures.back
