use Rattle.std.proofs.Common.{◌++◌, ap}
use Rattle.rep_retain.specs.Tables.{ops_of}
use Rattle.rep_retain.proofs.whole.WholeReplica.put_back.Goals as goal

pub returns : goal.returns
returns g c =
    let topics = ap ops_of c.put_topics_back.ensures in
    λ i. c.put_back.ensures.kept i ++ topics i
