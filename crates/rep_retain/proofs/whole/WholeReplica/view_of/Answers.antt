use Rattle.rep_model.proofs.Beside.{is_named-front, view-front}
use Rattle.rep_retain.specs.Tables.{ops_of}
use Rattle.rep_retain.proofs.Found.{are_of_topics}
use Rattle.rep_retain.proofs.whole.WholeReplica.view_of.Goals as goal

pub returns : goal.returns
returns g c =
    let w = c.args.self.now in
    let A = g.C.ClientSet.kept w.clients in
    let T = ops_of w.topics in
    rw (is_named-front A T (are_of_topics w.topics) c.args.client.now, view-front A T (are_of_topics w.topics) c.args.client.now) c.view_of.ensures
