use Rattle.rep_model.proofs.Beside.{clients-front}
use Rattle.rep_retain.specs.Tables.{ops_of}
use Rattle.rep_retain.proofs.Found.{are_of_topics}
use Rattle.rep_retain.proofs.whole.WholeReplica.clients.Goals as goal

pub returns-clause-ok : goal.returns-clause-ok
returns-clause-ok g c =
    let w = c.args.self.now in
    rw (clients-front (g.C.ClientSet.kept w.clients) (ops_of w.topics) (are_of_topics w.topics)) c.clients.ensures.ok
