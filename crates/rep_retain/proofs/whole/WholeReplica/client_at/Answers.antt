use Rattle.rep_retain.proofs.Telling.{placed_front}
use Rattle.rep_retain.specs.Tables.{ops_of}
use Rattle.rep_retain.proofs.Found.{are_of_topics}
use Rattle.rep_retain.proofs.whole.WholeReplica.client_at.Goals as goal

pub returns : goal.returns
returns g c =
    let w = c.args.self.now in
    placed_front (g.C.ClientSet.kept w.clients) (ops_of w.topics) (are_of_topics w.topics) c.args.place c.client_at.result c.client_at.ensures
