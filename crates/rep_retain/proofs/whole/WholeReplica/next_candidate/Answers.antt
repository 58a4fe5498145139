use Rattle.rep_retain.proofs.Telling.{candidate_front}
use Rattle.rep_retain.specs.Tables.{ops_of}
use Rattle.rep_retain.proofs.Found.{are_of_topics}
use Rattle.rep_retain.proofs.whole.WholeReplica.next_candidate.Goals as goal

pub returns : goal.returns
returns g c =
    let w = c.args.self.now in
    candidate_front (g.C.ClientSet.kept w.clients) (ops_of w.topics) (are_of_topics w.topics) c.args.topic.now c.args.place c.next_candidate.result c.next_candidate.ensures
