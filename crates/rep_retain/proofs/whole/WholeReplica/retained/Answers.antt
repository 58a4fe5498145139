use Rattle.rep_model.proofs.Beside.{retained-back}
use Rattle.rep_model.specs.Topics.{retained}
use Rattle.rep_retain.proofs.Ready.{told}
use Rattle.rep_retain.specs.Tables.{ops_of}
use Rattle.rep_retain.proofs.whole.WholeReplica.retained.Goals as goal

pub returns : goal.returns
returns g c =
    let w = c.args.self.now in
    let t = c.args.topic.now in
    rw (retained-back (g.C.ClientSet.kept w.clients) (ops_of w.topics) w.own t) (told c.get.result (retained t (ops_of w.topics)) c.get.ensures)
