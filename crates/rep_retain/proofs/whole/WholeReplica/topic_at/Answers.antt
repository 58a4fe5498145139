use Rattle.rep_model.proofs.Beside.{all_retained-back}
use Rattle.rep_retain.specs.Tables.{ops_of}
use Rattle.rep_retain.proofs.whole.WholeReplica.topic_at.Goals as goal

pub returns : goal.returns
returns g c =
    let w = c.args.self.now in
    rw (all_retained-back (g.C.ClientSet.kept w.clients) (ops_of w.topics) w.own) c.at.ensures
