use Rattle.std.proofs.Common.{sym, ◌∙◌}
use Rattle.rep_model.proofs.Beside.{next_epoch-front}
use Rattle.rep_retain.specs.Tables.{ops_of}
use Rattle.rep_retain.proofs.Found.{are_of_topics}
use Rattle.rep_retain.proofs.whole.WholeReplica.next_epoch.Goals as goal

pub returns : goal.returns
returns g c =
    let w = c.args.self.now in
    c.next_epoch.ensures ∙ sym (next_epoch-front (g.C.ClientSet.kept w.clients) (ops_of w.topics) (are_of_topics w.topics) c.args.client.now)
