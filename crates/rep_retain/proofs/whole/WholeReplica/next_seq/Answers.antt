use Rattle.std.proofs.Common.{sym, ◌∙◌}
use Rattle.rep_model.proofs.Beside.{next_seq-front}
use Rattle.rep_retain.specs.Tables.{ops_of}
use Rattle.rep_retain.proofs.Found.{are_of_topics}
use Rattle.rep_retain.proofs.whole.WholeReplica.next_seq.Goals as goal

pub returns : goal.returns
returns g c =
    let w = c.args.self.now in
    c.next_seq.ensures ∙ sym (next_seq-front (g.C.ClientSet.kept w.clients) (ops_of w.topics) (are_of_topics w.topics) c.args.client.now c.args.gateway)
