use Rattle.std.proofs.Common.{sym, ◌∙◌}
use Rattle.rep_model.proofs.Beside.{next_clock-back}
use Rattle.rep_retain.specs.Tables.{ops_of}
use Rattle.rep_retain.proofs.whole.WholeReplica.next_clock.Goals as goal

pub returns : goal.returns
returns g c =
    let w = c.args.self.now in
    c.next_clock.ensures ∙ sym (next_clock-back (g.C.ClientSet.kept w.clients) (ops_of w.topics) w.own c.args.topic.now)
