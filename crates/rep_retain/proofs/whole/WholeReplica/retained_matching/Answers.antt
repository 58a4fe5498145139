use Rattle.std.proofs.Common.{filter, sym, ap, ◌∙◌}
use Rattle.rep_model.specs.Topics.{is_offered}
use Rattle.rep_model.proofs.Beside.{all_retained-back}
use Rattle.rep_retain.specs.Tables.{ops_of}
use Rattle.rep_retain.proofs.whole.WholeReplica.retained_matching.Goals as goal

pub returns-clause-ok : goal.returns-clause-ok
returns-clause-ok g c =
    let w = c.args.self.now in
    c.in_ok-matching.ensures ∙ sym (ap (filter (is_offered c.args.asked.now)) (all_retained-back (g.C.ClientSet.kept w.clients) (ops_of w.topics) w.own))
