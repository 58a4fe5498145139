use Rattle.std.proofs.Common.{ap, ◌∙◌}
use Rattle.std.specs.List.{flat_map}
use Rattle.std.proofs.lemmas.Result.{IfOk-weaker}
use Rattle.rep_ops.specs.Splitting.{all_of}
use Rattle.rep_answer.specs.inner.Steps.{left_by_digest}
use Rattle.rep_answer.proofs.Left.{left_held}
use Rattle.rep_answer.proofs.answering.left_of_replica.Goals as goal

pub returns : goal.returns
returns g c =
    let d = c.args.digest.now in
    IfOk-weaker c.left_of_deltas.result _ _
    (λ ops e. left_held d c.clients-clients.ensures.digest (g.R.Replica.kept c.args.replica.now) c.in-Ok.held.items ops.items c.in-Ok.ensures.ok (e ∙ ap (λ ds. flat_map (left_by_digest d) (all_of ds)) c.as_slice.ensures.value))
    c.left_of_deltas.ensures
