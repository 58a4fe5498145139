use Rattle.std.proofs.Common.{length, ap, ◌∙◌}
use Rattle.rep_model.specs.Views.{view}
use Rattle.rep_model.specs.Limits.{parked, exceptions}
use Rattle.rep_shared.specs.Steps.{capped}
use Rattle.rep_plain.proofs.entry.Entry.work_out.Goals as goal

pub returns-in-Ok-clause-worked_out : goal.returns-in-Ok-clause-worked_out
returns-in-Ok-clause-worked_out c =
    let client = c.args.client.now in
    let ops = c.as_slice.ensures.value in
    record {
      seen = c.in-Ok.ensures.seen ∙ ap (view client) ops;
      parked = c.in-Ok.ensures.parked ∙ ap (λ ops. length (parked client ops)) ops;
      exceptions = c.in-Ok.ensures.exceptions ∙ ap (λ ops. capped (exceptions client ops)) ops;
    }
