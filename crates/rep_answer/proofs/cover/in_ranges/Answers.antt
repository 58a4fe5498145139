use Rattle.std.proofs.Common.{ap, ◌∙◌}
use Rattle.rep_answer.specs.inner.Steps.{begins_by}
use Rattle.rep_answer.proofs.Reaching.{in_ending}
use Rattle.rep_answer.proofs.cover.in_ranges.Goals as goal

pub returns : goal.returns
returns c = c.begins.ensures ∙ ap (begins_by c.args.number) c.ending_from.ensures ∙ in_ending c.args.number 0 c.args.ranges.now c.requires
