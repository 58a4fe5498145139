use Rattle.std.proofs.Common.{◌∙◌}
use Rattle.rep_model.proofs.laws.base_laws.Goals as goal
use Rattle.rep_model.proofs.Limits.{first_passed-counts}
use Rattle.rep_model.proofs.Roomy.{base_between, base_counts, base_is_roomy}

pub returns : goal.returns
returns c = record {
  between = base_between;
  counts = base_counts;
  roomy = base_is_roomy;
  kept_roomy = λ S K base counts held room. base_is_roomy K base held (first_passed-counts S K counts ∙ room);
}
