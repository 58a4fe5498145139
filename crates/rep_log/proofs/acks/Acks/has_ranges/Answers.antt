use Rattle.std.proofs.Common.{ℕ, List, ◌==◌, not, length, ap, ◌∙◌}
use Rattle.std.specs.List.{list_any}
use Rattle.rep_log.proofs.Ranges.{any_ranges}
use Rattle.rep_log.proofs.acks.Acks.has_ranges.Goals as goal

pub returns : goal.returns
returns c = c.any_range.ensures ∙ any_ranges c.self.inside.origins.entries ∙ ap (list_any (λ (o : ℕ × List (ℕ × ℕ)). not (length o.1 == 0))) c.self.view_is
