use Rattle.std.proofs.Common.{refl}
use Rattle.rep_entry.specs.Interests.{mixed_with}
use Rattle.rep_entry.proofs.interest.mixed_with.Goals as goal

pub returns-clause-value : goal.returns-clause-value
unfolding mixed_with
returns-clause-value c = refl
