use Rattle.set_laws.proofs.Exceptions.{gap-ranges, gap-acknowledged, exceptions-counted}
use Rattle.set_laws.proofs.laws.gap_laws.Goals as goal

pub returns : goal.returns
returns c = record {
  ranges = gap-ranges;
  origin = gap-acknowledged;
  client = exceptions-counted;
}
