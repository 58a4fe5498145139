use Rattle.rep_model.proofs.laws.range_laws.Goals as goal
use Rattle.std.proofs.Common.{arith}
use Rattle.rep_model.proofs.Ranges.{in-with_range, apart-with_range, same_ranges}
use Rattle.rep_model.proofs.Limits.{in-acknowledged, apart-acknowledged}

pub returns : goal.returns
returns c = record {
  says = λ c origin seq S. in-acknowledged c origin seq S;
  apart = apart-acknowledged;
  one_form = same_ranges 0 0;
  more_says = λ range ranges seq. in-with_range seq range ranges;
  more_apart = λ range ranges apart own. apart-with_range 0 range ranges apart (omega arith) own;
}
