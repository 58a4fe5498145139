use Rattle.row_laws.proofs.laws.every_row.Goals as goal
use Rattle.row_laws.proofs.Drafting.{row-drafted}
use Rattle.row_laws.proofs.Stepping.{step-fits, step-flush, step-leaves}

pub returns : goal.returns
returns c = record {
  drafted = row-drafted;
  fits = λ g S plan flush p delta same. step-fits g S plan p delta same flush;
  flush = λ g S plan flush p delta same. step-flush g S plan p delta same flush;
  leaves = λ g S plan p delta same. step-leaves g S plan p delta same;
}
