use Rattle.row_laws.proofs.laws.reads_back.Goals as goal
use Rattle.row_laws.proofs.Outcomes.{written-shown, session-shown, unchanged-shown, others-shown}

pub returns : goal.returns
returns c = record {
  written = λ g c S d plan flush planned some. written-shown g c S d plan planned flush some;
  session = λ g c S d plan flush planned. session-shown g c S d plan planned flush;
  unchanged = λ g c S d plan planned none. unchanged-shown g c S d plan planned none;
  others = λ g c S d plan planned e h. others-shown g c S d plan planned e h;
}
