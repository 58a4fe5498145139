use Rattle.row_laws.proofs.laws.stays_flush.Goals as goal
use Rattle.row_laws.proofs.Flushness.{flush-start, flush-step, flush-taken, flush-same}

pub returns : goal.returns
returns c = record {
  start = flush-start;
  step = λ g c S d plan flush planned e other. flush-step g c S d plan planned flush e other;
  taken = λ g c S D flush none. flush-taken g c S D none flush;
  equal = flush-same;
}
