use Rattle.step_laws.proofs.Ending.{ticks-bound, ticks-end, ticks-rest, ticks-settled}
use Rattle.step_laws.proofs.laws.ticks_end.Goals as goal

pub returns : goal.returns
returns c = record {
  bound = ticks-bound;
  ends = ticks-end;
  rests = ticks-rest;
  settled = ticks-settled;
}
