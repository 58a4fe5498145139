-- What is kept counts as the records so far.
use Rattle.std.proofs.Common.{take}
use Rattle.rep_ops.specs.Splitting.{all_of}
use Rattle.rep_model.specs.Keep.{CountsAs}
use Rattle.jr_read.proofs.folding.take_all.Given as goal

abbrev pub invariant-loop-before : goal.invariant-loop-before
invariant-loop-before g l = CountsAs (all_of (take l.before l.records)) (g.R.Replica.kept l.replica)
