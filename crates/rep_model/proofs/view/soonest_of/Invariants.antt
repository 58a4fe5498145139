-- What is left leads where all leads.
use Rattle.std.proofs.Common.{◌≡◌, drop}
use Rattle.rep_model.specs.inner.Moments.{soonest_of}
use Rattle.rep_model.proofs.view.soonest_of.Given as goal

abbrev pub invariant-loop-put : goal.invariant-loop-put
invariant-loop-put l = soonest_of l.soonest (drop l.put-index l.puts) ≡ soonest_of l.fn.moment l.puts
