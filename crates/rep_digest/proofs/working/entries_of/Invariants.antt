use Rattle.std.proofs.Common.{◌≡◌, List, map, take}
use Rattle.rep_op.specs.declared.op.Op.{Op}
use Rattle.rep_model.specs.Views.{view}
use Rattle.rep_digest.specs.inner.Steps.{group, groups, drafted_entry}
use Rattle.rep_digest.proofs.working.entries_of.Given as goal

abbrev pub invariant-loop-i : goal.invariant-loop-i
invariant-loop-i g l = (W : List Op) → l.groups ≡ groups l.clients W → l.entries.items ≡ map (λ c. drafted_entry c (view c (g.R.Replica.kept l.replica)) (group W c)) (take l.i l.clients)
