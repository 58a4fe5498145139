-- What is left to number leads where the whole list leads.
use Rattle.std.proofs.Common.{◌≡◌}
use Rattle.std.specs.Vec.Iter.{into_iter_items}
use Rattle.rep_model.specs.Fresh.{next_seq}
use Rattle.sn_plan.specs.Numbering.{with_handed}
use Rattle.sn_plan.proofs.numbering.number_handed.Given as goal

abbrev pub invariant-loop-posted : goal.invariant-loop-posted
invariant-loop-posted g l =
    with_handed l.origin.gateway l.origin.expires l.client l.next (into_iter_items l.posted-iterator) l.ops.items
    ≡ with_handed l.origin.gateway l.origin.expires l.client (next_seq l.client l.origin.gateway (g.R.Replica.kept l.replica)) l.fn.handed.items l.fn.ops.items
