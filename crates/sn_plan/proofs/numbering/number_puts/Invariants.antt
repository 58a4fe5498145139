-- What is left to number leads where the whole list leads.
use Rattle.std.proofs.Common.{◌≡◌}
use Rattle.std.specs.Vec.Iter.{into_iter_items}
use Rattle.rep_model.specs.Fresh.{next_seq}
use Rattle.sn_plan.specs.Numbering.{with_puts}
use Rattle.sn_plan.proofs.numbering.number_puts.Given as goal

abbrev pub invariant-loop-new : goal.invariant-loop-new
invariant-loop-new g l =
    with_puts l.gateway l.expires (λ e. next_seq e l.gateway (g.R.Replica.kept l.replica)) (into_iter_items l.new-iterator) l.ops.items
    ≡ with_puts l.gateway l.expires (λ e. next_seq e l.gateway (g.R.Replica.kept l.replica)) l.fn.puts.items l.fn.ops.items
