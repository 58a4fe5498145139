-- What is left to write leads where the whole list leads.
use Rattle.std.proofs.Common.{◌≡◌}
use Rattle.std.specs.Vec.Iter.{into_iter_items}
use Rattle.sn_plan.specs.Numbering.{changes_written}
use Rattle.sn_plan.proofs.numbering.Writer.write_all.Given as goal

abbrev pub invariant-loop-change : goal.invariant-loop-change
invariant-loop-change l =
    changes_written l.client l.gateway (into_iter_items l.change-iterator) l.self
    ≡ changes_written l.client l.gateway l.fn.changes.items l.fn.self
