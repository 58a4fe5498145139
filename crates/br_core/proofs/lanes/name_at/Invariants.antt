use Rattle.std.proofs.Common.{◌≡◌, drop}
use Rattle.br_core.specs.Lanes.{name_at}
use Rattle.br_core.proofs.lanes.name_at.Given as goal

abbrev pub invariant-loop-entry : goal.invariant-loop-entry
invariant-loop-entry l = name_at l.id (drop l.entry-index l.ids) ≡ name_at l.id l.ids
