-- What the replica holds of one client.
use Rattle.std.specs.Prelude.{◌≡◌, ℕ, List, length}
use Rattle.rep_model.specs.Views.{view}
use Rattle.rep_model.specs.Limits.{parked, exceptions}
use Rattle.rep_plain.specs.declared.entry.Entry.{Entry}
use Rattle.rep_shared.specs.Steps.{capped}

-- the view and the counts are those of the operations
pub record IsWorkedOut (c : List ℕ) (entry : Entry) : Type 0 where
  pub seen : entry.seen ≡ view c entry.ops.items
  pub parked : entry.parked ≡ length (parked c entry.ops.items)
  pub exceptions : entry.exceptions ≡ capped (exceptions c entry.ops.items)
