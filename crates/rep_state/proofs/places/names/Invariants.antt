use Rattle.std.proofs.Common.{◌≡◌, ◌++◌, drop}
use Rattle.rep_state.specs.Tables.{names_at}
use Rattle.rep_state.proofs.places.names.Given as goal

abbrev pub invariant-loop-place : goal.invariant-loop-place
invariant-loop-place l = l.names.items ++ names_at (drop l.place-index l.places) ≡ names_at l.places
