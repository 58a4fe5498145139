use Rattle.std.proofs.Common.{◌≡◌, length}
use Rattle.rep_shared.specs.Rows.{rows_with}
use Rattle.rep_state.specs.Tables.{by_client, rows_of, AreKept, ArePlaces}
use Rattle.rep_state.specs.Interests.{AreMarked}
use Rattle.rep_state.specs.inner.Tables.{HaveTheirPlaces, AreKeptAside}
use Rattle.rep_state.proofs.asides.put_all_back.Given as goal

abbrev pub invariant-loop-client : goal.invariant-loop-client
invariant-loop-client l =
    (rows_with (rows_of (by_client l.table.entries)) (rows_of (by_client l.aside.entries)) ≡ rows_with (rows_of (by_client l.fn.table.entries)) (rows_of (by_client l.fn.aside.entries)))
    × HaveTheirPlaces (by_client l.table.entries) (by_client l.aside.entries)
    × AreKeptAside (by_client l.aside.entries)
    × AreKept (by_client l.table.entries)
    × ArePlaces l.table.entries l.places.items
    × AreMarked (by_client l.table.entries) l.places.items

abbrev pub decreases-loop-client : goal.decreases-loop-client
decreases-loop-client l = length l.aside.entries
