use Rattle.std.proofs.Common.{◌≡◌, vec_len}
use Rattle.rep_shared.specs.Rows.{rows_with}
use Rattle.rep_state.specs.Tables.{by_client, rows_of, AreKept, ArePlaces}
use Rattle.rep_entry.specs.Staging.{staged_of, AreStaged}
use Rattle.rep_state.specs.inner.Staging.{future, AreMovable}
use Rattle.rep_state.specs.Interests.{AreMarked}
use Rattle.rep_state.proofs.room.install_changes.Given as goal

abbrev pub invariant-loop-client : goal.invariant-loop-client
invariant-loop-client l =
    (rows_with (rows_of (by_client l.table.entries)) (rows_of (future (by_client l.table.entries) (staged_of l.changes.items))) ≡ rows_with (rows_of (by_client l.fn.table.entries)) (rows_of (future (by_client l.fn.table.entries) (staged_of l.fn.changes.items))))
    × AreStaged (staged_of l.changes.items)
    × AreMovable (by_client l.table.entries) (staged_of l.changes.items)
    × AreKept (by_client l.table.entries)
    × ArePlaces l.table.entries l.places.items
    × AreMarked (by_client l.table.entries) l.places.items

abbrev pub decreases-loop-client : goal.decreases-loop-client
decreases-loop-client l = vec_len l.changes
