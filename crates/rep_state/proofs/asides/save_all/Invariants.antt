use Rattle.std.proofs.Common.{take}
use Rattle.rep_shared.specs.Rows.{AreSaved}
use Rattle.rep_entry.specs.Staging.{staged_of}
use Rattle.rep_state.specs.Tables.{by_client, rows_of, IsEntryTable, ArePlaces}
use Rattle.rep_state.specs.Interests.{AreMarked}
use Rattle.rep_state.specs.inner.Tables.{IsSaving}
use Rattle.rep_state.proofs.asides.save_all.Given as goal

abbrev pub invariant-loop-row : goal.invariant-loop-row
invariant-loop-row l =
    IsEntryTable (by_client l.aside.entries) l.count
    × IsSaving (rows_of (by_client l.table.entries)) (rows_of (by_client l.fn.aside.entries)) (rows_of (by_client l.aside.entries))
    × AreSaved (rows_of (by_client l.aside.entries)) (staged_of (take l.row-index l.changes))
    × ArePlaces l.aside.entries l.places.items
    × AreMarked (by_client l.aside.entries) l.places.items
