use Rattle.std.proofs.Common.{take}
use Rattle.rep_state.specs.Tables.{by_client, ArePlaces}
use Rattle.rep_state.specs.inner.Tables.{IsRoomier}
use Rattle.rep_state.specs.Interests.{AreMarked}
use Rattle.rep_entry.specs.Staging.{staged_of}
use Rattle.rep_state.specs.inner.Staging.{HavePlaces}
use Rattle.rep_state.proofs.room.make_room.Given as goal

abbrev pub invariant-loop-row : goal.invariant-loop-row
invariant-loop-row l = IsRoomier (by_client l.fn.table.entries) (by_client l.table.entries) × HavePlaces (by_client l.table.entries) (staged_of (take l.row-index l.changes)) × ArePlaces l.table.entries l.places.items × AreMarked (by_client l.table.entries) l.places.items
