use Rattle.std.proofs.Common.{take}
use Rattle.rep_plain.specs.Tables.{rows_of, HaveRoom}
use Rattle.rep_plain.specs.inner.Tables.{IsRoomier}
use Rattle.rep_plain.proofs.room.make_room.Given as goal

abbrev pub invariant-loop-row : goal.invariant-loop-row
invariant-loop-row l = IsRoomier l.fn.table.entries l.table.entries × HaveRoom (rows_of l.table.entries) (rows_of (take l.row-index l.fresh))
