use Rattle.std.proofs.Common.{take}
use Rattle.rep_shared.specs.Rows.{AreSaved}
use Rattle.rep_plain.specs.Tables.{rows_of, IsPlainTable}
use Rattle.rep_plain.specs.inner.Tables.{IsSaving}
use Rattle.rep_plain.proofs.asides.save_all.Given as goal

abbrev pub invariant-loop-row : goal.invariant-loop-row
invariant-loop-row l =
    IsPlainTable l.aside.entries l.named
    × IsSaving (rows_of l.table.entries) (rows_of l.fn.aside.entries) (rows_of l.aside.entries)
    × AreSaved (rows_of l.aside.entries) (rows_of (take l.row-index l.fresh))
