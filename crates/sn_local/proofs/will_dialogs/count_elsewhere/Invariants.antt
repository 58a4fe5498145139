-- those counted and those that are left are all
use Rattle.std.proofs.Common.{◌≡◌, ◌+◌, ◌≤◌, drop, length}
use Rattle.sn_local.specs.WillDialogs.{dialogs_elsewhere}
use Rattle.sn_local.proofs.will_dialogs.count_elsewhere.Given as goal

abbrev pub invariant-loop-dialog : goal.invariant-loop-dialog
invariant-loop-dialog l = record {
  counted : l.count + length (dialogs_elsewhere l.address (drop l.dialog-index l.dialogs)) ≡ length (dialogs_elsewhere l.address l.dialogs);
  few : l.count ≤ l.dialog-index;
}
