use Rattle.std.proofs.Common.{◌≡◌, drop}
use Rattle.sn_local.specs.WillDialogs.{dialog_at}
use Rattle.sn_local.proofs.will_dialogs.dialog_at.Given as goal

abbrev pub invariant-loop-dialog : goal.invariant-loop-dialog
invariant-loop-dialog l = dialog_at l.address (drop l.dialog-index l.dialogs) ≡ dialog_at l.address l.dialogs
