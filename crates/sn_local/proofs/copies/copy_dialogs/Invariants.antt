use Rattle.std.proofs.Common.{◌≡◌, take}
use Rattle.sn_local.proofs.copies.copy_dialogs.Given as goal

abbrev pub invariant-loop-dialog : goal.invariant-loop-dialog
invariant-loop-dialog l = l.made.items ≡ take l.dialog-index l.dialogs
