use Rattle.std.proofs.Common.{◌≡◌, drop}
use Rattle.sn_tick.specs.Ticking.{dialogs_ended}
use Rattle.sn_tick.proofs.ticking.end_dialogs.Given as goal

abbrev pub invariant-loop-dialog : goal.invariant-loop-dialog
invariant-loop-dialog l = dialogs_ended l.now (drop l.dialog-index l.dialogs) l.draft ≡ dialogs_ended l.now l.dialogs l.fn.draft
