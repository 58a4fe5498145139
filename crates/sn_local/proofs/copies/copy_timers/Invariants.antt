use Rattle.std.proofs.Common.{◌≡◌, take}
use Rattle.sn_local.proofs.copies.copy_timers.Given as goal

abbrev pub invariant-loop-timer : goal.invariant-loop-timer
invariant-loop-timer l = l.made.items ≡ take l.timer-index l.timers
