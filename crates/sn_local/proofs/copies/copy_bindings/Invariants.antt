use Rattle.std.proofs.Common.{◌≡◌, take}
use Rattle.sn_local.proofs.copies.copy_bindings.Given as goal

abbrev pub invariant-loop-binding : goal.invariant-loop-binding
invariant-loop-binding l = l.made.items ≡ take l.binding-index l.bindings
