use Rattle.std.proofs.Common.{◌≡◌, drop}
use Rattle.sn_local.specs.Bindings.{address_of}
use Rattle.sn_local.proofs.bindings.address_of.Given as goal

abbrev pub invariant-loop-binding : goal.invariant-loop-binding
invariant-loop-binding l = address_of l.client (drop l.binding-index l.bindings) ≡ address_of l.client l.bindings
