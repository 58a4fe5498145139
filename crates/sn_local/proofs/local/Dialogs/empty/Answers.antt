use Rattle.std.proofs.Common.{refl, sym, subst}
use Rattle.sn_local.specs.Bindings.{AreBindings}
use Rattle.sn_local.specs.Timers.{AreTimers}
use Rattle.sn_local.proofs.Addresses.{are_none}
use Rattle.sn_local.proofs.local.Dialogs.empty.Goals as goal

-- no bindings and no timers are in order
pub invariant_of-result : goal.invariant_of-result
invariant_of-result c =
    (subst AreBindings (sym c.new.ensures.items) are_none, subst AreTimers (sym c.new-3.ensures.items) refl)
