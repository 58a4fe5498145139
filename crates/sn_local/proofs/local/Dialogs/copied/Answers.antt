use Rattle.std.proofs.Common.{◌≡◌, ℕ, List, Option, sym, ap, ◌∙◌, subst}
use Rattle.sn_local.specs.declared.local.Binding.{Binding}
use Rattle.sn_local.specs.declared.local.WillDialog.{WillDialog}
use Rattle.sn_local.specs.declared.local.Timer.{Timer}
use Rattle.sn_local.specs.Bindings.{AreBindings}
use Rattle.sn_local.specs.Timers.{AreTimers}
use Rattle.sn_local.specs.Locals.{Local, Roomy}
use Rattle.sn_local.proofs.local.Dialogs.copied.Goals as goal

-- the lists are equal, so they are in order
pub invariant_of-result : goal.invariant_of-result
invariant_of-result c = (
  subst AreBindings (sym (c.in_ok-bindings.ensures ∙ c.as_slice-bound.ensures.value)) c.self.invariant.0,
  subst AreTimers (sym (c.in_ok-timers.ensures ∙ c.as_slice-timed.ensures.value)) c.self.invariant.1,
)

-- equal lists make equal states
same_lists : (b c : List Binding) (d e : List WillDialog) (t u : List Timer) (a : Option ℕ) → b ≡ c → d ≡ e → t ≡ u
    → ◌≡◌ {A = Local} (record { bindings = b; dialogs = d; timers = t; advertised = a }) (record { bindings = c; dialogs = e; timers = u; advertised = a })
same_lists b c d e t u a p q r = λ i. record { bindings = p i; dialogs = q i; timers = r i; advertised = a }

pub returns : goal.returns
returns c =
    let own = c.self.inside in
    same_lists c.in_ok-bindings.bindings.items own.bindings.items c.in_ok-dialogs.dialogs.items own.dialogs.items c.in_ok-timers.timers.items own.timers.items own.advertised
    (c.in_ok-bindings.ensures ∙ c.as_slice-bound.ensures.value) (c.in_ok-dialogs.ensures ∙ c.as_slice-asked.ensures.value) (c.in_ok-timers.ensures ∙ c.as_slice-timed.ensures.value)
    ∙ ap (λ (r : Roomy). r.local) c.self.view_is
