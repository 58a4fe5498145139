-- What holds of the clients that are bound at a gateway.
use Rattle.std.specs.Prelude.{◌≡◌, ℕ, true, List}
use Rattle.std.specs.List.{AllByRecursion}
use Rattle.rep_op.specs.declared.op.Op.{Op}
use Rattle.rep_model.specs.Views.{view}
use Rattle.sn_local.specs.declared.local.Binding.{Binding}
use Rattle.sn_local.specs.Bindings.{is_owned}
use Rattle.sn_local.specs.Locals.{Local}
use Rattle.sn_plan.specs.Others.{can_wake}
use Rattle.sn_local.specs.Seen.{seen_of}

-- the gateway owns the client, and it is Active, Asleep or Awake
abbrev pub IsClientUp : ℕ → List Op → List ℕ → Type 0
IsClientUp g S c = (is_owned g (seen_of S) c ≡ true) × (can_wake (view c S).session ≡ true)

-- each client that is bound is the gateway's, and Active, Asleep or Awake
abbrev pub IsUp : ℕ → List Op → Local → Type 0
IsUp g S local =
    AllByRecursion (λ (binding : Binding). IsClientUp g S binding.client) local.bindings
