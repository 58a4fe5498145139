-- The local state of a gateway: what it knows that is in no set of operations.
use Rattle.std.specs.Prelude.{ℕ, ◌≤◌, List, [], Option, None}
use Rattle.sn_local.specs.declared.local.Binding.{Binding}
use Rattle.sn_local.specs.declared.local.WillDialog.{WillDialog}
use Rattle.sn_local.specs.declared.local.Timer.{Timer}
use Rattle.sn_local.specs.declared.local.LocalChange.{LocalChange}
use Rattle.sn_local.specs.Seen.{Seen}
use Rattle.sn_local.specs.Bindings.{bindings_after, owned_bindings}
use Rattle.sn_local.specs.WillDialogs.{dialogs_after}
use Rattle.sn_local.specs.Timers.{timers_after, owned_timers}
use Rattle.sn_local.specs.Advertising.{advertised_after}

-- which address is which client, from which addresses a will is awaited, when which client was last
-- heard of, and when the gateway advertised itself last, if it did
pub record Local : Type 0 where
  pub bindings : List Binding
  pub dialogs : List WillDialog
  pub timers : List Timer
  pub advertised : Option ℕ

-- a gateway that has just started
abbrev pub no_local : Local
no_local = record { bindings = []; dialogs = []; timers = []; advertised = None }

-- the local state after these changes
abbrev pub after_all : Local → List LocalChange → Local
after_all local changes =
    record {
      bindings = bindings_after local.bindings changes;
      dialogs = dialogs_after local.dialogs changes;
      timers = timers_after local.timers changes;
      advertised = advertised_after local.advertised changes;
    }

-- the bindings and the timers of the clients that the gateway owns; the rest stays
abbrev pub owned : ℕ → Seen → Local → Local
owned g seen local =
    record {
      bindings = owned_bindings g seen local.bindings;
      dialogs = local.dialogs;
      timers = owned_timers g seen local.timers;
      advertised = local.advertised;
    }

-- for how many more entries of each list there is room
pub record Room : Type 0 where
  pub bindings : ℕ
  pub dialogs : ℕ
  pub timers : ℕ

-- the local state, with room for more
pub record Roomy : Type 0 where
  pub local : Local
  pub room : Room

-- there is room for n changes: each adds at most one entry to a list
abbrev pub IsRoomFor : ℕ → Room → Type 0
IsRoomFor n room = (n ≤ room.bindings) × (n ≤ room.dialogs) × (n ≤ room.timers)
