-- Ticks of one moment, one after the other, and how many of them do something.
use Rattle.std.specs.Prelude.{◌≡◌, ℕ, ◌+◌, Bool, ◌||◌, if◌then◌else◌, is_some, List, [], ◌∷◌, ◌++◌, Some}
use Rattle.sn_topic.specs.Table.{Entries}
use Rattle.rep_op.specs.declared.op.Op.{Op}
use Rattle.rep_op.specs.Sets.{Same}
use Rattle.sn_local.specs.declared.config.Addr.{Addr}
use Rattle.sn_plan.specs.declared.plan.Plan.{Plan}
use Rattle.sn_local.specs.Locals.{Local, after_all}
use Rattle.sn_local.specs.Seen.{Seen, seen_of}
use Rattle.sn_tick.specs.Due.{first_due}
use Rattle.sn_tick.specs.Ticking.{may_advertise, tick}

-- whether a tick does something: it is time for ADVERTISE, or something is due with a client
abbrev pub does_something : ℕ → ℕ → List Addr → Seen → Local → ℕ → Bool
does_something g advertise field seen local now =
    may_advertise advertise field now local.advertised
    || is_some (first_due g seen local now seen.all)

-- a tick that was not refused: its plan, and the delta in which its operations came into the set
pub record Ticked : Type 0 where
  pub plan : Plan
  pub delta : List Op

-- These are ticks of the moment now, one after the other, by a gateway with this set and this local
-- state. Each is the tick of what the ones before it left. Ticks that are refused change nothing
-- and are not among them.
abbrev pub AreTicks : ℕ → ℕ → ℕ → List Addr → Entries → ℕ → List Op → Local → List Ticked → Type 0
AreTicks g lifetime advertise field predefined now S local [] = Unit {0}
AreTicks g lifetime advertise field predefined now S local (t ∷ rest) =
    (tick g lifetime advertise field predefined (seen_of S) local now ≡ Some t.plan)
    × Same t.delta t.plan.ops
    × AreTicks g lifetime advertise field predefined now (S ++ t.delta)
    (after_all local t.plan.local) rest

-- how many of these ticks do something
abbrev pub busy : ℕ → ℕ → List Addr → ℕ → List Op → Local → List Ticked → ℕ
busy g advertise field now S local [] = 0
busy g advertise field now S local (t ∷ rest) =
    (if does_something g advertise field (seen_of S) local now then 1 else 0)
    + busy g advertise field now (S ++ t.delta) (after_all local t.plan.local) rest

-- the set after these ticks
abbrev pub set_behind : List Op → List Ticked → List Op
set_behind S [] = S
set_behind S (t ∷ rest) = set_behind (S ++ t.delta) rest

-- the local state after these ticks
abbrev pub local_behind : Local → List Ticked → Local
local_behind local [] = local
local_behind local (t ∷ rest) = local_behind (after_all local t.plan.local) rest
