-- When a tick has nothing to do.
use Rattle.std.specs.Prelude.{ℕ, Bool, ◌&&◌, ◌||◌, not, is_some, List}
use Rattle.std.specs.List.{list_any}
use Rattle.sn_local.specs.declared.config.Addr.{Addr}
use Rattle.sn_local.specs.Seen.{Seen}
use Rattle.sn_local.specs.Locals.{Local}
use Rattle.sn_tick.specs.Due.{due_with}
use Rattle.sn_tick.specs.Ticking.{is_old, needs_timer, may_advertise}

-- a client asks for something: it needs a timer, or something is due with it
abbrev pub asks : ℕ → Seen → Local → ℕ → List ℕ → Bool
asks g seen local now c =
    needs_timer g local.timers c (seen.of c) || is_some (due_with g seen local now c)

-- a tick of this moment has nothing to do: it is not time for ADVERTISE, no will dialog is a minute
-- old, and no client asks for anything
abbrev pub is_idle : ℕ → ℕ → List Addr → Seen → Local → ℕ → Bool
is_idle g advertise field seen local now =
    not (may_advertise advertise field now local.advertised)
    && (not (list_any (is_old now) local.dialogs)
    && not (list_any (asks g seen local now) seen.all))
