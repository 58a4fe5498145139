-- Which addresses and timers are of clients that the gateway owns.
use Rattle.std.specs.Prelude.{ℕ, Bool, true, ◌&&◌, ◌≡◌, List, ◌++◌}
use Rattle.std.specs.List.{list_all}
use Rattle.rep_op.specs.declared.op.Op.{Op}
use Rattle.rep_model.specs.Keep.{IsKeptOf}
use Rattle.sn_local.specs.Seen.{Seen, seen_of}
use Rattle.sn_local.specs.Locals.{Local}
use Rattle.sn_local.specs.Bindings.{has_owned}
use Rattle.sn_local.specs.Timers.{times_owned}

-- whether each address and each timer is of a client that the gateway owns
abbrev pub are_owned : ℕ → Seen → Local → Bool
are_owned g seen local =
    list_all (has_owned g seen) local.bindings && list_all (times_owned g seen) local.timers

-- before these operations the gateway owned each client with an address or a timer; `kept` is what
-- must be kept after them
pub record WereOwned (g : ℕ) (kept ops : List Op) (local : Local) : Type 0 where
  pub before : List Op
  pub taken : IsKeptOf (before ++ ops) kept
  pub owned : are_owned g (seen_of before) local ≡ true
