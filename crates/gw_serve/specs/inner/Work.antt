-- A worker's place before and after its work.
use Rattle.std.specs.Prelude.{◌≡◌, ◌<◌, length, slice_index_or, ℕ, ◌+◌, Option, Some, None, List, [], ◌∷◌, map}
use Rattle.atomic_table.specs.declared.badge.Badge.{Badge}
use Rattle.crossbeam_channel.specs.declared.flavors.array.Rows.{Rows}
use Rattle.crossbeam_channel.specs.declared.flavors.array.Key.{Key}
use Rattle.crossbeam_channel.specs.declared.flavors.array.Doing.{Doing}
use Rattle.crossbeam_channel.specs.Claims.{view, IsSeatAt}
use Rattle.gw_shift.specs.Calls.{Holder}
use Rattle.gw_shift.specs.Passes.{seen_by}
use Rattle.gw_serve.specs.declared.queue.Datagram.{Datagram}
use Rattle.gw_serve.specs.declared.queue.Hand.{Hand}
use Rattle.gw_serve.specs.declared.worker.Seat.{Seat}
use Rattle.gw_serve.specs.declared.worker.Taken.{Taken}
use Rattle.gw_serve.specs.declared.worker.Trouble.TheVariants as troubles
use Rattle.gw_serve.specs.Count.{weigh}
use Rattle.gw_serve.specs.inner.Queue.{hand}
use Rattle.gw_serve.specs.Serving.{Gains, EachGains}

-- the passes of a seat while no fault was met: its steps are those of the numbers taken, and each
-- number is in one list
pub record IsWorking (before : Holder) (v : Hand) (taken : List Taken) (left : List ℕ)
    (pass : Holder) : Type 0 where
  pub part : v.parts ≡ 1
  pub unsent : v.sent ≡ []
  pub gains : Gains before (map (λ t. t.step) taken) pass
  pub numbers : (h : ℕ → ℕ) → weigh h v.taken ≡ weigh h (map (λ t. t.datagram) taken) + weigh h left

module _ {Q M L A : Type 0}
    (c : Rows (Badge (Key Datagram)) (Doing Datagram Hand) Q M (Key Datagram) L A) where
  -- nothing was done in it
  abbrev pub IsFresh : Seat → Type 0
  IsFresh seat = IsSeatAt c seat.ticket × (view seat.ticket ≡ hand 1 [] [])
      × (seat.taken.items ≡ []) × (seat.left.items ≡ []) × (seat.fault ≡ None)

  -- Its pass gained steps of frames. With no fault they are those of `taken`, and each number that
  -- was taken is in `taken` or in `left`. If its pass was behind, that has seen a number.
  pub record IsWorked (before : Holder) (seat : Seat) : Type 0 where
    pub channel : IsSeatAt c seat.ticket
    pub part : (view seat.ticket).parts ≡ 1
    pub unsent : (view seat.ticket).sent ≡ []
    pub gains : (steps : List ℕ) × Gains before steps seat.pass
    pub working : seat.fault ≡ None → IsWorking before (view seat.ticket) seat.taken.items
        seat.left.items seat.pass
    pub behind : seat.fault ≡ Some troubles.Behind → 0 < seen_by seat.pass

  abbrev pub IsFreshSlot : Option Seat → Type 0
  IsFreshSlot (Some seat) = IsFresh seat
  IsFreshSlot None = ⊥

  -- the seat is done, with whatever pass it began
  abbrev pub IsDone : Option Seat → Type 0
  IsDone (Some seat) = (before : Holder) × IsWorked before seat
  IsDone None = ⊥

  -- the seat after its work
  abbrev pub IsWorkedSlot : Option Seat → Option Seat → Type 0
  IsWorkedSlot (Some old) (Some new) = IsWorked old.pass new
  IsWorkedSlot (Some old) None = ⊥
  IsWorkedSlot None new = ⊥

  abbrev pub WorkedFrom : List (Option Seat) → List (Option Seat) → Type 0
  WorkedFrom old new = (i : ℕ) (d : Option Seat) → i < length old
      → IsWorkedSlot (slice_index_or old i d) (slice_index_or new i d)

  -- the seats are done, and these are the passes that they began with
  abbrev pub DoneFrom : List Holder → List (Option Seat) → Type 0
  DoneFrom [] [] = Unit {0}
  DoneFrom (p ∷ ps) (Some seat ∷ slots) = IsWorked p seat × DoneFrom ps slots
  DoneFrom (p ∷ ps) (None ∷ slots) = ⊥
  DoneFrom [] (slot ∷ slots) = ⊥
  DoneFrom (p ∷ ps) [] = ⊥

-- what all seats did, together
pub record IsGathered (before : List Holder) (v : Hand) (taken : List Taken) (left : List ℕ)
    (passes : List Holder) : Type 0 where
  pub gains : EachGains before (map (λ t. t.step) taken) passes
  pub numbers : (h : ℕ → ℕ) → weigh h v.taken ≡ weigh h (map (λ t. t.datagram) taken) + weigh h left

-- the pass of a seat
abbrev pub pass_of : Option Seat → Holder
pass_of (Some seat) = seat.pass
pass_of None = record { place = 0; opening = []; calls = [] }
