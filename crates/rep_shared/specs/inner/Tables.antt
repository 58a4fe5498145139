-- Which limit is passed, and why an operation is refused.
use Rattle.std.specs.Prelude.{◌≡◌, ℕ, Bool, List, Option, Some, None, nat_lt, if◌then◌else◌}
use Rattle.rep_op.specs.declared.op.Op.{Op}
use Rattle.rep_op.specs.Orders.{subject_of}
use Rattle.rep_op.specs.Sets.{Agrees}
use Rattle.rep_model.specs.declared.fault.TheConstants.{MOST_CLIENTS}
use Rattle.rep_model.specs.declared.fault.Limit.{Limit}
use Rattle.rep_model.specs.declared.fault.Limit.TheVariants.{Clients, Pending, Parked, Exceptions}
use Rattle.rep_model.specs.declared.fault.TakeFault.{TakeFault}
use Rattle.rep_model.specs.declared.fault.TakeFault.TheVariants.{Conflict, Full, Memory}

-- the first limit that is passed: of clients, and whether any client passes those of pending,
-- parked and exceptions
abbrev pub passed_of : ℕ → Bool → Bool → Bool → Option Limit
passed_of count pending parked exceptions =
    if nat_lt MOST_CLIENTS count then Some Clients
    else (if pending then Some Pending
    else (if parked then Some Parked
    else (if exceptions then Some Exceptions else None)))

-- why the operation is refused: it contradicts one that is there, and what it is about is named; or
-- memory ran out
abbrev pub IsRefusalOf : List Op → Op → TakeFault → Type 0
IsRefusalOf S op (Conflict about) = (subject_of op ≡ about) × (¬ (Agrees S op))
IsRefusalOf S op (Full limit) = ⊥
IsRefusalOf S op Memory = Unit {0}
