-- What a stream of octets says.
use Rattle.std.specs.Prelude.{◌≡◌, ℕ, List, Option, Some, None, Result, Ok, Err}
use Rattle.gw_net.specs.declared.fault.LinkFault.{LinkFault}
use Rattle.gw_net.specs.declared.fault.LinkFault.TheVariants as faults
use Rattle.gw_net.specs.declared.message.LinkMessage.{LinkMessage}
use Rattle.gw_net.specs.Streams.{Front}

-- the result is what is in front of the stream, seen by a view, unless memory ran out
abbrev pub IsFront : {X : Type 0} → (X → LinkMessage × List ℕ) → Result (Option X) LinkFault → Front
    → Type 0
IsFront view (Ok None) f = f ≡ Ok None
IsFront view (Ok (Some x)) f = f ≡ Ok (Some (view x))
IsFront view (Err faults.Memory) f = Unit {0}
IsFront view (Err fault) f = f ≡ Err fault

-- the result is the message of a body, or Body if there is none, unless memory ran out
abbrev pub IsBody : Result LinkMessage LinkFault → Option LinkMessage → Type 0
IsBody (Ok m) o = o ≡ Some m
IsBody (Err faults.Memory) o = Unit {0}
IsBody (Err faults.Body) o = o ≡ None
IsBody (Err fault) o = ⊥
