-- A link from which octets come in pieces.
use Rattle.std.specs.Prelude.{◌≡◌, ℕ, Bool, true, false, List, [], ◌++◌, Option, Some, None}
use Rattle.std.specs.Global.{Vec}
use Rattle.gw_net.specs.declared.fault.LinkFault.{LinkFault}
use Rattle.gw_net.specs.declared.message.LinkMessage.{LinkMessage}
use Rattle.gw_net.specs.Streams.{IsRead}

-- the octets that wait for the rest of their message, and whether the link has failed
pub record Pending : Type 0 where
  pub waiting : List ℕ
  pub failed : Bool

-- a link from which nothing has come yet
abbrev pub nothing_yet : Pending
nothing_yet = record { waiting = []; failed = false }

-- the octets that came, or none
abbrev pub octets_of : Option (Vec ℕ) → List ℕ
octets_of None = []
octets_of (Some octets) = octets.items

-- whether there is a fault
abbrev pub has_fault : Option LinkFault → Bool
has_fault None = false
has_fault (Some fault) = true

-- a piece after what waits gave the messages and the fault, and the rest waits
pub record IsPieceFed (before : Pending) (piece : List ℕ) (messages : List LinkMessage)
    (fault : Option LinkFault) (after : Pending) : Type 0 where
  pub unfailed : before.failed ≡ false
  pub read : IsRead (before.waiting ++ piece) messages fault after.waiting
  pub failed : after.failed ≡ has_fault fault
