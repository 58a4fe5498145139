-- What a stream of octets says.
use Rattle.std.specs.Prelude.{◌≡◌, ℕ, ◌&&◌, if◌then◌else◌, nat_le, nat_lt, List, [], ◌∷◌, ◌++◌, length, take, drop, Option, Some, None, Result, Ok, Err}
use Rattle.std.specs.Int.{w32}
use Rattle.std.specs.List.{flat_map, AllByRecursion}
use Rattle.rep_op.specs.declared.fault.OpsFault.{OpsFault}
use Rattle.rep_read.specs.Reading.{number_at}
use Rattle.rep_ops.specs.Spelling.{max_octets}
use Rattle.gw_net.specs.declared.fault.LinkFault.{LinkFault}
use Rattle.gw_net.specs.declared.fault.LinkFault.TheVariants as faults
use Rattle.gw_net.specs.declared.message.LinkMessage.{LinkMessage}
use Rattle.gw_net.specs.Messages.{message_spelling, IsLinkMessage, message_at}

-- the message in front of a stream and the octets after it; nothing if octets are missing; or a
-- fault
abbrev pub Front : Type 0
Front = Result (Option (LinkMessage × List ℕ)) LinkFault

-- the message and the octets after it, or Body if its body says none
abbrev pub with_body : Option LinkMessage → List ℕ → Front
with_body None rest = Err faults.Body
with_body (Some m) rest = Ok (Some (m, rest))

-- the length is looked at as soon as it is there, the body when it is whole
abbrev pub front_sized : ℕ → Result (ℕ × List ℕ) OpsFault → Front
front_sized kind (Err fault) = Ok None
front_sized kind (Ok read) =
    if nat_lt max_octets read.0 then Err faults.TooLong
    else (if nat_lt (length read.1) read.0 then Ok None
    else with_body (message_at kind (take read.0 read.1)) (drop read.0 read.1))

-- what is in front of a stream; an unknown kind is a fault at once, before the length is there
unfoldable pub front : List ℕ → Front
front [] = Ok None
front (kind ∷ rest) =
    if nat_le 1 kind && nat_le kind 3 then front_sized kind (number_at w32 rest)
    else Err faults.Kind

-- what comes after the messages: no whole message, or the fault
abbrev pub EndsMessages : List ℕ → Option LinkFault → Type 0
EndsMessages rest None = front rest ≡ Ok None
EndsMessages rest (Some fault) = front rest ≡ Err fault

-- The messages are the longest list whose spellings, one after the other, begin the stream. After
-- them comes the fault, or no whole message.
pub record IsRead (stream : List ℕ) (messages : List LinkMessage) (fault : Option LinkFault)
    (rest : List ℕ) : Type 0 where
  pub all : AllByRecursion IsLinkMessage messages
  pub parts : stream ≡ flat_map message_spelling messages ++ rest
  pub ends : EndsMessages rest fault
