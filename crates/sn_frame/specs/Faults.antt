-- What each refusal of a datagram means. They are looked for in the order Empty, Encapsulated,
-- Length, UnknownType, Body.
use Rattle.std.specs.Prelude.{◌≡◌, ◌≢◌, ℕ, zero, suc, ◌+◌, ◌*◌, ◌==◌, if◌then◌else◌, List, [], ◌∷◌, length, slice_get, slice_index, Option, Some}
use Rattle.sn_frame.specs.declared.fault.FrameFault.{FrameFault}
use Rattle.sn_frame.specs.declared.fault.FrameFault.TheVariants as faults
use Rattle.sn_frame.specs.declared.frame.Frame.{Frame}
use Rattle.sn_frame.specs.declared.msg_type.MsgType.{MsgType}
use Rattle.sn_frame.specs.Bodies.{IsValue}
use Rattle.sn_frame.specs.Grammar.{IsFramed, Spells}
use Rattle.sn_frame.specs.Types.{octet_of}

-- the octet at the place of the type: the fourth if the first is 1, else the second
abbrev pub type_place : List ℕ → Option ℕ
type_place bytes = if slice_index bytes 0 == 1 then slice_get bytes 3 else slice_get bytes 1

-- the total that the frame states: after a 1 the next two octets if both are there, else the first
-- octet
abbrev pub said_total : List ℕ → ℕ
said_total (suc zero ∷ high ∷ low ∷ rest) = high * 256 + low
said_total bytes = slice_index bytes 0

-- There are octets, and they are no forwarder's encapsulation.
pub record IsPlain (bytes : List ℕ) : Type 0 where
  pub there : bytes ≢ []
  pub plain : type_place bytes ≢ Some 0xFE

-- A message has this octet.
abbrev pub IsType : ℕ → Type 0
IsType kind = (t : MsgType) × (octet_of t ≡ kind)

-- The octets spell some frame.
abbrev pub IsSpelling : List ℕ → Type 0
IsSpelling bytes = (f : Frame) × (IsValue f × Spells bytes f)

-- The datagram is to be refused so, and for no reason that is looked for earlier. Only a good frame
-- is refused because memory ran out.
abbrev pub IsFirstFault : List ℕ → FrameFault → Type 0
IsFirstFault bytes faults.Empty = bytes ≡ []
IsFirstFault bytes faults.Encapsulated = type_place bytes ≡ Some 0xFE
IsFirstFault bytes (faults.Length said held) =
    IsPlain bytes × ((kind : ℕ) (body : List ℕ) → IsFramed bytes kind body → ⊥)
    × (said ≡ said_total bytes) × (held ≡ length bytes)
IsFirstFault bytes (faults.UnknownType kind) =
    IsPlain bytes × ((body : List ℕ) × IsFramed bytes kind body) × ¬ (IsType kind)
IsFirstFault bytes faults.Body =
    IsPlain bytes × ((t : MsgType) × (body : List ℕ) × IsFramed bytes (octet_of t) body)
    × ((f : Frame) → IsValue f → Spells bytes f → ⊥)
IsFirstFault bytes faults.Memory = IsSpelling bytes

-- the number that a refusal is printed by
abbrev pub frame_fault_number : FrameFault → ℕ
frame_fault_number faults.Empty = 1
frame_fault_number (faults.Length said held) = 2
frame_fault_number faults.Encapsulated = 3
frame_fault_number (faults.UnknownType kind) = 4
frame_fault_number faults.Body = 5
frame_fault_number faults.Memory = 6
