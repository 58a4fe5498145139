-- The places of records in their slot, and what an opening says of two slots.
use Rattle.std.specs.Prelude.{◌≡◌, ℕ, ◌+◌, List, [], ◌∷◌, drop, Option, Some}
use Rattle.rep_op.specs.declared.op.Op.{Op}
use Rattle.jr_disk.specs.declared.disk.Slot.{Slot}
use Rattle.jr_disk.specs.declared.disk.Slot.TheVariants.{First, Second}
use Rattle.jr_journal.specs.declared.fault.JournalFault.{JournalFault}
use Rattle.jr_journal.specs.declared.fault.JournalFault.TheVariants.{Disk, Foreign, BadRecord, Memory, Halted}
use Rattle.jr_journal.specs.declared.piece.Piece.{Piece}
use Rattle.jr_journal.specs.declared.piece.Piece.TheVariants.{Whole, Torn}
use Rattle.jr_disk.specs.Disk.{Image}
use Rattle.jr_journal.specs.Records.{piece_at}
use Rattle.jr_read.specs.declared.places.Place.{Place}

-- two slots that hold these octets
abbrev pub slots_of : List ℕ → List ℕ → Image
slots_of first second = record { first = first; second = second }

-- the octets of one of them
abbrev pub octets_in : Image → Slot → List ℕ
octets_in i First = i.first
octets_in i Second = i.second

-- what an opening says of them: the fault that there is, or that memory ran out
abbrev pub IsTold : Option JournalFault → JournalFault → Type 0
IsTold fault Memory = Unit {0}
IsTold fault Foreign = fault ≡ Some Foreign
IsTold fault (BadRecord slot at) = fault ≡ Some (BadRecord slot at)
IsTold fault Disk = ⊥
IsTold fault Halted = ⊥

-- what octets begin with
abbrev pub piece_in : List ℕ → Piece
piece_in [] = Torn
piece_in (b ∷ rest) = piece_at b rest

-- at this place of a slot is the whole record of this delta, and it ends with the place
abbrev pub IsPlaced : List ℕ → Place → List Op → Type 0
IsPlaced slot place delta =
    (size : ℕ) × (piece_in (drop place.at slot) ≡ Whole delta size) × (place.octets ≡ 5 + size)

-- each record is at its place
abbrev pub ArePlaced : List ℕ → List Place → List (List Op) → Type 0
ArePlaced slot [] [] = Unit {0}
ArePlaced slot (place ∷ places) (delta ∷ deltas) =
    IsPlaced slot place delta × ArePlaced slot places deltas
ArePlaced slot [] (delta ∷ deltas) = ⊥
ArePlaced slot (place ∷ places) [] = ⊥
