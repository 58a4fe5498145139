-- The bytes of a slot: a header, then records with one seal among them.
use Rattle.std.specs.Prelude.{ℕ, zero, suc, ◌+◌, ◌==◌, Bool, true, false, if◌then◌else◌, nat_lt, min, List, [], ◌∷◌, ◌++◌, length, take, drop, flat_map, Result, Ok, Err}
use Rattle.std.specs.Int.{w32, w64, from_be_bytes}
use Rattle.std.specs.Str.{bytes_eq}
use Rattle.byteorder.specs.Endian.{big_bytes}
use Rattle.rep_op.specs.declared.op.Op.{Op}
use Rattle.rep_op.specs.declared.fault.OpsFault.{OpsFault}
use Rattle.rep_ops.specs.Reading.{delta_reading}
use Rattle.rep_ops.specs.Spelling.{delta_spelling, max_octets}
use Rattle.jr_journal.specs.declared.piece.Piece.{Piece}
use Rattle.jr_journal.specs.declared.piece.Piece.TheVariants.{Whole, Seal, Torn, Bad}
use Rattle.jr_journal.specs.declared.piece.Found.{Found}
use Rattle.jr_journal.specs.declared.content.SlotContent.{SlotContent}
use Rattle.jr_journal.specs.declared.content.SlotContent.TheVariants.{Alien, Unsealed, Sealed, Broken}
use Rattle.jr_disk.specs.Disk.{Image}

-- ---- writing

-- the bytes of a delta
unfoldable pub delta_bytes : List Op → List ℕ
delta_bytes delta = delta_spelling delta

-- a record: its tag, 44 in hexadecimal, its length in four bytes, the delta's bytes
abbrev pub written : List Op → List ℕ
written delta = 68 ∷ big_bytes 4 (length (delta_bytes delta)) ++ delta_bytes delta

-- records one behind the other
abbrev pub written_all : List (List Op) → List ℕ
written_all deltas = flat_map written deltas

-- the first five bytes of a header, which say whose it is
abbrev pub magic : ℕ → List ℕ
magic gateway = 83 ∷ 78 ∷ 74 ∷ 49 ∷ gateway ∷ []

-- the first 13 bytes of a slot: five that name the gateway, and the generation in eight
abbrev pub header : ℕ → ℕ → List ℕ
header gateway generation = magic gateway ++ big_bytes 8 generation

-- a journal without a record: its header, of generation 1, and the seal
abbrev pub new_journal : ℕ → List ℕ
new_journal gateway = header gateway 1 ++ 83 ∷ []

-- what a compaction writes: a header, the base as records, and the seal
abbrev pub base_bytes : ℕ → ℕ → List (List Op) → List ℕ
base_bytes gateway generation base = header gateway generation ++ (flat_map written base ++ 83 ∷ [])

-- ---- reading

-- the piece that a record with so many bytes of delta is: whole if they can be read, else bad
abbrev pub whole_if : Result (List Op) OpsFault → ℕ → Piece
whole_if (Ok delta) size = Whole delta size
whole_if (Err fault) size = Bad

-- the piece that so many bytes of delta make: a whole record if they can be read, else bad
unfoldable pub delta_piece : ℕ → List ℕ → Piece
delta_piece size rest = whole_if (delta_reading (take size rest)) size

-- the piece of a record with so many bytes of delta: bad above 8 MiB, torn if bytes are missing
abbrev pub piece_body_at : ℕ → List ℕ → Piece
piece_body_at size rest =
    if nat_lt max_octets size then Bad
    else (if nat_lt (length rest) size then Torn else delta_piece size rest)

-- the piece of a record, after its tag: torn if its length is not there
abbrev pub record_at : List ℕ → Piece
record_at rest =
    if nat_lt (length rest) 4 then Torn
    else piece_body_at (from_be_bytes w32 (take 4 rest)) (drop 4 rest)

-- the piece that begins with this byte: a record, the seal, or bad
unfoldable pub piece_at : ℕ → List ℕ → Piece
piece_at tag rest = if tag == 68 then record_at rest else (if tag == 83 then Seal else Bad)

-- the one of four values that belongs to the kind of piece
abbrev pub match_piece : {A : Type 0} → Piece → (List Op → ℕ → A) → A → A → A → A
match_piece (Whole delta size) whole seal torn bad = whole delta size
match_piece Seal whole seal torn bad = seal
match_piece Torn whole seal torn bad = torn
match_piece Bad whole seal torn bad = bad

-- what was found: deltas, whether the seal was among them, how many bytes, and whether a bad piece
-- follows
abbrev pub found_of : List (List Op) → Bool → ℕ → Bool → Found
found_of deltas sealed whole bad =
    record { deltas = deltas; sealed = sealed; whole = whole; bad = bad }

-- nothing more is there, or what comes next may not be there
abbrev pub ended : Bool → Bool → Found
ended sealed bad = found_of [] sealed 0 bad

-- what was found, and then what was found after it
abbrev pub found_joined : Found → Found → Found
found_joined r q = found_of (r.deltas ++ q.deltas) q.sealed (r.whole + q.whole) q.bad

-- what is found in one whole record: its delta, and its bytes with the five in front of the delta
abbrev pub one_record : List Op → ℕ → Bool → Found
one_record delta size sealed = found_of (delta ∷ []) sealed (5 + size) false

-- what is found in the seal: one byte, and no delta
abbrev pub one_seal : Found
one_seal = found_of [] true 1 false

-- The whole pieces from a place on: deltas, seal, how many bytes they are, and whether what comes
-- next may not be there. So many bytes are skipped first.
unfoldable pub found : ℕ → Bool → List ℕ → Found
found skip sealed [] = ended sealed false
found (suc skip) sealed (b ∷ rest) = found skip sealed rest
found zero sealed (b ∷ rest) =
    match_piece (piece_at b rest)
    (λ delta size. found_joined (one_record delta size sealed) (found (4 + size) sealed rest))
    (if sealed then ended true true else found_joined one_seal (found 0 true rest))
    (ended sealed false)
    (ended sealed true)

-- ---- slots

-- as many of the first five bytes as are there are those of a header of this gateway
abbrev pub begins : ℕ → List ℕ → Bool
begins gateway bytes =
    bytes_eq (take (min (length bytes) 5) bytes) (take (min (length bytes) 5) (magic gateway))

-- what a slot is, by what was found after its header: broken at a byte, sealed, or unsealed
abbrev pub after_header : ℕ → Found → SlotContent
after_header generation f =
    if f.bad then Broken (13 + f.whole) else (if f.sealed then Sealed generation f else Unsealed)

-- what a slot is to this gateway: alien, unsealed, sealed, or broken at a byte
unfoldable pub slot_content : ℕ → List ℕ → SlotContent
slot_content gateway bytes =
    if begins gateway bytes
    then (if nat_lt (length bytes) 13 then Unsealed else after_header
    (from_be_bytes w64 (take 8 (drop 5 bytes))) (found 0 false (drop 13 bytes)))
    else Alien

-- the generation of a sealed slot
abbrev pub generation_in : SlotContent → ℕ
generation_in (Sealed generation f) = generation
generation_in content = 0

-- the deltas of the slot that is read: of the sealed ones that of the greater generation
abbrev pub chosen : SlotContent → SlotContent → List (List Op)
chosen (Sealed m f) (Sealed n g) =
    if nat_lt n m then f.deltas else (if nat_lt m n then g.deltas else [])
chosen (Sealed m f) right = f.deltas
chosen left (Sealed n g) = g.deltas
chosen left right = []

-- the records of an image: the deltas of its sealed slot, of two that of the greater generation
abbrev pub records : ℕ → Image → List (List Op)
records gateway i = chosen (slot_content gateway i.first) (slot_content gateway i.second)
