-- Reading a delta from left to right, up to the first fault. A reader gives a value and the octets
-- after it.
use Rattle.std.specs.Prelude.{ℕ, zero, suc, ◌+◌, ◌==◌, Bool, true, ◌&&◌, if◌then◌else◌, nat_lt, List, [], ◌∷◌, ◌++◌, length, slice_index, ◌<◌, Result, Ok, Err}
use Rattle.std.specs.Int.{w32}
use Rattle.std.specs.List.{list_any}
use Rattle.std.specs.Ordering.{is_lt}
use Rattle.rep_op.specs.declared.fault.OpsFault.{OpsFault}
use Rattle.rep_op.specs.declared.fault.OpsFault.TheVariants as faults
use Rattle.rep_op.specs.declared.op.Op.{Op}
use Rattle.rep_op.specs.declared.op.Op.TheVariants.{Ack}
use Rattle.rep_op.specs.Orders.{name_cmp}
use Rattle.rep_op.specs.Sets.{same_client}
use Rattle.rep_op.specs.declared.version.Version.TheVariants.{One, Two}
use Rattle.rep_op.specs.Versions.{needs_two}
use Rattle.rep_read.specs.Reading.{Reader, ◌>>=◌, octet_at, number_at, op_at}
use Rattle.rep_ops.specs.Spelling.{max_octets}

-- ---- texts: a version, a count, and values, each of which may follow those before it

-- whether a value may follow these: it may come right after the last of them
abbrev pub follows_last : {A : Type 0} → (A → A → Bool) → List A → A → Bool
follows_last next [] x = true
follows_last next (a ∷ []) x = next a x
follows_last next (a ∷ b ∷ more) x = follows_last next (b ∷ more) x

-- so many values, after those that were read
unfoldable pub listed_at : {A : Type 0} → Reader A → (List A → A → Bool) → ℕ → List A
    → Reader (List A)
listed_at read follows zero front bytes = Ok (front, bytes)
listed_at read follows (suc n) front bytes =
    read bytes >>= λ x.
    if follows front x.0 then listed_at read follows n (front ++ x.0 ∷ []) x.1
    else Err faults.Order

-- the count and the values
abbrev pub values_at : {A : Type 0} → Reader A → (List A → A → Bool) → Reader (List A)
values_at read follows bytes =
    number_at w32 bytes >>= λ count. listed_at read follows count.0 [] count.1

-- version 1, the count and the values
unfoldable pub text_at : {A : Type 0} → Reader A → (List A → A → Bool) → Reader (List A)
text_at read follows bytes =
    octet_at bytes >>= λ version.
    if version.0 == 1 then values_at read follows version.1 else Err faults.Version

-- a text, and nothing after it
unfoldable pub whole_at : {A : Type 0} → Reader A → List ℕ → Result A OpsFault
whole_at read bytes = read bytes >>= λ x. if length x.1 == 0 then Ok x.0 else Err faults.Trailing

-- what the octets say, or why they are no such text: Limit, then the first fault of the reader,
-- last Trailing
abbrev pub reading_by : {A : Type 0} → Reader A → List ℕ → Result A OpsFault
reading_by read bytes =
    if nat_lt max_octets (length bytes) then Err faults.Limit else whole_at read bytes

-- what the octets say in version 1, or the first fault: Limit, then Version, Truncated, Kind and
-- Order as they come, last Trailing
abbrev pub reading_of : {A : Type 0} → Reader A → (List A → A → Bool) → List ℕ
    → Result (List A) OpsFault
reading_of read follows bytes = reading_by (text_at read follows) bytes

-- ---- deltas

-- the test of `IsApart`
abbrev pub is_apart : Op → Op → Bool
is_apart (Ack c origin first last) (Ack d other start end) =
    if same_client c d && (origin == other) then nat_lt (last + 1) start else true
is_apart a b = true

-- whether the second operation may come right after the first
abbrev pub is_next : Op → Op → Bool
is_next a b = is_lt (name_cmp a b) && is_apart a b

-- whether the operation may follow these
abbrev pub may_follow : List Op → Op → Bool
may_follow ops op = follows_last is_next ops op

-- Version 2 is read only if an operation needed it. That is checked after the operations.
unfoldable pub needed_at : Reader (List Op)
needed_at bytes =
    values_at (op_at Two) may_follow bytes >>= λ x.
    if list_any needs_two x.0 then Ok x else Err faults.Version

-- the version, the count and the operations
unfoldable pub delta_at : Reader (List Op)
delta_at bytes =
    octet_at bytes >>= λ version.
    if version.0 == 1 then values_at (op_at One) may_follow version.1
    else (if version.0 == 2 then needed_at version.1 else Err faults.Version)

-- what the octets say, or the first fault for which they are no delta
abbrev pub delta_reading : List ℕ → Result (List Op) OpsFault
delta_reading bytes = reading_by delta_at bytes

-- what the octets say in version 1, which is all that an older gateway reads
abbrev pub reading_one : List ℕ → Result (List Op) OpsFault
reading_one bytes = reading_of (op_at One) may_follow bytes

-- numbers of 8 bits
abbrev pub AreOctets : List ℕ → Type 0
AreOctets bytes = (i : ℕ) → slice_index bytes i < 256
