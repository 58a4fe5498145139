-- Steps from one operation to the next.
use Rattle.std.specs.Prelude.{ℕ, ◌==◌, Bool, true, not, ◌&&◌, if◌then◌else◌, nat_le, List, Option, Some, None, filter}
use Rattle.std.specs.List.{filter_map, list_any}
use Rattle.rep_op.specs.declared.op.Stamp.{Stamp}
use Rattle.rep_op.specs.declared.op.Put.{Put}
use Rattle.rep_op.specs.declared.op.Op.{Op}
use Rattle.rep_op.specs.declared.op.Op.TheVariants.{Session as OfSession, Put as OfPut, Ack, Retain as OfRetain}
use Rattle.rep_op.specs.Sets.{same_client, puts}
use Rattle.rep_model.specs.Keep.{is_below}
use Rattle.rep_model.specs.Limits.{joined, above_a_gap, sum_to}
use Rattle.rep_plain.specs.declared.ranges.Range.{Range}

-- the first, or else the second
abbrev pub first_of_two : {A : Type 0} → Option A → Option A → Option A
first_of_two None b = b
first_of_two (Some a) b = Some a

-- the client's acknowledgements in one operation
abbrev pub range_in : List ℕ → Op → Option Range
range_in c (Ack d origin first last) =
    if same_client c d then Some (record { origin = origin; first = first; last = last }) else None
range_in c op = None

-- whether the range has the name of the put
abbrev pub range_has : ℕ × ℕ → Range → Bool
range_has name range =
    (name.1 == range.origin) && nat_le range.first name.0 && nat_le name.0 range.last

-- the client's puts that no range covers, under their names
abbrev pub unacknowledged_by : List Range → List ℕ → List Op → List ((ℕ × ℕ) × Put)
unacknowledged_by ranges c S = filter (λ e. not (list_any (range_has e.0) ranges)) (puts c S)

-- the sequence numbers of the origin in the range
abbrev pub range_numbers : ℕ → Range → Option (ℕ × ℕ)
range_numbers origin range =
    if (origin == range.origin) && nat_le range.first range.last then Some (range.first, range.last)
    else None

-- the acknowledgements above a gap, of the origins 1 to n
unfoldable pub above_gaps : List Range → ℕ → ℕ
above_gaps ranges n =
    sum_to (λ origin. above_a_gap (joined (filter_map (range_numbers origin) ranges))) n

-- whether the operation must be kept, by the visible stamp and the acknowledgements of its client
abbrev pub must_stay : Option Stamp → List Range → Op → Bool
must_stay seen ranges (OfSession c stamp counter change) = not (is_below stamp seen)
must_stay seen ranges (OfPut c put) = not (list_any (range_has (put.seq, put.origin)) ranges)
must_stay seen ranges (Ack c origin first last) = true
must_stay seen ranges (OfRetain topic kept) = true
