-- What a digest leaves of an operation.
use Rattle.std.specs.Prelude.{ℕ, ◌+◌, ◌-◌, Bool, false, ◌&&◌, ◌||◌, if◌then◌else◌, nat_le, nat_lt, List, [], ◌∷◌, ◌++◌, map, Option, Some, None}
use Rattle.rep_op.specs.declared.op.Op.{Op}
use Rattle.rep_op.specs.declared.op.Op.TheVariants.{Session as OfSession, Put as OfPut, Ack, Retain as OfRetain}
use Rattle.rep_op.specs.declared.op.Retained.{Retained}
use Rattle.rep_op.specs.Orders.{clock_of}
use Rattle.rep_digest.specs.declared.entry.ClientEntry.{ClientEntry}
use Rattle.rep_digest.specs.declared.entry.RetainedEntry.{RetainedEntry}
use Rattle.rep_digest.specs.Digests.{Digested}
use Rattle.rep_model.specs.Keep.{keep}
use Rattle.rep_model.specs.Ranges.{in_ranges}
use Rattle.rep_answer.specs.Answers.{entry_of, topic_entry_of, acknowledged_in, waiting_in, sees, is_as_late, IsRest}

-- ranges from the first that does not end before the number
abbrev pub ending_from : ℕ → List (ℕ × ℕ) → List (ℕ × ℕ)
ending_from n [] = []
ending_from n (r ∷ rest) = if nat_lt r.1 n then ending_from n rest else r ∷ rest

-- ranges up to the last that begins at the number or before it
abbrev pub beginning_by : ℕ → List (ℕ × ℕ) → List (ℕ × ℕ)
beginning_by n [] = []
beginning_by n (r ∷ rest) = if nat_le r.0 n then r ∷ beginning_by n rest else []

-- whether the first of the ranges begins at the number or before it
abbrev pub begins_by : ℕ → List (ℕ × ℕ) → Bool
begins_by n [] = false
begins_by n (r ∷ rest) = nat_le r.0 n

-- whether the second range reaches into the first
abbrev pub reaches_into : ℕ × ℕ → ℕ × ℕ → Bool
reaches_into r s = nat_le s.0 r.1 && nat_le r.0 s.1

-- what of a range is before one that reaches into it
abbrev pub before : ℕ × ℕ → ℕ × ℕ → List (ℕ × ℕ)
before r s = if nat_lt r.0 s.0 && reaches_into r s then (r.0, s.0 - 1) ∷ [] else []

-- what of a range comes after another: all of it if that one does not reach into it
abbrev pub behind : ℕ × ℕ → ℕ × ℕ → Option (ℕ × ℕ)
behind r s =
    if reaches_into r s then (if nat_lt s.1 r.1 then Some (s.1 + 1, r.1) else None) else Some r

-- what is left of what is still open of a range, among the ranges that follow, which ascend
abbrev pub outside_from : Option (ℕ × ℕ) → List (ℕ × ℕ) → List (ℕ × ℕ)
outside_from None ranges = []
outside_from (Some r) [] = r ∷ []
outside_from (Some r) (s ∷ rest) = before r s ++ outside_from (behind r s) rest

-- what of a range is in none of the ranges, which ascend
abbrev pub outside : ℕ × ℕ → List (ℕ × ℕ) → List (ℕ × ℕ)
outside r ranges = outside_from (Some r) ranges

-- a range of a client and an origin, as an operation that acknowledges it
abbrev pub ack_of_range : List ℕ → ℕ → ℕ × ℕ → Op
ack_of_range c origin r = Ack c origin r.0 r.1

-- what the entry of a client leaves of an operation; all of one of a topic
abbrev pub left_by_entry : Option ClientEntry → Op → List Op
left_by_entry entry (OfSession c stamp counter change) =
    if sees entry (stamp, counter) then [] else OfSession c stamp counter change ∷ []
left_by_entry entry (OfPut c put) =
    if in_ranges put.seq (waiting_in put.origin entry)
    || in_ranges put.seq (acknowledged_in put.origin entry) then [] else OfPut c put ∷ []
left_by_entry entry (Ack c origin first last) =
    map (ack_of_range c origin) (outside (first, last) (acknowledged_in origin entry))
left_by_entry entry (OfRetain t kept) = OfRetain t kept ∷ []

-- what the entry of a topic leaves of what was retained of it
abbrev pub left_retained : Option RetainedEntry → List ℕ → Retained → List Op
left_retained entry t kept = if is_as_late entry (clock_of kept) then [] else OfRetain t kept ∷ []

-- what a digest leaves of an operation
abbrev pub left_by_digest : Digested → Op → List Op
left_by_digest digest (OfSession c stamp counter change) =
    left_by_entry (entry_of c digest.clients) (OfSession c stamp counter change)
left_by_digest digest (OfPut c put) = left_by_entry (entry_of c digest.clients) (OfPut c put)
left_by_digest digest (Ack c origin first last) =
    left_by_entry (entry_of c digest.clients) (Ack c origin first last)
left_by_digest digest (OfRetain t kept) = left_retained (topic_entry_of t digest.topics) t kept

-- the operations are what a digest leaves of what must be kept
abbrev pub IsLeftByDigest : Digested → List Op → List Op → Type 0
IsLeftByDigest digest K X = IsRest digest (keep K) X
