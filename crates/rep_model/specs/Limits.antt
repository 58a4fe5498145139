-- How much a replica holds.
use Rattle.std.specs.Prelude.{ℕ, zero, suc, ◌+◌, ◌-◌, ◌==◌, Bool, false, not, ◌&&◌, if◌then◌else◌, nat_le, nat_lt, List, [], ◌∷◌, length, filter, Option, Some, None, max, sum_by}
use Rattle.std.specs.Ordering.{is_eq}
use Rattle.std.specs.List.{filter_map, list_any}
use Rattle.sn_session.specs.declared.change.SessionOp.{SessionOp}
use Rattle.rep_op.specs.declared.op.Stamp.{Stamp}
use Rattle.rep_op.specs.declared.op.Op.{Op}
use Rattle.rep_op.specs.declared.op.Op.TheVariants.{Ack}
use Rattle.rep_op.specs.Orders.{stamp_cmp, operation_cmp}
use Rattle.rep_op.specs.Sets.{same_client, operations}
use Rattle.rep_model.specs.declared.fault.TheConstants.{MOST_CLIENTS, MOST_PENDING, MOST_PARKED, MOST_EXCEPTIONS, MOST_RETAINED}
use Rattle.rep_model.specs.declared.fault.Limit.{Limit}
use Rattle.rep_model.specs.declared.fault.Limit.TheVariants.{Clients, Pending, Parked, Exceptions, Retained}
use Rattle.rep_model.specs.Views.{visible, history, in_order, pending, clients}
use Rattle.rep_model.specs.Topics.{topics}
use Rattle.rep_model.specs.Keep.{is_below}

-- whether the name is one of the first operations of the visible stamp
abbrev pub is_in_prefix : Option Stamp → ℕ → Stamp × ℕ → Bool
is_in_prefix None prefix name = false
is_in_prefix (Some seen) prefix name = is_eq (stamp_cmp name.0 seen) && nat_lt name.1 prefix

-- whether a session operation waits: it is not below the visible stamp, and not among its
-- operations without a gap
abbrev pub is_parked : Option Stamp → ℕ → (Stamp × ℕ) × SessionOp → Bool
is_parked seen prefix e = not (is_below e.0.0 seen) && not (is_in_prefix seen prefix e.0)

-- the client's session operations that wait for earlier ones: at or above the visible stamp, and
-- not in its prefix
abbrev pub parked : List ℕ → List Op → List ((Stamp × ℕ) × SessionOp)
parked c S =
    filter (is_parked (visible c S) (length (history c S)))
    (in_order operation_cmp (operations c S))

-- a range of acknowledgements of the client and the origin
abbrev pub range_of : List ℕ → ℕ → Op → Option (ℕ × ℕ)
range_of c origin (Ack d o first last) =
    if same_client c d && (origin == o) && nat_le first last then Some (first, last) else None
range_of c origin op = None

-- the ranges with one more, in ascending order; ranges that overlap or touch are one
abbrev pub with_range : ℕ × ℕ → List (ℕ × ℕ) → List (ℕ × ℕ)
with_range r [] = r ∷ []
with_range r (s ∷ rest) =
    if nat_lt (r.1 + 1) s.0 then r ∷ s ∷ rest
    else (if nat_lt (s.1 + 1) r.0 then s ∷ with_range r rest
    else with_range (if nat_le r.0 s.0 then r.0 else s.0, max r.1 s.1) rest)

-- ranges in any order, made ascending ranges that neither overlap nor touch
abbrev pub joined : List (ℕ × ℕ) → List (ℕ × ℕ)
joined [] = []
joined (r ∷ rest) = with_range r (joined rest)

-- the sequence numbers of the client's acknowledged puts of an origin, as ranges in ascending order
-- that do not touch
abbrev pub acknowledged : List ℕ → ℕ → List Op → List (ℕ × ℕ)
acknowledged c origin S = joined (filter_map (range_of c origin) S)

-- how many sequence numbers a range has
abbrev pub size_of : ℕ × ℕ → ℕ
size_of r = (r.1 + 1) - r.0

-- how many numbers of the ranges are above one that is in none: all but those of a range that
-- begins at 1
abbrev pub above_a_gap : List (ℕ × ℕ) → ℕ
above_a_gap [] = 0
above_a_gap (r ∷ rest) = if nat_le r.0 1 then sum_by size_of rest else sum_by size_of (r ∷ rest)

-- the sum of f over n, n - 1, .. 1
abbrev pub sum_to : (ℕ → ℕ) → ℕ → ℕ
sum_to f zero = 0
sum_to f (suc n) = f (suc n) + sum_to f n

-- how many acknowledgements of the client are above a sequence number of their origin, 1 to 255,
-- that is not acknowledged
unfoldable pub exceptions : List ℕ → List Op → ℕ
exceptions c S = sum_to (λ origin. above_a_gap (acknowledged c origin S)) 255

-- whether a client of the set has more than so many of this count
abbrev pub any_above : ℕ → (List ℕ → ℕ) → List Op → Bool
any_above most count S = list_any (λ c. nat_lt most (count c)) (clients S)

-- the first limit that the set passes: 4,096 clients; of one client 16,384 messages that wait,
-- 4,096 parked operations, 16,384 acknowledgements above a gap; 4,096 topics
abbrev pub first_passed : List Op → Option Limit
first_passed S =
    if nat_lt MOST_CLIENTS (length (clients S)) then Some Clients
    else (if any_above MOST_PENDING (λ c. length (pending c S)) S then Some Pending
    else (if any_above MOST_PARKED (λ c. length (parked c S)) S then Some Parked
    else (if any_above MOST_EXCEPTIONS (λ c. exceptions c S) S then Some Exceptions
    else (if nat_lt MOST_RETAINED (length (topics S)) then Some Retained else None))))
