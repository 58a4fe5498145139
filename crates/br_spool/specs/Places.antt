-- The queue of a reading, and its place in it.
use Rattle.std.specs.Prelude.{ℕ, ◌+◌, ◌-◌, ◌*◌, ◌/◌, ◌%◌, ◌==◌, Bool, ◌&&◌, nat_lt, nat_le, if◌then◌else◌, List, [], ◌∷◌, Option, Some, None}
use Rattle.br_spool.specs.declared.place.TheConstants.{LAST_SEQ, QUEUES, TURN}

-- so many readings go into one queue, and then into the next one; places are counted from 1
abbrev pub queue_of : ℕ → ℕ
queue_of number = number / TURN % QUEUES

abbrev pub number_seq : ℕ → ℕ
number_seq number = number / TURN / QUEUES * TURN + number % TURN + 1

-- which reading is at a place of a queue, if there is such a place
abbrev pub place_number : ℕ → ℕ → ℕ
place_number queue seq = ((seq - 1) / TURN * QUEUES + queue) * TURN + (seq - 1) % TURN

abbrev pub is_place : ℕ → ℕ → Bool
is_place queue seq = nat_lt queue QUEUES && nat_le 1 seq && nat_le seq LAST_SEQ

abbrev pub number_at_place : ℕ → ℕ → Option ℕ
number_at_place queue seq =
    if is_place queue seq then Some (place_number queue seq) else None

-- the client of a queue: `q` (113) and two digits (from 48 on)
abbrev pub queue_client : ℕ → List ℕ
queue_client queue = 113 ∷ (48 + queue / 10) ∷ (48 + queue % 10) ∷ []

-- and the queue of a client
abbrev pub queue_by : ℕ → ℕ → Option ℕ
queue_by tens ones =
    if nat_le 48 tens && nat_lt tens 55 && nat_le 48 ones && nat_le ones 57
    then Some ((tens - 48) * 10 + (ones - 48)) else None

abbrev pub queue_at : Bool → ℕ → ℕ → Option ℕ
queue_at is_ours tens ones = if is_ours then queue_by tens ones else None

abbrev pub queue_in : List ℕ → Option ℕ
queue_in (letter ∷ tens ∷ ones ∷ []) = queue_at (letter == 113) tens ones
queue_in octets = None
