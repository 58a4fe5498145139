-- The numbers that a gateway takes next.
use Rattle.std.specs.Prelude.{ℕ, ◌+◌, ◌^◌, ◌==◌, ◌&&◌, if◌then◌else◌, nat_le, nat_lt, List, [], ◌∷◌, Option, Some, None, max}
use Rattle.rep_op.specs.declared.op.Stamp.{Stamp}
use Rattle.rep_op.specs.declared.op.Op.{Op}
use Rattle.rep_op.specs.declared.op.Op.TheVariants.{Session as OfSession, Put as OfPut, Ack, Retain as OfRetain}
use Rattle.rep_op.specs.Sets.{same_client, same_topic, operations}
use Rattle.rep_model.specs.Views.{names}

-- the greatest of these numbers, or 0
abbrev pub largest : {A : Type 0} → (A → ℕ) → List A → ℕ
largest f [] = 0
largest f (x ∷ xs) = max (f x) (largest f xs)

-- one more, if that fits eight octets
abbrev pub one_more : ℕ → Option ℕ
one_more n = if nat_lt (n + 1) (2 ^ 64) then Some (n + 1) else None

-- the greatest epoch of the client in the set, whether its operations are visible or not; or 0
abbrev pub greatest_epoch : List ℕ → List Op → ℕ
greatest_epoch c S = largest (λ (name : Stamp × ℕ). name.0.epoch) (names (operations c S))

-- the epoch of the client's next Take: one more than its greatest in the set, visible or not; none
-- after the last
abbrev pub next_epoch : List ℕ → List Op → Option ℕ
next_epoch c S = one_more (greatest_epoch c S)

-- the last sequence number of the client and the gateway that the operation names, or 0
abbrev pub seq_of : List ℕ → ℕ → Op → ℕ
seq_of c gateway (OfSession d stamp counter change) = 0
seq_of c gateway (OfPut d put) = if same_client c d && (gateway == put.origin) then put.seq else 0
seq_of c gateway (Ack d origin first last) =
    if same_client c d && (gateway == origin) && nat_le first last then last else 0
seq_of c gateway (OfRetain topic kept) = 0

-- the sequence number of the gateway's next put for the client: one more than the greatest among
-- puts and acknowledgements; none after the last
abbrev pub next_seq : List ℕ → ℕ → List Op → Option ℕ
next_seq c gateway S = one_more (largest (seq_of c gateway) S)

-- the clock under which the operation retains something of the topic, or 0
abbrev pub clock_in : List ℕ → Op → ℕ
clock_in t (OfRetain u kept) = if same_topic t u then kept.clock else 0
clock_in t op = 0

-- the clock of what is retained next of the topic: one more than the greatest of any gateway; none
-- after the last
abbrev pub next_clock : List ℕ → List Op → Option ℕ
next_clock t S = one_more (largest (clock_in t) S)
