-- The names of operations, their orders, and names in common.
use Rattle.std.specs.Prelude.{◌≡◌, ℕ, ◌<◌, ◌≤◌, Bool, true, false, List, [], slice_get, Some}
use Rattle.std.specs.List.{AllByRecursion}
use Rattle.std.specs.declared.cmp.Ordering.{Ordering}
use Rattle.std.specs.declared.cmp.Ordering.TheVariants.{Less, Greater}
use Rattle.std.specs.Ordering.{nat_cmp, ordering_then}
use Rattle.std.specs.Cmp.Lexicographic.{slice_cmp}
use Rattle.rep_op.specs.declared.op.Stamp.{Stamp}
use Rattle.rep_op.specs.declared.op.Put.{Put}
use Rattle.rep_op.specs.declared.op.Retained.{Retained}
use Rattle.rep_op.specs.declared.op.Subject.{Subject}
use Rattle.rep_op.specs.declared.op.Subject.TheVariants.{Client as OfClient, Topic as OfTopic}
use Rattle.rep_op.specs.declared.op.Op.{Op}
use Rattle.rep_op.specs.declared.op.Op.TheVariants.{Session as OfSession, Put as OfPut, Ack, Retain as OfRetain}

-- clients are ordered by their octets, as words in a dictionary
abbrev pub client_cmp : List ℕ → List ℕ → Ordering
client_cmp c d = slice_cmp nat_cmp c d

-- stamps are ordered by epoch, then gateway number
abbrev pub stamp_cmp : Stamp → Stamp → Ordering
stamp_cmp a b = ordering_then (nat_cmp a.epoch b.epoch) (nat_cmp a.gateway b.gateway)

-- the names of a client's session operations, stamp and counter, are ordered by stamp, then counter
abbrev pub operation_cmp : Stamp × ℕ → Stamp × ℕ → Ordering
operation_cmp a b = ordering_then (stamp_cmp a.0 b.0) (nat_cmp a.1 b.1)

-- the name of a put among those of its client: its sequence number and its origin
abbrev pub name_of : Put → ℕ × ℕ
name_of put = (put.seq, put.origin)

-- the names of a client's puts are delivered in this order: by sequence number, then origin
abbrev pub put_cmp : ℕ × ℕ → ℕ × ℕ → Ordering
put_cmp a b = ordering_then (nat_cmp a.0 b.0) (nat_cmp a.1 b.1)

-- topics are ordered by their octets, as clients are
abbrev pub topic_name_cmp : List ℕ → List ℕ → Ordering
topic_name_cmp t u = slice_cmp nat_cmp t u

-- the name of what is retained among all that was retained of its topic: its clock and its gateway
abbrev pub clock_of : Retained → ℕ × ℕ
clock_of kept = (kept.clock, kept.gateway)

-- What was retained of a topic is ordered by clock, then gateway. The greatest counts.
abbrev pub clock_cmp : ℕ × ℕ → ℕ × ℕ → Ordering
clock_cmp a b = ordering_then (nat_cmp a.0 b.0) (nat_cmp a.1 b.1)

-- whether it is an operation of a client, and not of a topic
abbrev pub is_of_client : Op → Bool
is_of_client (OfRetain topic kept) = false
is_of_client op = true

-- operations of clients
abbrev pub AreOfClients : List Op → Type 0
AreOfClients ops = AllByRecursion (λ op. is_of_client op ≡ true) ops

-- operations of topics
abbrev pub AreOfTopics : List Op → Type 0
AreOfTopics ops = AllByRecursion (λ op. is_of_client op ≡ false) ops

-- whose state an operation changes; no client has the empty name
abbrev pub client_of : Op → List ℕ
client_of (OfSession client stamp counter change) = client
client_of (OfPut client put) = client
client_of (Ack client origin first last) = client
client_of (OfRetain topic kept) = []

-- the client or the topic that an operation is about
abbrev pub subject_of : Op → Subject
subject_of (OfSession client stamp counter change) = OfClient client
subject_of (OfPut client put) = OfClient client
subject_of (Ack client origin first last) = OfClient client
subject_of (OfRetain topic kept) = OfTopic topic

-- The order of operations in a delta: session operations, puts, acknowledgements, retained ones.
-- Then it goes by client, and then by epoch, gateway and counter, or by origin and sequence number;
-- or by topic, and then by clock and gateway.
abbrev pub name_cmp : Op → Op → Ordering
name_cmp (OfSession c s i o) (OfSession d t j p) =
    ordering_then (client_cmp c d) (operation_cmp (s, i) (t, j))
name_cmp (OfSession c s i o) (OfPut d q) = Less
name_cmp (OfSession c s i o) (Ack d r first last) = Less
name_cmp (OfSession c s i o) (OfRetain u l) = Less
name_cmp (OfPut c p) (OfSession d t j o) = Greater
name_cmp (OfPut c p) (OfPut d q) =
    ordering_then (client_cmp c d) (ordering_then (nat_cmp p.origin q.origin) (nat_cmp p.seq q.seq))
name_cmp (OfPut c p) (Ack d r first last) = Less
name_cmp (OfPut c p) (OfRetain u l) = Less
name_cmp (Ack c r first last) (OfSession d t j o) = Greater
name_cmp (Ack c r first last) (OfPut d q) = Greater
name_cmp (Ack c r first last) (Ack d s start end) =
    ordering_then (client_cmp c d) (ordering_then (nat_cmp r s) (nat_cmp first start))
name_cmp (Ack c r first last) (OfRetain u l) = Less
name_cmp (OfRetain t k) (OfSession d i j o) = Greater
name_cmp (OfRetain t k) (OfPut d q) = Greater
name_cmp (OfRetain t k) (Ack d r first last) = Greater
name_cmp (OfRetain t k) (OfRetain u l) =
    ordering_then (topic_name_cmp t u) (clock_cmp (clock_of k) (clock_of l))

-- two operations have a name in common; ranges of acknowledgements do if they overlap
abbrev pub ShareName : Op → Op → Type 0
ShareName (OfSession c s i o) (OfSession d t j p) = (c ≡ d) × (s ≡ t) × (i ≡ j)
ShareName (OfPut c p) (OfPut d q) = (c ≡ d) × (p.origin ≡ q.origin) × (p.seq ≡ q.seq)
ShareName (Ack c origin first last) (Ack d other start end) =
    (c ≡ d) × (origin ≡ other) × (first ≤ end) × (start ≤ last)
ShareName (OfRetain t k) (OfRetain u l) =
    (t ≡ u) × (k.clock ≡ l.clock) × (k.gateway ≡ l.gateway)
ShareName a b = ⊥

-- two of the operations, at different places, have a name in common
abbrev pub HasTwice : List Op → Type 0
HasTwice ops =
    (i : ℕ) × (j : ℕ) × (a : Op) × (b : Op) × (i < j) × (slice_get ops i ≡ Some a)
    × (slice_get ops j ≡ Some b) × ShareName a b
