-- Sets of operations. A set is a list of operations, and four readers ask it. One gives what it has
-- under the name of a session operation, one what it has under the name of a put. The third says
-- whether it acknowledges a put. The fourth gives what was retained of a topic under a name. If a
-- name occurs twice, the first operation counts, so a list always gives a name one content. On
-- consistent sets no name has two contents; there the order and the number of times do not matter.
use Rattle.std.specs.Prelude.{◌≡◌, ℕ, ◌≤◌, ◌==◌, Bool, true, false, ◌&&◌, if◌then◌else◌, nat_le, List, Option, Some, None, IsTrue, IfSome, bytes_eq}
use Rattle.std.specs.List.{filter_map, list_any, AllByRecursion}
use Rattle.std.specs.FinMap.{find}
use Rattle.sn_session.specs.declared.change.SessionOp.{SessionOp}
use Rattle.rep_op.specs.declared.op.Stamp.{Stamp}
use Rattle.rep_op.specs.declared.op.Put.{Put}
use Rattle.rep_op.specs.declared.op.Retained.{Retained}
use Rattle.rep_op.specs.declared.op.Op.{Op}
use Rattle.rep_op.specs.declared.op.Op.TheVariants.{Session as OfSession, Put as OfPut, Ack, Retain as OfRetain}
use Rattle.rep_op.specs.Orders.{operation_cmp, put_cmp, clock_of, clock_cmp}

-- whether two names of clients are the same octets
abbrev pub same_client : List ℕ → List ℕ → Bool
same_client c d = bytes_eq c d

-- a session operation of the client, under its name
abbrev pub operation_of : List ℕ → Op → Option ((Stamp × ℕ) × SessionOp)
operation_of c (OfSession d stamp counter change) =
    if same_client c d then Some ((stamp, counter), change) else None
operation_of c op = None

-- the session operations of the client, under their names
abbrev pub operations : List ℕ → List Op → List ((Stamp × ℕ) × SessionOp)
operations c S = filter_map (operation_of c) S

-- the session operation that the set has under a name
abbrev pub operation_at : List ℕ → List Op → Stamp × ℕ → Option SessionOp
operation_at c S name = find operation_cmp name (operations c S)

-- a put for the client, under its name
abbrev pub put_of : List ℕ → Op → Option ((ℕ × ℕ) × Put)
put_of c (OfPut d put) = if same_client c d then Some ((put.seq, put.origin), put) else None
put_of c op = None

-- the puts for the client, under their names
abbrev pub puts : List ℕ → List Op → List ((ℕ × ℕ) × Put)
puts c S = filter_map (put_of c) S

-- the put that the set has under a name
abbrev pub put_at : List ℕ → List Op → ℕ × ℕ → Option Put
put_at c S name = find put_cmp name (puts c S)

-- whether the operation acknowledges the client's put of that name
abbrev pub acknowledges : List ℕ → ℕ × ℕ → Op → Bool
acknowledges c name (Ack d origin first last) =
    same_client c d && (name.1 == origin) && nat_le first name.0 && nat_le name.0 last
acknowledges c name op = false

-- whether the set has the acknowledgement of the client's put of that name
abbrev pub is_acknowledged : List ℕ → List Op → ℕ × ℕ → Bool
is_acknowledged c S name = list_any (acknowledges c name) S

-- whether two names of topics are the same octets
abbrev pub same_topic : List ℕ → List ℕ → Bool
same_topic t u = bytes_eq t u

-- what the operation retains of the topic, under its name
abbrev pub retain_of : List ℕ → Op → Option ((ℕ × ℕ) × Retained)
retain_of t (OfRetain u kept) = if same_topic t u then Some (clock_of kept, kept) else None
retain_of t op = None

-- all that was retained of the topic, under its names
abbrev pub retains : List ℕ → List Op → List ((ℕ × ℕ) × Retained)
retains t S = filter_map (retain_of t) S

-- what was retained of the topic under a name
abbrev pub retain_at : List ℕ → List Op → ℕ × ℕ → Option Retained
retain_at t S name = find clock_cmp name (retains t S)

-- the operation stands in the set: what the set has under its name is the operation
abbrev pub HasOperation : List Op → Op → Type 0
HasOperation S (OfSession c stamp counter change) = operation_at c S (stamp, counter) ≡ Some change
HasOperation S (OfPut c put) = put_at c S (put.seq, put.origin) ≡ Some put
HasOperation S (Ack c origin first last) =
    (seq : ℕ) → first ≤ seq → seq ≤ last → IsTrue (is_acknowledged c S (seq, origin))
HasOperation S (OfRetain t kept) = retain_at t S (clock_of kept) ≡ Some kept

-- no name has two contents: each operation on the list is what the list has at its name
abbrev pub IsConsistent : List Op → Type 0
IsConsistent S = AllByRecursion (HasOperation S) S

-- what the set has under the operation's name, if anything, is the operation
abbrev pub Agrees : List Op → Op → Type 0
Agrees S (OfSession c stamp counter change) =
    IfSome (operation_at c S (stamp, counter)) (λ kept. kept ≡ change)
Agrees S (OfPut c put) = IfSome (put_at c S (put.seq, put.origin)) (λ kept. kept ≡ put)
Agrees S (Ack c origin first last) = Unit {0}
Agrees S (OfRetain t kept) = IfSome (retain_at t S (clock_of kept)) (λ stood. stood ≡ kept)

-- what the readers find in A they find in B
pub record Within (A B : List Op) : Type 0 where
  pub operations_in : (c : List ℕ) (name : Stamp × ℕ) (change : SessionOp)
      → operation_at c A name ≡ Some change → operation_at c B name ≡ Some change
  pub puts_in : (c : List ℕ) (name : ℕ × ℕ) (put : Put) → put_at c A name ≡ Some put
      → put_at c B name ≡ Some put
  pub acknowledgements_in : (c : List ℕ) (name : ℕ × ℕ) → is_acknowledged c A name ≡ true
      → is_acknowledged c B name ≡ true
  pub retains_in : (t : List ℕ) (name : ℕ × ℕ) (kept : Retained)
      → retain_at t A name ≡ Some kept → retain_at t B name ≡ Some kept

-- equal sets: each reader gives the same of both
pub record Same (A B : List Op) : Type 0 where
  pub operations_same : (c : List ℕ) (name : Stamp × ℕ)
      → operation_at c A name ≡ operation_at c B name
  pub puts_same : (c : List ℕ) (name : ℕ × ℕ) → put_at c A name ≡ put_at c B name
  pub acknowledgements_same : (c : List ℕ) (name : ℕ × ℕ)
      → is_acknowledged c A name ≡ is_acknowledged c B name
  pub retains_same : (t : List ℕ) (name : ℕ × ℕ) → retain_at t A name ≡ retain_at t B name
