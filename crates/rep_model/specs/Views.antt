-- What a set of operations says of a client.
use Rattle.std.specs.Prelude.{ℕ, zero, suc, ◌+◌, ◌==◌, Bool, false, not, ◌&&◌, if◌then◌else◌, nat_le, List, [], ◌∷◌, length, map, fold, filter, Option, Some, None}
use Rattle.std.specs.declared.cmp.Ordering.{Ordering}
use Rattle.std.specs.Ordering.{is_lt}
use Rattle.std.specs.List.{filter_map, list_any}
use Rattle.std.specs.FinMap.{find, put}
use Rattle.sn_session.specs.declared.session.Session.{Session}
use Rattle.sn_session.specs.declared.change.SessionOp.{SessionOp}
use Rattle.sn_session.specs.declared.change.SessionOp.TheVariants.{Take}
use Rattle.sn_session.specs.Session.{applied}
use Rattle.rep_op.specs.declared.op.TheConstants.{MAX_OPERATIONS}
use Rattle.rep_op.specs.declared.op.Stamp.{Stamp}
use Rattle.rep_op.specs.declared.op.Put.{Put}
use Rattle.rep_op.specs.declared.op.Op.{Op}
use Rattle.rep_op.specs.declared.op.Op.TheVariants.{Session as OfSession, Put as OfPut, Ack, Retain as OfRetain}
use Rattle.rep_op.specs.Orders.{stamp_cmp, put_cmp, client_cmp}
use Rattle.rep_op.specs.Sets.{same_client, operations, operation_at, puts, is_acknowledged}
use Rattle.rep_model.specs.declared.view.ClientView.{ClientView}

-- the greater of the two
abbrev pub greater : {K : Type 0} → (K → K → Ordering) → K → Option K → Option K
greater R a None = Some a
greater R a (Some b) = if is_lt (R a b) then Some b else Some a

-- the greatest of the list
abbrev pub greatest : {K : Type 0} → (K → K → Ordering) → List K → Option K
greatest R [] = None
greatest R (x ∷ xs) = greater R x (greatest R xs)

-- the stamp of a Take: an operation with counter 0
abbrev pub take_stamp : Stamp × ℕ → Option Stamp
take_stamp name = if name.1 == 0 then Some name.0 else None

-- the names of entries, without what they are the names of
abbrev pub names : {K X : Type 0} → List (K × X) → List K
names entries = map (λ e. e.0) entries

-- the visible stamp: the greatest one whose Take, counter 0, is in the set
abbrev pub visible : List ℕ → List Op → Option Stamp
visible c S = greatest stamp_cmp (filter_map take_stamp (names (operations c S)))

-- an operation and those after it; nothing if the first one is not there
abbrev pub then_more : Option SessionOp → List SessionOp → List SessionOp
then_more None rest = []
then_more (Some change) rest = change ∷ rest

-- what is at k, k + 1, .. without a gap, at most `room` of them
unfoldable pub gapless : (ℕ → Option SessionOp) → ℕ → ℕ → List SessionOp
gapless at zero k = []
gapless at (suc room) k = then_more (at k) (gapless at room (k + 1))

-- the operations 0, 1, 2, .. of the visible stamp without a gap, at most 256; none without a stamp
abbrev pub history_at : (Stamp × ℕ → Option SessionOp) → Option Stamp → List SessionOp
history_at at None = []
history_at at (Some stamp) = gapless (λ k. at (stamp, k)) MAX_OPERATIONS 0

-- the operations 0, 1, 2, .. of the visible stamp without a gap, at most 256; their number is the
-- prefix
abbrev pub history : List ℕ → List Op → List SessionOp
history c S = history_at (operation_at c S) (visible c S)

-- a session after one more operation: a Take begins it
abbrev pub after_change : Option Session → SessionOp → Option Session
after_change None (Take taken) = Some taken
after_change None change = None
after_change (Some session) change = Some (applied session change)

-- the session that these operations make, one after the other, beginning with the Take
abbrev pub session_made : List SessionOp → Option Session
session_made done = fold after_change None done

-- the puts that are not acknowledged, under their names
abbrev pub unacknowledged : List ℕ → List Op → List ((ℕ × ℕ) × Put)
unacknowledged c S = filter (λ e. not (is_acknowledged c S e.0)) (puts c S)

-- entries in the order of their names, of each name the first
abbrev pub in_order : {K X : Type 0} → (K → K → Ordering) → List (K × X) → List (K × X)
in_order R [] = []
in_order R (e ∷ rest) = put R e.0 e.1 (in_order R rest)

-- the messages that wait for the client, as they are not acknowledged: by sequence number, then
-- origin
abbrev pub pending : List ℕ → List Op → List Put
pending c S = map (λ e. e.1) (in_order put_cmp (unacknowledged c S))

-- the message of this name that waits for the client
abbrev pub pending_at : List ℕ → List Op → ℕ × ℕ → Option Put
pending_at c S name = find put_cmp name (unacknowledged c S)

-- the view of a client: visible stamp, prefix, session, and the messages that wait
abbrev pub view : List ℕ → List Op → ClientView
view c S =
    record {
      stamp = visible c S;
      prefix = length (history c S);
      session = session_made (history c S);
      pending = pending c S;
    }

-- the view of a client that no operation names: nothing
abbrev pub unseen : ClientView
unseen = record { stamp = None; prefix = 0; session = None; pending = [] }

-- the client that an operation names, as an entry under its own name; a range of acknowledgements
-- without a sequence number names none
abbrev pub named : Op → Option (List ℕ × List ℕ)
named (OfSession c stamp counter change) = Some (c, c)
named (OfPut c put) = Some (c, c)
named (Ack c origin first last) = if nat_le first last then Some (c, c) else None
named (OfRetain topic kept) = None

-- the clients that the set names, in ascending order, each once
abbrev pub clients : List Op → List (List ℕ)
clients S = names (in_order client_cmp (filter_map named S))

-- whether the operation names the client; an empty range of acknowledgements names none
abbrev pub names_client : List ℕ → Op → Bool
names_client c (OfSession d stamp counter change) = same_client c d
names_client c (OfPut d put) = same_client c d
names_client c (Ack d origin first last) = same_client c d && nat_le first last
names_client c (OfRetain topic kept) = false

-- whether the set names the client; an empty range of acknowledgements names none
abbrev pub is_named : List ℕ → List Op → Bool
is_named c S = list_any (names_client c) S
