-- The table of the replica.
use Rattle.std.specs.Prelude.{◌≡◌, ℕ, Bool, false, ◌==◌, ◌&&◌, nat_le, List, map, length, T, IsSome, Option, is_some, nat_lt, if◌then◌else◌, not, [], ◌∷◌, Vec}
use Rattle.std.specs.Global.{Global}
use Rattle.std.specs.List.{list_any}
use Rattle.std.specs.FinMap.{find, is_sorted}
use Rattle.rep_op.specs.declared.op.Op.{Op}
use Rattle.rep_op.specs.declared.op.Op.TheVariants.{Session as OfSession, Put as OfPut, Ack, Retain as OfRetain}
use Rattle.rep_op.specs.Orders.{client_cmp}
use Rattle.rep_op.specs.Sets.{same_client, operation_at, put_at}
use Rattle.rep_model.specs.declared.fault.TheConstants.{MOST_PENDING, MOST_PARKED, MOST_EXCEPTIONS}
use Rattle.rep_model.specs.declared.fault.Limit.{Limit}
use Rattle.rep_shared.specs.inner.Tables.{passed_of}
use Rattle.rep_plain.specs.declared.entry.Entry.{Entry}
use Rattle.rep_shared.specs.Rows.{flat, rows_with, CanGoBack}
use Rattle.rep_plain.specs.Tables.{rows_of, AreEntries, IsPlainTable}

-- the operations of each client, if there is nothing else yet
abbrev pub groups_of : List (List ℕ × Vec Op Global) → List (List ℕ × List Op)
groups_of groups = map (λ e. (e.0, e.1.items)) groups

-- the table with more places, and nothing in them
pub record IsRoomier (old new : List (List ℕ × Entry)) : Type 0 where
  pub same : flat (rows_of new) ≡ flat (rows_of old)
  pub table : (count : ℕ) → IsPlainTable old count → IsPlainTable new count
  pub found : (c : List ℕ) → IsSome (find client_cmp c (rows_of old))
      → IsSome (find client_cmp c (rows_of new))
  pub back : (count : ℕ) → IsPlainTable old count → (aside : List (List ℕ × List Op))
      → CanGoBack (rows_of old) aside → CanGoBack (rows_of new) aside
      × (flat (rows_with (rows_of new) aside) ≡ flat (rows_with (rows_of old) aside))

-- more of the rows lies aside, and is put back as before
pub record IsSaving (rows old new : List (List ℕ × List Op)) : Type 0 where
  pub can : CanGoBack rows old → CanGoBack rows new
  pub same : rows_with rows new ≡ rows_with rows old
  pub found : (c : List ℕ) → IsSome (find client_cmp c old) → IsSome (find client_cmp c new)

-- the fresh entries can be moved into the table
pub record AreMovable (entries fresh : List (List ℕ × Entry)) : Type 0 where
  pub sorted : T (is_sorted client_cmp entries)
  pub each : AreEntries entries
  pub fresh_each : AreEntries fresh

-- whether the range of acknowledgements is within the operation
abbrev pub has_range : List ℕ → ℕ → ℕ → ℕ → Op → Bool
has_range c origin first last (Ack d o start end) =
    same_client c d && (origin == o) && nat_le start first && nat_le last end
has_range c origin first last op = false

-- whether the list has the operation's name; it has none of a topic
abbrev pub is_op_there : List Op → Op → Bool
is_op_there S (OfSession c stamp counter change) = is_some (operation_at c S (stamp, counter))
is_op_there S (OfPut c put) = is_some (put_at c S (put.seq, put.origin))
is_op_there S (Ack c origin first last) = list_any (has_range c origin first last) S
is_op_there S (OfRetain topic kept) = false

-- whether more than 16,384 messages wait for the client
abbrev pub too_many_pending : List ℕ × Entry → Bool
too_many_pending e = nat_lt MOST_PENDING (length e.1.seen.pending)

-- whether more than 4,096 session operations of the client wait for earlier ones
abbrev pub too_many_parked : List ℕ × Entry → Bool
too_many_parked e = nat_lt MOST_PARKED e.1.parked

-- whether more than 16,384 acknowledgements of the client are above a gap
abbrev pub too_many_exceptions : List ℕ × Entry → Bool
too_many_exceptions e = nat_lt MOST_EXCEPTIONS e.1.exceptions

-- the limit that is passed once the fresh entries are in their places
abbrev pub passed_by : ℕ → List (List ℕ × Entry) → Option Limit
passed_by count fresh =
    passed_of count (list_any too_many_pending fresh) (list_any too_many_parked fresh)
    (list_any too_many_exceptions fresh)

-- the operation, if its name is new
abbrev pub one_new : List Op → Op → List Op
one_new S op = if not (is_op_there S op) then op ∷ [] else []
