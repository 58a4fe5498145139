-- What is staged of each client that a delta names.
use Rattle.std.specs.Prelude.{◌≡◌, ℕ, ◌+◌, ◌==◌, ◌≤◌, Bool, true, false, List, map, length, vec_capacity, is_some, T, Vec, [], ⊤, Option, None, Some}
use Rattle.std.specs.Global.{Global}
use Rattle.std.specs.List.{AllByRecursion, filter_map}
use Rattle.std.specs.FinMap.{find, is_sorted}
use Rattle.sn_session.specs.declared.change.SessionOp.{SessionOp}
use Rattle.rep_op.specs.declared.op.Stamp.{Stamp}
use Rattle.rep_op.specs.declared.op.Op.{Op}
use Rattle.rep_op.specs.declared.op.Op.TheVariants.{Ack}
use Rattle.rep_op.specs.Orders.{client_cmp, operation_cmp}
use Rattle.rep_op.specs.Sets.{operations, puts}
use Rattle.rep_model.specs.declared.fault.TheConstants.{MOST_PENDING, MOST_PARKED, MOST_EXCEPTIONS}
use Rattle.rep_model.specs.Limits.{parked, exceptions}
use Rattle.rep_shared.specs.Rows.{own}
use Rattle.rep_shared.specs.Steps.{capped}
use Rattle.rep_log.specs.declared.log.Log.{Log}
use Rattle.rep_entry.specs.declared.change.Change.{Change}
use Rattle.rep_log.specs.Logs.{IsFolded, all_in_log, whole_of}
use Rattle.rep_log.specs.Mail.{Range, Rising, NoneCovered, InOne, weave}
use Rattle.rep_entry.specs.Spans.{AreFreeOutside}
use Rattle.rep_log.specs.Origins.{AreOrigins, ranges_on}
use Rattle.rep_entry.specs.Entries.{AreChanges, AreMade, messages, Base, left_on, row_on}

-- the clients' names as lists, each with its change
abbrev pub staged_of : List (Vec ℕ Global × Change) → List (List ℕ × Change)
staged_of changes = map (λ g. (g.0.items, g.1)) changes

-- what holds of a change on whatever it builds: new messages ascend and are well made, and rooms
-- are empty
pub record IsChange (change : Change) : Type 0 where
  pub rising : Rising change.news.items
  pub made : AreMade change.news.items
  pub blank : change.room.items ≡ []
  pub log_blank : change.log_room.items ≡ []

-- ---- what contracts see of a client: its operations

-- the origin and the range of an acknowledgement; none of any other operation
abbrev pub acked_range : Op → Option Range
acked_range (Ack c origin first last) = Some (origin, (first, last))
acked_range op = None

-- what a change builds on, among a client's operations
abbrev pub base_in : List ℕ → List Op → Base
base_in c ops =
    record {
      known = operations c ops;
      waiting = messages (puts c ops);
      ranges = filter_map acked_range ops;
    }

-- the operations that are kept of a client with the change
abbrev pub planned_row : List ℕ → Base → Change → List Op
planned_row c base change = row_on c base change.log change.news.items change.acks

-- the operations that are kept of each client that the changes name
abbrev pub planned_rows : List (List ℕ × List Op) → List (List ℕ × Change) → List (List ℕ × List Op)
planned_rows rows gs = map (λ g. (g.0, planned_row g.0 (base_in g.0 (own g.0 rows)) g.1)) gs

-- if these operations were there, the log is folded, and there is room for all
abbrev pub IsLogFit : List ((Stamp × ℕ) × SessionOp) → Option Log → ℕ → Type 0
IsLogFit known None room = ⊤
IsLogFit known (Some log) room =
    IsFolded (whole_of known log)
    × T (is_sorted operation_cmp (all_in_log known log))
    × AreChanges (all_in_log known log)
    × (log.anew ≡ false → length known + length log.more ≤ room)

-- no acknowledgements are staged, or ranges of origins that ascend
abbrev pub AreAcksFit : Option (List (ℕ × List (ℕ × ℕ))) → Type 0
AreAcksFit None = ⊤
AreAcksFit (Some acks) = AreOrigins acks

-- On what it builds, the change brings messages that do not wait yet, and has room for all. No
-- message is acknowledged if the change has no acknowledgement, and none outside of its span. The
-- counts are those of what is kept.
pub record IsFit (c : List ℕ) (base : Base) (change : Change) : Type 0 where
  pub apart : (name : ℕ × ℕ) → InOne name base.waiting change.news.items
  pub room : (length change.news.items == 0) ≡ false
      → length base.waiting + length change.news.items ≤ vec_capacity change.room
  pub untold : change.acks ≡ None → NoneCovered base.ranges (weave base.waiting change.news.items)
  pub spanned : AreFreeOutside change.span (ranges_on base.ranges change.acks)
      (weave base.waiting change.news.items)
  pub log : IsLogFit base.known change.log (vec_capacity change.log_room)
  pub acks : AreAcksFit change.acks
  pub parked : change.parked ≡ length (parked c (planned_row c base change))
  pub exceptions : change.exceptions ≡ capped (exceptions c (planned_row c base change))

-- the change fits, its client has a place, and no more messages wait than may
pub record IsReady (there : Bool) (c : List ℕ) (base : Base) (change : Change) : Type 0 where
  pub is_there : there ≡ true
  pub fit : IsFit c base change
  pub few : length (left_on base change.news.items change.acks) ≤ MOST_PENDING

-- each client has a place for its change, which is fit and passes no limit of messages that wait
abbrev pub AreReady : List (List ℕ × List Op) → List (List ℕ × Change) → Type 0
AreReady rows gs =
    AllByRecursion (λ g. IsReady (is_some (find client_cmp g.0 rows)) g.0
    (base_in g.0 (own g.0 rows)) g.1) gs

-- changes that pass no limit of their own, in the order of their clients
pub record AreStaged (gs : List (List ℕ × Change)) : Type 0 where
  pub sorted : T (is_sorted client_cmp gs)
  pub each : AllByRecursion (λ g. IsChange g.1) gs
  pub parked : AllByRecursion (λ g. g.1.parked ≤ MOST_PARKED) gs
  pub exceptions : AllByRecursion (λ g. g.1.exceptions ≤ MOST_EXCEPTIONS) gs
