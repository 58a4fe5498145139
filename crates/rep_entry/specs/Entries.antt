-- What the replica keeps of one client, and what a delta changes of it.
use Rattle.std.specs.Prelude.{◌≡◌, ℕ, false, ◌&&◌, List, [], ◌∷◌, ◌++◌, map, filter, length, T, IsTrue, Option, None}
use Rattle.std.specs.List.{AllByRecursion, list_any}
use Rattle.std.specs.FinMap.{is_sorted}
use Rattle.sn_session.specs.declared.change.SessionOp.{SessionOp}
use Rattle.rep_op.specs.declared.op.Stamp.{Stamp}
use Rattle.rep_op.specs.declared.op.Put.{Put}
use Rattle.rep_op.specs.declared.op.Op.{Op}
use Rattle.rep_op.specs.Orders.{operation_cmp, name_of, put_cmp}
use Rattle.rep_op.specs.Sets.{Same}
use Rattle.rep_op.specs.WellMade.{is_stamp, is_counted, is_put}
use Rattle.rep_op.specs.Ranges.{is_change}
use Rattle.rep_model.specs.Keep.{keep}
use Rattle.rep_model.specs.Limits.{parked, exceptions}
use Rattle.rep_shared.specs.Steps.{capped}
use Rattle.rep_log.specs.declared.log.Log.{Log}
use Rattle.rep_entry.specs.declared.entry.Entry.{Entry}
use Rattle.rep_entry.specs.declared.fresh.Fresh.{Fresh}
use Rattle.rep_log.specs.Logs.{IsFoldedOf, Whole, IsFolded, stamp_on, prefix_on, session_on, known_on}
use Rattle.rep_log.specs.Mail.{Range, covers, Rising, NoneCovered, InOne, is_uncovered, weave}
use Rattle.rep_entry.specs.Spans.{IsFreeOutside, AreFreeOutside}
use Rattle.rep_log.specs.Origins.{ranges_in, AreOrigins, origins_after, ranges_on}
use Rattle.rep_log.specs.Kept.{kept_ops}

-- operations of sessions that a delta may hold
abbrev pub AreChanges : List ((Stamp × ℕ) × SessionOp) → Type 0
AreChanges es =
    AllByRecursion (λ (e : (Stamp × ℕ) × SessionOp).
    IsTrue (is_stamp e.0.0 && is_counted e.0.1 e.1 && is_change e.1)) es

-- messages that a delta may hold
abbrev pub AreMade : List Put → Type 0
AreMade ps = AllByRecursion (λ (p : Put). IsTrue (is_put p)) ps

-- each message is under its name
abbrev pub AreUnderNames : List ((ℕ × ℕ) × Put) → Type 0
AreUnderNames es = AllByRecursion (λ (e : (ℕ × ℕ) × Put). e.0 ≡ name_of e.1) es

-- none of the messages is acknowledged
abbrev pub NoneCoveredBelow : List Range → List ((ℕ × ℕ) × Put) → Type 0
NoneCoveredBelow ranges es =
    AllByRecursion (λ (e : (ℕ × ℕ) × Put). list_any (covers (name_of e.1)) ranges ≡ false) es

-- the messages, without their names
abbrev pub messages : List ((ℕ × ℕ) × Put) → List Put
messages es = map (λ e. e.1) es

-- the operations that are kept of the client
abbrev pub entry_row : List ℕ → Entry → List Op
entry_row c entry = kept_ops c entry.known entry.seen.pending (ranges_in entry.acks)

-- Stamp, prefix and session are those of the operations, none of which is below the stamp. Messages
-- ascend, and none is acknowledged. The counts are those of what is kept.
pub record IsEntry (c : List ℕ) (entry : Entry) : Type 0 where
  pub folded : IsFoldedOf entry.seen.stamp entry.seen.prefix entry.seen.session entry.known
  pub ordered : T (is_sorted operation_cmp entry.known)
  pub changes : AreChanges entry.known
  pub rising : Rising entry.seen.pending
  pub none_covered : NoneCovered (ranges_in entry.acks) entry.seen.pending
  pub made : AreMade entry.seen.pending
  pub origins : AreOrigins entry.acks
  pub parked : entry.parked ≡ length (parked c (entry_row c entry))
  pub exceptions : entry.exceptions ≡ capped (exceptions c (entry_row c entry))

-- the session operations of an entry once a log, if one is staged, is in their place
abbrev pub whole_after : Entry → Option Log → Whole
whole_after entry log = record {
  stamp = stamp_on entry.seen.stamp log;
  prefix = prefix_on entry.seen.prefix log;
  session = session_on entry.seen.session log;
  known = known_on entry.known log;
}

-- ---- what a change builds on

-- a client's session operations, the messages that wait, and the acknowledged ranges
pub record Base : Type 0 where
  pub known : List ((Stamp × ℕ) × SessionOp)
  pub waiting : List Put
  pub ranges : List Range

-- what a change of this entry builds on
abbrev pub base_of : Entry → Base
base_of entry =
    record { known = entry.known; waiting = entry.seen.pending; ranges = ranges_in entry.acks }

-- the messages that wait once others came, and acknowledgements
abbrev pub left_on : Base → List Put → Option (List (ℕ × List (ℕ × ℕ))) → List Put
left_on base news acks =
    filter (is_uncovered (ranges_on base.ranges acks)) (weave base.waiting news)

-- the operations that are kept of the client with a log, new messages and acknowledgements; no log,
-- and no acknowledgements, leave what was there
abbrev pub row_on : List ℕ → Base → Option Log → List Put → Option (List (ℕ × List (ℕ × ℕ)))
    → List Op
row_on c base log news acks =
    kept_ops c (known_on base.known log) (left_on base news acks) (ranges_on base.ranges acks)

-- ---- a change, operation by operation

-- the operations that are kept of the client once the change is made
abbrev pub fresh_row : List ℕ → Entry → Fresh → List Op
fresh_row c entry fresh = row_on c (base_of entry) fresh.log (messages fresh.news) fresh.acks

-- A log that is folded, and messages under their names, none of which waits already. Acknowledged
-- ranges do not touch. If none of them is new, they have none of the new messages. Outside of the
-- span they have no message, new or waiting.
pub record IsFresh (c : List ℕ) (entry : Entry) (fresh : Fresh) : Type 0 where
  pub entry_is : IsEntry c entry
  pub folded : IsFolded (whole_after entry fresh.log)
  pub ordered : T (is_sorted operation_cmp (known_on entry.known fresh.log))
  pub changes : AreChanges (known_on entry.known fresh.log)
  pub sorted : T (is_sorted put_cmp fresh.news)
  pub under : AreUnderNames fresh.news
  pub made : AllByRecursion (λ (e : (ℕ × ℕ) × Put). IsTrue (is_put e.1)) fresh.news
  pub apart : (name : ℕ × ℕ) → InOne name entry.seen.pending (messages fresh.news)
  pub origins : AreOrigins (origins_after entry.acks fresh.acks)
  pub none_comes : fresh.acks ≡ None → NoneCoveredBelow (ranges_in entry.acks) fresh.news
  pub waits : AreFreeOutside fresh.span (ranges_on (ranges_in entry.acks) fresh.acks)
      entry.seen.pending
  pub comes : AllByRecursion
      (λ (e : (ℕ × ℕ) × Put). IsFreeOutside fresh.span (ranges_on (ranges_in entry.acks) fresh.acks)
      e.1) fresh.news

-- one operation more of the client: the change stays one, and what it keeps is what must be kept of
-- what it kept and the operation
abbrev pub IsFreshStep : List ℕ → Entry → Fresh → Fresh → Op → Type 0
IsFreshStep c entry old new op =
    IsFresh c entry new × Same (fresh_row c entry new) (keep (fresh_row c entry old ++ op ∷ []))
