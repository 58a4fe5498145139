-- Session operations of one client under their names.
use Rattle.std.specs.Prelude.{◌≡◌, ℕ, false, cond, List, [], ◌++◌, Option, None, Some, length, ◌+◌, not}
use Rattle.std.specs.List.{filter_map, AllByRecursion}
use Rattle.std.specs.FinMap.{find}
use Rattle.sn_session.specs.declared.session.Session.{Session}
use Rattle.sn_session.specs.declared.change.SessionOp.{SessionOp}
use Rattle.rep_op.specs.declared.op.Stamp.{Stamp}
use Rattle.rep_op.specs.Orders.{stamp_cmp, operation_cmp}
use Rattle.rep_model.specs.Views.{greatest, take_stamp, names, history_at, session_made}
use Rattle.rep_model.specs.Keep.{is_below}
use Rattle.rep_log.specs.declared.log.Log.{Log}
use Rattle.rep_model.specs.declared.view.ClientView.{ClientView}

-- the greatest stamp whose Take is among the entries
abbrev pub visible_in : List ((Stamp × ℕ) × SessionOp) → Option Stamp
visible_in es = greatest stamp_cmp (filter_map take_stamp (names es))

-- the operations 0, 1, 2, .. of the stamp, without a gap
abbrev pub history_in : List ((Stamp × ℕ) × SessionOp) → Option Stamp → List SessionOp
history_in es stamp = history_at (λ name. find operation_cmp name es) stamp

-- nothing is below the visible stamp; stamp, prefix and session are those of the entries
pub record IsFoldedOf (stamp : Option Stamp) (count : ℕ) (made : Option Session)
    (es : List ((Stamp × ℕ) × SessionOp)) : Type 0 where
  pub visible : stamp ≡ visible_in es
  pub prefix : count ≡ length (history_in es stamp)
  pub session : made ≡ session_made (history_in es stamp)
  pub none_below : AllByRecursion (λ (e : (Stamp × ℕ) × SessionOp). is_below e.0.0 stamp ≡ false) es

-- all session operations of a client, and what they come to
pub record Whole : Type 0 where
  pub stamp : Option Stamp
  pub prefix : ℕ
  pub session : Option Session
  pub known : List ((Stamp × ℕ) × SessionOp)

-- stamp, prefix and session are what the operations come to, and none is below the stamp
abbrev pub IsFolded : Whole → Type 0
IsFolded whole = IsFoldedOf whole.stamp whole.prefix whole.session whole.known

-- of the operations that were there, those that stay where they are
abbrev pub left_in_log : List ((Stamp × ℕ) × SessionOp) → Log → List ((Stamp × ℕ) × SessionOp)
left_in_log known log = cond log.anew [] known

-- all operations of a log, if those of a list were there
abbrev pub all_in_log : List ((Stamp × ℕ) × SessionOp) → Log → List ((Stamp × ℕ) × SessionOp)
all_in_log known log = left_in_log known log ++ log.more

-- a log with all its operations: those of the list that stay, and those that it adds
abbrev pub whole_of : List ((Stamp × ℕ) × SessionOp) → Log → Whole
whole_of known log =
    record {
      stamp = log.stamp;
      prefix = log.prefix;
      session = log.session;
      known = all_in_log known log;
    }

-- ---- if a log is staged; without one all stays as it was

-- the visible stamp, by the log if one is staged
abbrev pub stamp_on : Option Stamp → Option Log → Option Stamp
stamp_on stamp None = stamp
stamp_on stamp (Some log) = log.stamp

-- the length of the prefix, by the log if one is staged
abbrev pub prefix_on : ℕ → Option Log → ℕ
prefix_on prefix None = prefix
prefix_on prefix (Some log) = log.prefix

-- the session, by the log if one is staged
abbrev pub session_on : Option Session → Option Log → Option Session
session_on session None = session
session_on session (Some log) = log.session

-- the session operations, by the log if one is staged
abbrev pub known_on : List ((Stamp × ℕ) × SessionOp) → Option Log → List ((Stamp × ℕ) × SessionOp)
known_on known None = known
known_on known (Some log) = all_in_log known log

-- the operations with what a view says of them
abbrev pub whole_in : ClientView → List ((Stamp × ℕ) × SessionOp) → Whole
whole_in seen known =
    record { stamp = seen.stamp; prefix = seen.prefix; session = seen.session; known = known }

-- what must be kept of the entries es is what the others have, and the stamp is the visible one
pub record IsKeptIn (es others : List ((Stamp × ℕ) × SessionOp))
    (stamp : Option Stamp) : Type 0 where
  pub visible : stamp ≡ visible_in es
  pub found : (name : Stamp × ℕ) → find operation_cmp name others
      ≡ cond (not (is_below name.0 stamp)) (find operation_cmp name es) None
