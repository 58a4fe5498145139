-- What a gateway has written of a client, and how it reads back.
use Rattle.std.specs.Prelude.{◌≡◌, ℕ, ◌≤◌, true, List, ◌∷◌, [], length, fold, Option, Some, None, is_some, unwrap_or}
use Rattle.sn_session.specs.declared.session.Session.{Session}
use Rattle.sn_session.specs.declared.change.SessionOp.{SessionOp}
use Rattle.sn_session.specs.Session.{applied, empty_session}
use Rattle.rep_op.specs.declared.op.Stamp.{Stamp}
use Rattle.rep_op.specs.declared.op.Op.{Op}
use Rattle.rep_op.specs.Sets.{operation_at}
use Rattle.rep_model.specs.declared.view.ClientView.{ClientView}
use Rattle.rep_model.specs.Views.{visible, history, session_made}
use Rattle.sn_plan.specs.Numbering.{Written}

-- the stamp of an epoch and a gateway
abbrev pub stamp_of : ℕ → ℕ → Stamp
stamp_of epoch g = record { epoch = epoch; gateway = g }

-- if the gateway owns the client, there is a session, and nothing is at the visible stamp after the
-- prefix
pub record IsFlush (g : ℕ) (c : List ℕ) (S : List Op) : Type 0 where
  pub begun : (epoch : ℕ) → visible c S ≡ Some (stamp_of epoch g)
      → is_some (session_made (history c S)) ≡ true
  pub nothing_behind : (epoch k : ℕ) → visible c S ≡ Some (stamp_of epoch g)
      → length (history c S) ≤ k → operation_at c S (stamp_of epoch g, k) ≡ None

-- the set is flush for gateway g: each client that g owns has a session, and no operation after
-- a gap
abbrev pub HaveNoGap : ℕ → List Op → Type 0
HaveNoGap g S = (c : List ℕ) → IsFlush g c S

-- the session as seen, or the empty one, with these changes applied one after the other; without
-- changes it is as it was
abbrev pub session_with : Option Session → List SessionOp → Option Session
session_with seen [] = seen
session_with seen (change ∷ rest) =
    Some (fold applied (unwrap_or seen empty_session) (change ∷ rest))

-- the view has what was written: the stamp under which the last change went, as many operations as
-- its counter says, the session
pub record Shows (g : ℕ) (w : Written) (v : ClientView) : Type 0 where
  pub stamp : v.stamp ≡ Some (stamp_of w.epoch g)
  pub prefix : v.prefix ≡ w.counter
  pub session : v.session ≡ Some w.session
