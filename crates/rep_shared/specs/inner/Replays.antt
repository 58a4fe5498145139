-- The operations of a stamp, one after the other.
use Rattle.std.specs.Prelude.{◌≡◌, ℕ, ◌+◌, ◌-◌, Option, length, fold}
use Rattle.sn_session.specs.declared.session.Session.{Session}
use Rattle.sn_session.specs.declared.change.SessionOp.{SessionOp}
use Rattle.rep_op.specs.declared.op.TheConstants.{MAX_OPERATIONS}
use Rattle.rep_model.specs.Views.{gapless, session_made, after_change}

-- n operations of `at` are there without a gap, and make the session
pub record IsReplayed (at : ℕ → Option SessionOp) (session : Option Session) (n : ℕ) : Type 0 where
  pub prefix : length (gapless at MAX_OPERATIONS 0) ≡ n + length (gapless at (MAX_OPERATIONS - n) n)
  pub made : session_made (gapless at MAX_OPERATIONS 0)
      ≡ fold after_change session (gapless at (MAX_OPERATIONS - n) n)
