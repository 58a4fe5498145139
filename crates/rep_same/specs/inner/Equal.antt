-- What it takes that two sessions are equal.
use Rattle.std.specs.Prelude.{◌≡◌}
use Rattle.sn_session.specs.declared.session.Session.{Session}

-- presence, clean, duration and next message id are equal
pub record HasSameNumbers (a b : Session) : Type 0 where
  pub presence : a.presence ≡ b.presence
  pub clean : a.clean ≡ b.clean
  pub duration : a.duration ≡ b.duration
  pub next_id : a.next_id ≡ b.next_id
