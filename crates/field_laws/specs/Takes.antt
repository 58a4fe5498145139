-- The operations that take a session.
use Rattle.std.specs.Prelude.{◌≡◌, ◌↔◌, true}
use Rattle.sn_session.specs.Session.{is_take}
use Rattle.rep_op.specs.declared.op.Op.{Op}
use Rattle.rep_op.specs.declared.op.Op.TheVariants.{Session as OfSession}

-- a session operation has counter 0 if and only if it takes the session
abbrev pub IsTakeAtZero : Op → Type 0
IsTakeAtZero (OfSession c stamp counter change) = (is_take change ≡ true) ↔ (counter ≡ 0)
IsTakeAtZero op = Unit {0}
