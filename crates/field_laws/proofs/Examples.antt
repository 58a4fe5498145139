-- Worked rows: an operation that takes a session has counter 0, any other has not.
use Rattle.std.proofs.Common.{ℕ, List, [], ◌∷◌, refl, sym, true≢false, arith}
use Rattle.sn_session.specs.declared.presence.Presence.TheVariants.{Asleep}
use Rattle.sn_session.specs.declared.change.SessionOp.TheVariants.{Take, Presence}
use Rattle.sn_session.specs.Session.{empty_session}
use Rattle.rep_op.specs.declared.op.Op.TheVariants.{Session as OfSession}
use Rattle.field_laws.specs.Takes.{IsTakeAtZero}

abbrev client : List ℕ
client = 104 ∷ 49 ∷ []

takes : IsTakeAtZero (OfSession client (record { epoch = 1; gateway = 1 }) 0 (Take empty_session))
takes = (λ _. refl, λ _. refl)

-- the first operation after it
sleeps : IsTakeAtZero (OfSession client (record { epoch = 1; gateway = 1 }) 1 (Presence Asleep 300))
sleeps = (λ e. absurd (true≢false (sym e)), λ e. absurd (omega (arith, e)))

-- not with counter 0
no_take : ¬ (IsTakeAtZero (OfSession client (record { epoch = 1; gateway = 1 }) 0 (Presence Asleep 300)))
no_take h = true≢false (sym (h.1 refl))
