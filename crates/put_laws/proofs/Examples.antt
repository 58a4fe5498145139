-- Worked publications: who gets one, and that a repeat puts nothing.
use Rattle.std.proofs.Common.{◌≡◌, ℕ, true, List, [], ◌∷◌, refl}
use Rattle.std.specs.Prelude.{codes}
use Rattle.sn_session.specs.declared.session.Session.{Session}
use Rattle.sn_session.specs.declared.change.SessionOp.TheVariants.{Take}
use Rattle.rep_op.specs.declared.op.Op.{Op}
use Rattle.rep_op.specs.declared.op.Op.TheVariants.{Session as OfSession}
use Rattle.rep_model.specs.Views.{gapless}
use Rattle.sn_local.specs.Locals.{no_local}
use Rattle.sn_local.specs.Seen.{Seen, seen_of}
use Rattle.sn_plan.specs.declared.draft.NewPut.{NewPut}
use Rattle.sn_flow.proofs.Rows.{s1, seven, session_of_s1, bound_seven}
use Rattle.put_laws.specs.Puts.{puts_by}

-- s1 knows the topic `t/a` by id 1, and its message id 9 was received
abbrev publishes : Session
publishes =
    record session_of_s1 {
      topics = record { id = 1; name = codes "t/a"; known = true } ∷ [];
      received = 9 ∷ [];
    }

-- another one asks for the topics below `t`, at quality of service 1
abbrev listens : Session
listens = record session_of_s1 { subscriptions = record { filter = codes "t/#"; qos = 1 } ∷ [] }

abbrev took : List ℕ → Session → Op
took c s = OfSession c (record { epoch = 1; gateway = 1 }) 0 (Take s)

-- s1 publishes, s2 and s4 listen, s3 asked for nothing
abbrev seen : Seen
seen = seen_of (took s1 publishes ∷ took (codes "s2") listens ∷ took (codes "s3") session_of_s1 ∷ took (codes "s4") listens ∷ [])

abbrev for_client : List ℕ → ℕ → NewPut
for_client c qos = record { client = c; topic = codes "t/a"; qos = qos; body = codes "x" }

-- at 1: one message for each that listens
once : puts_by [] seen bound_seven seven 32 1 7 (codes "x") ≡ for_client (codes "s2") 1 ∷ for_client (codes "s4") 1 ∷ []
unfolding gapless
once = refl

-- at 2 it is the lesser quality of service of the two that counts
twice : puts_by [] seen bound_seven seven 64 1 8 (codes "x") ≡ for_client (codes "s2") 1 ∷ for_client (codes "s4") 1 ∷ []
unfolding gapless
twice = refl

-- a message id that was received puts nothing again
repeated : puts_by [] seen bound_seven seven 64 1 9 (codes "x") ≡ []
unfolding gapless
repeated = refl

-- an id that stands for no topic puts nothing, nor does an address without a client
unknown : puts_by [] seen bound_seven seven 32 2 7 (codes "x") ≡ []
unfolding gapless
unknown = refl

turned_away : puts_by [] seen no_local seven 32 1 7 (codes "x") ≡ []
turned_away = refl
