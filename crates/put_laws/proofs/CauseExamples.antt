-- Worked causes: what a clean CONNECT acknowledges, whom a frame is from, and frames that are no cause.
use Rattle.std.proofs.Common.{◌≡◌, ℕ, true, List, [], ◌∷◌, Some, None, refl, sym, true≢false, ⊎_elim, arith, false}
use Rattle.std.specs.Prelude.{codes}
use Rattle.sn_session.specs.declared.change.SessionOp.TheVariants.{Take}
use Rattle.sn_frame.specs.declared.frame.Frame.{Frame}
use Rattle.sn_frame.specs.declared.frame.Frame.TheVariants as frames
use Rattle.rep_op.specs.declared.op.Put.{Put}
use Rattle.rep_op.specs.declared.op.Op.TheVariants.{Session as OfSession, Put as OfPut, Ack}
use Rattle.rep_model.specs.Views.{gapless}
use Rattle.sn_local.specs.declared.config.Send.{Send}
use Rattle.sn_local.specs.declared.local.Awaited.TheVariants.{Topic}
use Rattle.sn_local.specs.declared.local.LocalChange.TheVariants.{Bind, Time, EndDialog}
use Rattle.sn_local.specs.Locals.{Local, no_local}
use Rattle.sn_local.specs.Seen.{Seen, seen_of}
use Rattle.sn_local.specs.Timers.{started}
use Rattle.sn_plan.specs.Numbering.{write, planned}
use Rattle.sn_flow.proofs.Rows.{s1, seven, session_of_s1, bound_seven, first_take}
use Rattle.sn_deliver.specs.Steps.{step}
use Rattle.put_laws.specs.Causes.{sender_of, IsCause, IsForCause}
use Rattle.put_laws.proofs.Stepping.{step-cause}

-- a message of quality of service 2 that waits for the client
abbrev waiting : Put
waiting = record { origin = 1; seq = 1; topic = codes "ab"; qos = 2; retain = false; expires = 0; body = codes "x" }

abbrev waits : Seen
waits = seen_of (first_take ∷ OfPut s1 waiting ∷ [])

-- a CONNECT of that client, with these flags
abbrev connects : ℕ → Frame
connects bits = frames.Connect (record { bits = bits }) 1 60 s1

abbrev welcome : List Send
welcome = record { to = seven; bytes = 3 ∷ 5 ∷ 0 ∷ [] } ∷ []

-- with a clean session the message is acknowledged
cleared : step 1 0 [] waits no_local seven (connects 4) 0
    ≡ Some (record {
      ops = OfSession s1 (record { epoch = 2; gateway = 1 }) 0 (Take session_of_s1) ∷ Ack s1 1 1 1 ∷ [];
      sends = welcome;
      local = Bind seven s1 ∷ Time (started s1 0) ∷ EndDialog seven ∷ [];
    })
unfolding gapless write planned step
cleared = refl

-- and for a cause
for_cause : IsForCause 1 [] waits no_local seven (connects 4) 0 welcome s1 (1, 1)
for_cause = step-cause 1 0 [] waits no_local seven (connects 4) 0 _ s1 (1, 1) cleared refl

-- without a clean session a CONNECT is none
kept : (put : Put) → IsCause waits no_local seven (connects 0) welcome s1 put → ⊥
kept put cause = true≢false (sym cause.1)

-- PUBACK 1, congestion, is none; nor is REGACK 0; nor is a DISCONNECT
congested : (put : Put) → IsCause waits bound_seven seven (frames.PubAck 0 7 1) [] s1 put → ⊥
congested put cause = ⊎_elim (λ accepted. absurd (omega (arith, accepted.0))) (λ refused. absurd (omega (arith, refused))) cause.1

registers : (put : Put) → IsCause waits bound_seven seven (frames.RegAck 1 7 0) [] s1 put → ⊥
registers put cause = omega (arith, cause.1)

leaves : (put : Put) → IsCause waits bound_seven seven (frames.Disconnect None) [] s1 put → ⊥
leaves put cause = cause

-- a PINGREQ without an id is from the client that is bound; a CONNECT is from the client that it names
pings : sender_of bound_seven seven (frames.PingReq []) ≡ Some s1
pings = refl

names : sender_of bound_seven seven (frames.Connect (record { bits = 4 }) 1 60 (codes "s2")) ≡ Some (codes "s2")
names = refl

-- and the topic of a will is from the client that began the dialog
abbrev dialog : Local
dialog =
    record bound_seven {
      dialogs = record {
        request = record { address = seven; client = codes "s2"; clean = true; duration = 60 };
        begun = 0;
        awaited = Topic;
      } ∷ [];
    }

gives : sender_of dialog seven (frames.WillTopic None) ≡ Some (codes "s2")
gives = refl

gives_none : sender_of dialog seven (frames.WillMsg []) ≡ Some s1
gives_none = refl
