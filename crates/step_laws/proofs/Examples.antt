-- Worked steps of publications and of time, computed from sets of operations.
use Rattle.std.proofs.Common.{◌≡◌, ℕ, List, [], ◌∷◌, ◌++◌, Some, None, refl, true, false}
use Rattle.std.specs.Prelude.{codes}
use Rattle.sn_session.specs.declared.presence.Presence.TheVariants.{Lost}
use Rattle.sn_session.specs.declared.outbound.Phase.TheVariants.{Registering, Published}
use Rattle.sn_session.specs.declared.change.SessionOp.{SessionOp}
use Rattle.sn_session.specs.declared.change.SessionOp.TheVariants.{Presence, Register, Subscribe, Received, Outbound}
use Rattle.rep_op.specs.declared.op.Put.{Put}
use Rattle.rep_op.specs.declared.op.Op.{Op}
use Rattle.rep_op.specs.declared.op.Op.TheVariants.{Session as OfSession, Put as OfPut, Ack, Retain as OfRetain}
use Rattle.rep_model.specs.Views.{gapless}
use Rattle.rep_model.proofs.Joins.{same_refl}
use Rattle.sn_frame.specs.declared.frame.Frame.TheVariants as frames
use Rattle.sn_local.specs.declared.local.LocalChange.TheVariants.{Unbind, Heard, Sent, Resent, Retried, Advertised}
use Rattle.sn_plan.specs.Numbering.{write, planned}
use Rattle.sn_local.specs.Seen.{seen_of}
use Rattle.sn_local.specs.Locals.{Local}
use Rattle.sn_local.specs.Timers.{started}
use Rattle.sn_flow.proofs.Rows.{s1, seven, bound_seven, first_take}
use Rattle.sn_exchange.specs.Following.{deliver_next}
use Rattle.sn_deliver.specs.Serving.{publish_in, ack_in}
use Rattle.sn_deliver.specs.Steps.{step}
use Rattle.sn_tick.specs.Ticking.{tick}
use Rattle.step_laws.specs.Ticks.{Ticked, AreTicks, busy, does_something, set_behind, local_behind}

-- a session operation of the client under stamp 1.1
abbrev at : ℕ → SessionOp → Op
at counter change = OfSession s1 (record { epoch = 1; gateway = 1 }) counter change

-- the client is bound, and was heard of at moment 1
abbrev there : Local
there = record bound_seven { timers = started s1 1 ∷ [] }

-- PUBLISH with an id that the session does not have: PUBACK 2
unknown_id : deliver_next 1 [] (seen_of (first_take ∷ [])) seven 1 (publish_in [] (seen_of (first_take ∷ [])) bound_seven seven 0x20 9 7 (5 ∷ []) 1)
    ≡ Some (record { ops = []; sends = record { to = seven; bytes = 7 ∷ 0x0d ∷ 0 ∷ 9 ∷ 0 ∷ 7 ∷ 2 ∷ [] } ∷ []; local = Heard s1 1 ∷ [] })
unfolding gapless write planned
unknown_id = refl

-- the client asked for the topic `ab` at quality of service 2
abbrev asks_for_ab : List Op
asks_for_ab = first_take ∷ at 1 (Subscribe (codes "ab") 2) ∷ []

abbrev x_on_ab : ℕ → Put
x_on_ab qos = record { origin = 1; seq = 1; topic = codes "ab"; qos = qos; retain = false; expires = 0; body = codes "x" }

-- PUBLISH without a connection: the client gets it, nothing is answered
unconnected : deliver_next 1 [] (seen_of asks_for_ab) (record { host = 0; port = 99 }) 2 (publish_in [] (seen_of asks_for_ab) bound_seven (record { host = 0; port = 99 }) 0x62 0x6162 0 (codes "x") 2)
    ≡ Some (record { ops = OfPut s1 (x_on_ab 0) ∷ []; sends = []; local = [] })
unfolding gapless write planned
unconnected = refl

-- and the next tick sends it, and is done with it
sent_once : tick 1 0 0 [] [] (seen_of (asks_for_ab ++ OfPut s1 (x_on_ab 0) ∷ [])) there 2
    ≡ Some (record {
      ops = Ack s1 1 1 1 ∷ [];
      sends = record { to = seven; bytes = 8 ∷ 0x0c ∷ 2 ∷ 0x61 ∷ 0x62 ∷ 0 ∷ 0 ∷ 0x78 ∷ [] } ∷ [];
      local = [];
    })
unfolding gapless write planned
sent_once = refl

-- the message has a moment, from which on it need not wait
abbrev lasts_until_33 : Put
lasts_until_33 = record (x_on_ab 1) { expires = 33 }

-- a second before it, the next tick sends it
sent_before : tick 1 30 0 [] [] (seen_of (asks_for_ab ++ OfPut s1 lasts_until_33 ∷ [])) there 32
    ≡ Some (record {
      ops = at 2 (Outbound (Some (record { origin = 1; seq = 1; msg_id = 1; phase = Published })) 2) ∷ [];
      sends = record { to = seven; bytes = 8 ∷ 0x0c ∷ 0x22 ∷ 0x61 ∷ 0x62 ∷ 0 ∷ 1 ∷ 0x78 ∷ [] } ∷ [];
      local = Sent s1 32 ∷ [];
    })
unfolding gapless write planned
sent_before = refl

-- at that moment it is acknowledged, and nothing is sent
expired : tick 1 30 0 [] [] (seen_of (asks_for_ab ++ OfPut s1 lasts_until_33 ∷ [])) there 33
    ≡ Some (record { ops = Ack s1 1 1 1 ∷ []; sends = []; local = [] })
unfolding gapless write planned
expired = refl

-- but while the client is in the middle of it, it stays: nothing is done
abbrev in_the_middle : List Op
in_the_middle = asks_for_ab ++ OfPut s1 lasts_until_33 ∷ at 2 (Outbound (Some (record { origin = 1; seq = 1; msg_id = 1; phase = Published })) 2) ∷ []

let_be : tick 1 30 0 [] [] (seen_of in_the_middle) (record bound_seven { timers = started s1 32 ∷ [] }) 33 ≡ Some (record { ops = []; sends = []; local = [] })
unfolding gapless write planned
let_be = refl

-- a message that a step makes lasts for the lifetime
lasts : step 1 30 [] (seen_of asks_for_ab) bound_seven (record { host = 0; port = 99 }) (frames.Publish (record { bits = 0x62 }) 0x6162 0 (codes "x")) 3
    ≡ Some (record { ops = OfPut s1 (record (x_on_ab 0) { expires = 33 }) ∷ []; sends = []; local = [] })
unfolding gapless write planned step
lasts = refl

-- PUBLISH at quality of service 2 by the client itself: it gets the message later, the message id is received, PUBREC
published_twice : deliver_next 1 [] (seen_of asks_for_ab) seven 2 (publish_in [] (seen_of asks_for_ab) bound_seven seven 0x42 0x6162 5 (codes "x") 2)
    ≡ Some (record {
      ops = at 2 (Received 5) ∷ OfPut s1 (x_on_ab 2) ∷ [];
      sends = record { to = seven; bytes = 4 ∷ 0x0f ∷ 0 ∷ 5 ∷ [] } ∷ [];
      local = Heard s1 2 ∷ [];
    })
unfolding gapless write planned
published_twice = refl

-- a client whose topic `t/b` needs registering, with a message at quality of service 1
abbrev h_on_tb : Put
h_on_tb = record { origin = 1; seq = 1; topic = codes "t/b"; qos = 1; retain = false; expires = 0; body = codes "H" }

abbrev exchange_one : ℕ → SessionOp
exchange_one n = Outbound (Some (record { origin = 1; seq = 1; msg_id = n; phase = Registering })) 2

abbrev waits_for_tb : List Op
waits_for_tb = first_take ∷ at 1 (Subscribe (codes "t/#") 1) ∷ OfPut s1 h_on_tb ∷ []

-- a tick registers the topic
registers : tick 1 0 0 [] [] (seen_of waits_for_tb) there 2
    ≡ Some (record {
      ops = at 2 (Register 1 (codes "t/b") false) ∷ at 3 (exchange_one 1) ∷ [];
      sends = record { to = seven; bytes = 9 ∷ 0x0a ∷ 0 ∷ 1 ∷ 0 ∷ 1 ∷ codes "t/b" } ∷ [];
      local = Sent s1 2 ∷ [];
    })
unfolding gapless write planned
registers = refl

abbrev registering : List Op
registering = waits_for_tb ++ at 2 (Register 1 (codes "t/b") false) ∷ at 3 (exchange_one 1) ∷ []

abbrev publishing : SessionOp
publishing = Outbound (Some (record { origin = 1; seq = 1; msg_id = 2; phase = Published })) 3

-- REGACK 0: the client knows the id, and Delivery sends the message
registered : deliver_next 1 [] (seen_of registering) seven 3 (ack_in [] (seen_of registering) bound_seven seven (frames.RegAck 1 1 0) 3)
    ≡ Some (record {
      ops = at 4 (Register 1 (codes "t/b") true) ∷ at 5 (Outbound None 2) ∷ at 6 publishing ∷ [];
      sends = record { to = seven; bytes = 8 ∷ 0x0c ∷ 0x20 ∷ 0 ∷ 1 ∷ 0 ∷ 2 ∷ codes "H" } ∷ [];
      local = Heard s1 3 ∷ Sent s1 3 ∷ [];
    })
unfolding gapless write planned
registered = refl

abbrev published : List Op
published = registering ++ at 4 (Register 1 (codes "t/b") true) ∷ at 5 (Outbound None 2) ∷ at 6 publishing ∷ []

-- PUBACK 0: the message is acknowledged, and nothing is left
acknowledged : deliver_next 1 [] (seen_of published) seven 4 (ack_in [] (seen_of published) bound_seven seven (frames.PubAck 1 2 0) 4)
    ≡ Some (record { ops = at 7 (Outbound None 3) ∷ Ack s1 1 1 1 ∷ []; sends = []; local = Heard s1 4 ∷ [] })
unfolding gapless write planned
acknowledged = refl

-- without an answer for ten seconds the PUBLISH is sent again, with DUP and the same message id
sent_again : tick 1 0 0 [] [] (seen_of published) (record bound_seven { timers = started s1 3 ∷ [] }) 13
    ≡ Some (record {
      ops = [];
      sends = record { to = seven; bytes = 8 ∷ 0x0c ∷ 0xa0 ∷ 0 ∷ 1 ∷ 0 ∷ 2 ∷ codes "H" } ∷ [];
      local = Retried s1 13 ∷ Resent s1 13 ∷ [];
    })
unfolding gapless write planned
sent_again = refl

-- after four tries the client is lost
lost_at_last : tick 1 0 0 [] [] (seen_of published) (record bound_seven { timers = record (started s1 3) { tries = 4 } ∷ [] }) 13
    ≡ Some (record { ops = at 7 (Presence Lost 60) ∷ []; sends = []; local = Unbind s1 ∷ [] })
unfolding gapless write planned
lost_at_last = refl

-- a moment: one tick sends the message that waits, and the next does nothing
abbrev two_ticks : List Ticked
two_ticks =
    record {
      plan = record {
        ops = Ack s1 1 1 1 ∷ [];
        sends = record { to = seven; bytes = 8 ∷ 0x0c ∷ 2 ∷ 0x61 ∷ 0x62 ∷ 0 ∷ 0 ∷ 0x78 ∷ [] } ∷ [];
        local = [];
      };
      delta = Ack s1 1 1 1 ∷ [];
    }
    ∷ record { plan = record { ops = []; sends = []; local = [] }; delta = [] }
    ∷ []

are_ticks : AreTicks 1 0 0 [] [] 2 (asks_for_ab ++ OfPut s1 (x_on_ab 0) ∷ []) there two_ticks
unfolding gapless write planned
are_ticks = (refl, same_refl (Ack s1 1 1 1 ∷ []), (refl, same_refl [], tt))

one_is_busy : busy 1 0 [] 2 (asks_for_ab ++ OfPut s1 (x_on_ab 0) ∷ []) there two_ticks ≡ 1
unfolding gapless write planned
one_is_busy = refl

-- a moment of a gateway that advertises itself: ADVERTISE, then the client is lost, then nothing
abbrev busy_moment : List Ticked
busy_moment =
    record {
      plan = record { ops = []; sends = record { to = seven; bytes = 5 ∷ 0 ∷ 1 ∷ 0 ∷ 5 ∷ [] } ∷ []; local = Advertised 13 ∷ [] };
      delta = [];
    }
    ∷ record {
      plan = record { ops = at 7 (Presence Lost 60) ∷ []; sends = []; local = Unbind s1 ∷ [] };
      delta = at 7 (Presence Lost 60) ∷ [];
    }
    ∷ record { plan = record { ops = []; sends = []; local = [] }; delta = [] }
    ∷ []

abbrev tried_enough : Local
tried_enough = record bound_seven { timers = record (started s1 3) { tries = 4 } ∷ [] }

are_busy : AreTicks 1 0 5 (seven ∷ []) [] 13 published tried_enough busy_moment
unfolding gapless write planned
are_busy = (refl, same_refl [], (refl, same_refl (at 7 (Presence Lost 60) ∷ []), (refl, same_refl [], tt)))

two_are_busy : busy 1 5 (seven ∷ []) 13 published tried_enough busy_moment ≡ 2
unfolding gapless write planned
two_are_busy = refl

at_rest : does_something 1 5 (seven ∷ []) (seen_of (set_behind published busy_moment)) (local_behind tried_enough busy_moment) 13 ≡ false
unfolding gapless write planned
at_rest = refl
