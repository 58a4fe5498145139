-- Worked steps of connections with wills, computed from sets of operations.
use Rattle.std.proofs.Common.{◌≡◌, ℕ, List, [], ◌∷◌, Some, None, refl, true, false}
use Rattle.std.specs.Prelude.{codes}
use Rattle.sn_session.specs.declared.session.Session.{Session}
use Rattle.sn_session.specs.declared.change.SessionOp.TheVariants.{Take}
use Rattle.sn_session.specs.Session.{empty_session}
use Rattle.rep_op.specs.declared.op.Put.{Put}
use Rattle.rep_op.specs.declared.op.Op.{Op}
use Rattle.rep_op.specs.declared.op.Op.TheVariants.{Session as OfSession, Ack}
use Rattle.sn_local.specs.declared.local.Awaited.TheVariants.{Topic, Message}
use Rattle.sn_local.specs.declared.local.WillDialog.{WillDialog}
use Rattle.sn_local.specs.declared.local.LocalChange.{LocalChange}
use Rattle.sn_local.specs.declared.local.LocalChange.TheVariants.{Bind, Time, Heard, Ask, EndDialog}
use Rattle.sn_plan.specs.declared.plan.Plan.{Plan}
use Rattle.sn_plan.specs.Numbering.{write, planned}
use Rattle.sn_local.specs.Seen.{Seen}
use Rattle.sn_local.specs.Locals.{Local, no_local, after_all}
use Rattle.sn_local.specs.Timers.{started}
use Rattle.sn_plan.specs.Rows.{plan_of_row}
use Rattle.sn_flow.specs.Connection.{connect}
use Rattle.sn_flow.specs.Wills.{will_topic, will_msg}
use Rattle.sn_flow.proofs.Rows.{s1, seven}

-- a session with a known topic, a subscription, a will and a message that waits
abbrev had : Session
had =
    record empty_session {
      duration = 60;
      topics = record { id = 4; name = codes "t/a"; known = true } ∷ [];
      subscriptions = record { filter = codes "t/#"; qos = 1 } ∷ [];
      will = Some (record { topic = codes "w"; qos = 0; retain = false; message = codes "old" });
    }

abbrev waiting : Put
waiting = record { origin = 2; seq = 9; topic = codes "t/a"; qos = 1; retain = false; expires = 0; body = [] }

-- the gateway 1 owns the client
abbrev known : Seen
known =
    record {
      all = s1 ∷ [];
      is_there = λ c. true;
      of = λ c. record { stamp = Some (record { epoch = 1; gateway = 1 }); prefix = 1; session = Some had; pending = waiting ∷ [] };
      epoch = λ c. Some 2;
      seq = λ c g. Some 1;
      topics = [];
      retained = λ t. None;
      clock = λ t. Some 1;
    }

-- a dialog of the address, since moment 0
abbrev dialog : WillDialog
dialog = record { request = record { address = seven; client = s1; clean = false; duration = 60 }; begun = 0; awaited = Topic }

abbrev topic_asked_for : Local
topic_asked_for = after_all no_local (Ask dialog ∷ [])

abbrev message_asked_for : WillDialog
message_asked_for = record dialog { awaited = Message (record { topic = codes "w/b"; qos = 1; retain = true }) }

abbrev message_awaited : Local
message_awaited = after_all topic_asked_for (Ask message_asked_for ∷ [])

-- the Take of an accepted client
abbrev taken : Session → Op
taken session = OfSession s1 (record { epoch = 2; gateway = 1 }) 0 (Take session)

-- a frame to the address, and no operation
abbrev answers : List ℕ → List LocalChange → Plan
answers bytes local = record { ops = []; sends = record { to = seven; bytes = bytes } ∷ []; local = local }

-- CONNECT with a will: the client is asked for the topic
asks_topic : plan_of_row 1 known (connect known no_local seven 8 1 60 s1 0) ≡ Some (answers (2 ∷ 6 ∷ []) (Ask dialog ∷ []))
unfolding write planned
asks_topic = refl

-- WILLTOPIC with a topic: the client is asked for the message; the dialog is as old as it was
asks_message : plan_of_row 1 known (will_topic known topic_asked_for seven (Some (record { flags = record { bits = 0x30 }; topic = codes "w/b" })) 5)
    ≡ Some (answers (2 ∷ 8 ∷ []) (Ask message_asked_for ∷ []))
unfolding write planned
asks_message = refl

-- WILLTOPIC with a filter, or with the bits 11 as quality of service: the dialog ends
refuses_filter : plan_of_row 1 known (will_topic known topic_asked_for seven (Some (record { flags = record { bits = 0x30 }; topic = codes "w/#" })) 5)
    ≡ Some (answers (3 ∷ 5 ∷ 3 ∷ []) (EndDialog seven ∷ []))
unfolding write planned
refuses_filter = refl

refuses_level : plan_of_row 1 known (will_topic known topic_asked_for seven (Some (record { flags = record { bits = 0x60 }; topic = codes "w/b" })) 5)
    ≡ Some (answers (3 ∷ 5 ∷ 3 ∷ []) (EndDialog seven ∷ []))
unfolding write planned
refuses_level = refl

-- the changes of the local state of an accepted client
abbrev settled : ℕ → List LocalChange
settled now = Bind seven s1 ∷ Time (started s1 now) ∷ EndDialog seven ∷ []

-- the session that was kept: no topic is known any more
abbrev kept : Session
kept = record had { topics = record { id = 4; name = codes "t/a"; known = false } ∷ [] }

-- WILLMSG: the client is accepted with that will; what waits goes on waiting
accepts_with_will : plan_of_row 1 known (will_msg known message_awaited seven (codes "bye") 7)
    ≡ Some (record {
      ops = taken (record kept { will = Some (record { topic = codes "w/b"; qos = 1; retain = true; message = codes "bye" }) }) ∷ [];
      sends = record { to = seven; bytes = 3 ∷ 5 ∷ 0 ∷ [] } ∷ [];
      local = settled 7;
    })
unfolding write planned
accepts_with_will = refl

-- an empty WILLTOPIC deletes the will; a CONNECT without a will leaves it as it is
deletes_will : plan_of_row 1 known (will_topic known topic_asked_for seven None 5)
    ≡ Some (record { ops = taken (record kept { will = None }) ∷ []; sends = record { to = seven; bytes = 3 ∷ 5 ∷ 0 ∷ [] } ∷ []; local = settled 5 })
unfolding write planned
deletes_will = refl

keeps_will : plan_of_row 1 known (connect known no_local seven 0 1 60 s1 5)
    ≡ Some (record { ops = taken kept ∷ []; sends = record { to = seven; bytes = 3 ∷ 5 ∷ 0 ∷ [] } ∷ []; local = settled 5 })
unfolding write planned
keeps_will = refl

-- a clean session begins anew and without a will, and acknowledges what waits
begins_anew : plan_of_row 1 known (connect known no_local seven 4 1 60 s1 5)
    ≡ Some (record {
      ops = taken (record empty_session { clean = true; duration = 60 }) ∷ Ack s1 2 9 9 ∷ [];
      sends = record { to = seven; bytes = 3 ∷ 5 ∷ 0 ∷ [] } ∷ [];
      local = settled 5;
    })
unfolding write planned
begins_anew = refl

-- a frame that the dialog does not wait for: from a bound address nothing but a sign of life, from another it is turned away
waits_for_topic : plan_of_row 1 known (will_msg known topic_asked_for seven (codes "bye") 7) ≡ Some (answers (2 ∷ 0x18 ∷ []) [])
waits_for_topic = refl

waits_for_nothing : plan_of_row 1 known (will_topic known (after_all no_local (Bind seven s1 ∷ [])) seven None 7)
    ≡ Some (record { ops = []; sends = []; local = Heard s1 7 ∷ [] })
unfolding write planned
waits_for_nothing = refl

-- a CONNECT at another client's address: that client was heard of, and its address is the new client's
takes_address : plan_of_row 1 known (connect known (after_all no_local (Bind seven (codes "s2") ∷ [])) seven 0 1 60 s1 5)
    ≡ Some (record { ops = taken kept ∷ []; sends = record { to = seven; bytes = 3 ∷ 5 ∷ 0 ∷ [] } ∷ []; local = Bind seven s1 ∷ Time (started s1 5) ∷ EndDialog seven ∷ Heard (codes "s2") 5 ∷ [] })
unfolding write planned
takes_address = refl

-- what such a step leaves in the local state: one binding, no dialog, and both timers
leaves : after_all (after_all topic_asked_for (Bind seven (codes "s2") ∷ [])) (Bind seven s1 ∷ Time (started s1 5) ∷ EndDialog seven ∷ Heard (codes "s2") 5 ∷ [])
    ≡ record { bindings = record { address = seven; client = s1 } ∷ []; dialogs = []; timers = started s1 5 ∷ started (codes "s2") 5 ∷ []; advertised = None }
leaves = refl
