-- worked examples of the definitions
use Rattle.std.proofs.Common.{◌≡◌, true, false, [], ◌∷◌, Some, refl}
use Rattle.std.specs.Prelude.{codes}
use Rattle.sn_session.specs.declared.presence.Presence.TheVariants.{Asleep}
use Rattle.sn_session.specs.declared.session.Session.{Session}
use Rattle.sn_session.specs.declared.change.SessionOp.{SessionOp}
use Rattle.sn_session.specs.declared.change.SessionOp.TheVariants.{Presence as SetPresence, Register, Subscribe, Unsubscribe, WillTopic, WillMsg, Received, Released}
use Rattle.sn_session.specs.Session.{applied, empty_session, is_full}
use Rattle.sn_tables.proofs.Examples.{topic, asks, all_ids}

abbrev after : SessionOp → Session
after change = applied empty_session change

-- the client goes to sleep
goes_to_sleep : after (SetPresence Asleep 300) ≡ record empty_session { presence = Asleep; duration = 300 }
goes_to_sleep = refl

-- topic ids ascend whatever the order of the operations, and a second name for an id takes the first one's place
ids_ascend : (applied (after (Register 2 (codes "b") true)) (Register 1 (codes "a") true)).topics ≡ topic 1 (codes "a") ∷ topic 2 (codes "b") ∷ []
ids_ascend = refl

id_twice : (applied (after (Register 1 (codes "b") true)) (Register 1 (codes "a") true)).topics ≡ topic 1 (codes "a") ∷ []
id_twice = refl

-- filters ascend as words, and a filter has one quality of service
filters_ascend : (applied (after (Subscribe (codes "t/#") 1)) (Subscribe (codes "+/a") 2)).subscriptions ≡ asks (codes "+/a") 2 ∷ asks (codes "t/#") 1 ∷ []
filters_ascend = refl

filter_twice : (applied (after (Subscribe (codes "t") 2)) (Subscribe (codes "t") 0)).subscriptions ≡ asks (codes "t") 0 ∷ []
filter_twice = refl

filter_gone : (applied (after (Subscribe (codes "t") 2)) (Unsubscribe (codes "t"))).subscriptions ≡ []
filter_gone = refl

-- a message without a will has no effect, and a new topic keeps the message
no_will : after (WillMsg (codes "bye")) ≡ empty_session
no_will = refl

message_kept :
    let first = applied (after (WillTopic (Some (record { topic = codes "w"; qos = 1; retain = true })))) (WillMsg (codes "bye")) in
    (applied first (WillTopic (Some (record { topic = codes "v"; qos = 0; retain = false })))).will ≡ Some (record { topic = codes "v"; qos = 0; retain = false; message = codes "bye" })
message_kept = refl

-- message ids come and go
received_once : (applied (applied (after (Received 5)) (Received 3)) (Received 5)).received ≡ 3 ∷ 5 ∷ []
received_once = refl

released_is_gone : (applied (applied (after (Received 5)) (Received 3)) (Released 5)).received ≡ 3 ∷ []
released_is_gone = refl

abbrev full : Session
full = record empty_session { received = all_ids }

-- of 256 ids the 257th finds no room, and one that is there does
no_room_for_another : is_full full (Received 300) ≡ true
no_room_for_another = refl

room_for_one_that_is_there : is_full full (Received 256) ≡ false
room_for_one_that_is_there = refl

stays_as_it_was : applied full (Received 300) ≡ full
stays_as_it_was = refl
