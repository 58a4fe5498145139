-- Worked rows: what a gateway drafts for REGISTER, SUBSCRIBE, UNSUBSCRIBE, WILLTOPICUPD and WILLMSGUPD, computed from sessions.
use Rattle.std.proofs.Common.{◌≡◌, ℕ, true, false, List, [], ◌∷◌, map, Some, None, refl}
use Rattle.std.specs.Prelude.{codes}
use Rattle.std.specs.List.{flat_map}
use Rattle.sn_topic.specs.Table.{Entries}
use Rattle.sn_session.specs.declared.session.Session.{Session}
use Rattle.sn_tables.specs.declared.topics.TopicEntry.{TopicEntry}
use Rattle.sn_tables.specs.declared.subscriptions.Subscription.{Subscription}
use Rattle.sn_session.specs.declared.change.SessionOp.{SessionOp}
use Rattle.sn_session.specs.declared.change.SessionOp.TheVariants.{Register, Subscribe, Unsubscribe, WillTopic, WillMsg}
use Rattle.sn_session.specs.Session.{empty_session, applied}
use Rattle.rep_op.specs.declared.op.Retained.{Retained}
use Rattle.rep_op.specs.declared.op.Op.TheVariants.{Retain as OfRetain}
use Rattle.sn_local.specs.declared.config.Addr.{Addr}
use Rattle.sn_local.specs.Seen.{Seen, seen_of}
use Rattle.sn_plan.specs.Drafts.{Drafted}
use Rattle.sn_subscribe.specs.Registration.{register}
use Rattle.sn_subscribe.specs.Subscription.{subscribe, unsubscribe}
use Rattle.sn_flow.specs.WillUpdate.{will_topic_update, will_msg_update}

abbrev seven : Addr
seven = record { host = 0; port = 7 }

abbrev after : SessionOp → Session
after change = applied empty_session change

-- these changes, and this frame to the client
abbrev drafted : List SessionOp → List ℕ → Drafted
drafted changes bytes = record { changes = changes; acks = []; handed = []; retain = None; puts = []; expires = 0; sends = record { to = seven; bytes = bytes } ∷ []; local = [] }

-- a set in which nothing is retained
abbrev nothing_yet : Seen
nothing_yet = seen_of []

-- 256 pairs of octets
abbrev hex : List ℕ
hex = codes "0123456789abcdef"

abbrev pairs : List (List ℕ)
pairs = flat_map (λ high. map (λ low. high ∷ low ∷ []) hex) hex

-- REGISTER: the first id, which the client knows; the second time it gets the same id, and nothing changes
registers : register seven empty_session 1 (codes "t/a") ≡ drafted (Register 1 (codes "t/a") true ∷ []) (7 ∷ 0x0b ∷ 0 ∷ 1 ∷ 0 ∷ 1 ∷ 0 ∷ [])
registers = refl

registers_again : register seven (after (Register 1 (codes "t/a") true)) 2 (codes "t/a") ≡ drafted [] (7 ∷ 0x0b ∷ 0 ∷ 1 ∷ 0 ∷ 2 ∷ 0 ∷ [])
registers_again = refl

-- an id that the gateway gave and the client has not acknowledged is known from then on
registers_what_was_given : register seven (after (Register 5 (codes "t/a") false)) 2 (codes "t/a")
    ≡ drafted (Register 5 (codes "t/a") true ∷ []) (7 ∷ 0x0b ∷ 0 ∷ 5 ∷ 0 ∷ 2 ∷ 0 ∷ [])
registers_what_was_given = refl

-- a filter is no name
registers_no_filter : register seven empty_session 1 (codes "t/#") ≡ drafted [] (7 ∷ 0x0b ∷ 0 ∷ 0 ∷ 0 ∷ 1 ∷ 3 ∷ [])
registers_no_filter = refl

-- where 256 ids are in use there is none for another name
abbrev entry_of : List ℕ → TopicEntry
entry_of name = record { id = 300; name = name; known = true }

registers_no_257th : register seven (record empty_session { topics = map entry_of pairs }) 1 (codes "t/a") ≡ drafted [] (7 ∷ 0x0b ∷ 0 ∷ 0 ∷ 0 ∷ 1 ∷ 1 ∷ [])
registers_no_257th = refl

-- SUBSCRIBE with wildcards: no topic id
subscribes : subscribe [] nothing_yet 0 seven empty_session 0x20 2 (codes "t/#") ≡ drafted (Subscribe (codes "t/#") 1 ∷ []) (8 ∷ 0x13 ∷ 0x20 ∷ 0 ∷ 0 ∷ 0 ∷ 2 ∷ 0 ∷ [])
subscribes = refl

-- again: nothing changes; and at another quality of service
subscribes_again : subscribe [] nothing_yet 0 seven (after (Subscribe (codes "t/#") 1)) 0x20 2 (codes "t/#") ≡ drafted [] (8 ∷ 0x13 ∷ 0x20 ∷ 0 ∷ 0 ∷ 0 ∷ 2 ∷ 0 ∷ [])
subscribes_again = refl

subscribes_at_another : subscribe [] nothing_yet 0 seven (after (Subscribe (codes "t/#") 1)) 0x40 2 (codes "t/#")
    ≡ drafted (Subscribe (codes "t/#") 2 ∷ []) (8 ∷ 0x13 ∷ 0x40 ∷ 0 ∷ 0 ∷ 0 ∷ 2 ∷ 0 ∷ [])
subscribes_at_another = refl

-- a name: it gets an id first; other bits of the flags are not given back
subscribes_to_a_name : subscribe [] nothing_yet 0 seven empty_session 0xb4 2 (codes "t/a")
    ≡ drafted (Register 1 (codes "t/a") true ∷ Subscribe (codes "t/a") 1 ∷ []) (8 ∷ 0x13 ∷ 0x20 ∷ 0 ∷ 1 ∷ 0 ∷ 2 ∷ 0 ∷ [])
subscribes_to_a_name = refl

-- a predefined id, and one that is not
abbrev table : Entries
table = (7, codes "p/q") ∷ []

subscribes_by_id : subscribe table nothing_yet 0 seven empty_session 0x21 2 (0 ∷ 7 ∷ []) ≡ drafted (Subscribe (codes "p/q") 1 ∷ []) (8 ∷ 0x13 ∷ 0x20 ∷ 0 ∷ 7 ∷ 0 ∷ 2 ∷ 0 ∷ [])
subscribes_by_id = refl

subscribes_to_no_id : subscribe table nothing_yet 0 seven empty_session 0x21 2 (0 ∷ 8 ∷ []) ≡ drafted [] (8 ∷ 0x13 ∷ 0x20 ∷ 0 ∷ 0 ∷ 0 ∷ 2 ∷ 2 ∷ [])
subscribes_to_no_id = refl

-- a short name, and a filter of two octets that is none
subscribes_in_short : subscribe [] nothing_yet 0 seven empty_session 0x22 2 (codes "ab") ≡ drafted (Subscribe (codes "ab") 1 ∷ []) (8 ∷ 0x13 ∷ 0x20 ∷ 0 ∷ 0 ∷ 0 ∷ 2 ∷ 0 ∷ [])
subscribes_in_short = refl

subscribes_to_no_short_name : subscribe [] nothing_yet 0 seven empty_session 0x22 2 (codes "/#") ≡ drafted [] (8 ∷ 0x13 ∷ 0x20 ∷ 0 ∷ 0 ∷ 0 ∷ 2 ∷ 3 ∷ [])
subscribes_to_no_short_name = refl

-- bits 11 of the quality of service and of the type, and a filter with a wildcard where none may stand
subscribes_at_no_quality : subscribe [] nothing_yet 0 seven empty_session 0x60 2 (codes "t/#") ≡ drafted [] (8 ∷ 0x13 ∷ 0x60 ∷ 0 ∷ 0 ∷ 0 ∷ 2 ∷ 3 ∷ [])
subscribes_at_no_quality = refl

subscribes_by_no_type : subscribe [] nothing_yet 0 seven empty_session 0x23 2 (codes "t/#") ≡ drafted [] (8 ∷ 0x13 ∷ 0x20 ∷ 0 ∷ 0 ∷ 0 ∷ 2 ∷ 3 ∷ [])
subscribes_by_no_type = refl

subscribes_to_no_filter : subscribe [] nothing_yet 0 seven empty_session 0x20 2 (codes "t#") ≡ drafted [] (8 ∷ 0x13 ∷ 0x20 ∷ 0 ∷ 0 ∷ 0 ∷ 2 ∷ 3 ∷ [])
subscribes_to_no_filter = refl

-- of 256 subscriptions the 257th finds no room, and one that is there does
abbrev asks : List ℕ → Subscription
asks filter = record { filter = filter; qos = 1 }

abbrev full : Session
full = record empty_session { subscriptions = map asks pairs }

subscribes_no_257th : subscribe [] nothing_yet 0 seven full 0x20 2 (codes "t/#") ≡ drafted [] (8 ∷ 0x13 ∷ 0x20 ∷ 0 ∷ 0 ∷ 0 ∷ 2 ∷ 1 ∷ [])
subscribes_no_257th = refl

subscribes_to_one_of_256 : subscribe [] nothing_yet 0 seven full 2 2 (codes "ff") ≡ drafted (Subscribe (codes "ff") 0 ∷ []) (8 ∷ 0x13 ∷ 0 ∷ 0 ∷ 0 ∷ 0 ∷ 2 ∷ 0 ∷ [])
subscribes_to_one_of_256 = refl

-- a name for which no id is free is not subscribed to
subscribes_without_id : subscribe [] nothing_yet 0 seven (record empty_session { topics = map entry_of pairs }) 0x20 2 (codes "t/a")
    ≡ drafted [] (8 ∷ 0x13 ∷ 0x20 ∷ 0 ∷ 0 ∷ 0 ∷ 2 ∷ 1 ∷ [])
subscribes_without_id = refl

-- what is retained of topics that the filter asks for is handed, each at the smaller quality of service; what was ended is not
abbrev kept : ℕ → List ℕ → Retained
kept qos body = record { clock = 1; gateway = 1; qos = qos; body = body }

abbrev retaining : Seen
retaining = seen_of (OfRetain (codes "t/b") (kept 0 (codes "y")) ∷ OfRetain (codes "t/a") (kept 2 (codes "x")) ∷ OfRetain (codes "t/c") (kept 1 []) ∷ OfRetain (codes "u") (kept 1 (codes "z")) ∷ [])

hands_what_is_retained : subscribe [] retaining 0 seven empty_session 0x20 2 (codes "t/#")
    ≡ record (drafted (Subscribe (codes "t/#") 1 ∷ []) (8 ∷ 0x13 ∷ 0x20 ∷ 0 ∷ 0 ∷ 0 ∷ 2 ∷ 0 ∷ [])) {
      handed = record { topic = codes "t/a"; qos = 1; body = codes "x" } ∷ record { topic = codes "t/b"; qos = 0; body = codes "y" } ∷ [];
    }
hands_what_is_retained = refl

-- where 1,023 messages wait there is room for one, and where 1,024 do for none
hands_one : subscribe [] retaining 1023 seven (after (Subscribe (codes "t/#") 1)) 0x20 2 (codes "t/#")
    ≡ record (drafted [] (8 ∷ 0x13 ∷ 0x20 ∷ 0 ∷ 0 ∷ 0 ∷ 2 ∷ 0 ∷ [])) { handed = record { topic = codes "t/a"; qos = 1; body = codes "x" } ∷ [] }
hands_one = refl

hands_none : subscribe [] retaining 1024 seven (after (Subscribe (codes "t/#") 1)) 0x20 2 (codes "t/#") ≡ drafted [] (8 ∷ 0x13 ∷ 0x20 ∷ 0 ∷ 0 ∷ 0 ∷ 2 ∷ 0 ∷ [])
hands_none = refl

-- UNSUBSCRIBE, whatever the bits of the quality of service; the second time nothing changes
unsubscribes : unsubscribe [] seven (after (Subscribe (codes "t/#") 1)) 0x60 3 (codes "t/#") ≡ drafted (Unsubscribe (codes "t/#") ∷ []) (4 ∷ 0x15 ∷ 0 ∷ 3 ∷ [])
unsubscribes = refl

unsubscribes_again : unsubscribe [] seven empty_session 0 3 (codes "t/#") ≡ drafted [] (4 ∷ 0x15 ∷ 0 ∷ 3 ∷ [])
unsubscribes_again = refl

unsubscribes_by_id : unsubscribe table seven (after (Subscribe (codes "p/q") 1)) 1 3 (0 ∷ 7 ∷ []) ≡ drafted (Unsubscribe (codes "p/q") ∷ []) (4 ∷ 0x15 ∷ 0 ∷ 3 ∷ [])
unsubscribes_by_id = refl

-- WILLTOPICUPD: another topic; a filter, and bits 11 of the quality of service; nothing in it
new_topic : will_topic_update seven (Some (record { flags = record { bits = 0x30 }; topic = codes "w" }))
    ≡ drafted (WillTopic (Some (record { topic = codes "w"; qos = 1; retain = true })) ∷ []) (3 ∷ 0x1b ∷ 0 ∷ [])
new_topic = refl

no_topic : will_topic_update seven (Some (record { flags = record { bits = 0x30 }; topic = codes "w/#" })) ≡ drafted [] (3 ∷ 0x1b ∷ 3 ∷ [])
no_topic = refl

no_quality : will_topic_update seven (Some (record { flags = record { bits = 0x60 }; topic = codes "w" })) ≡ drafted [] (3 ∷ 0x1b ∷ 3 ∷ [])
no_quality = refl

topic_deleted : will_topic_update seven None ≡ drafted (WillTopic None ∷ []) (3 ∷ 0x1b ∷ 0 ∷ [])
topic_deleted = refl

-- WILLMSGUPD: another message, and none without a will
abbrev willing : Session
willing = after (WillTopic (Some (record { topic = codes "w"; qos = 1; retain = true })))

new_message : will_msg_update seven willing (codes "gone") ≡ drafted (WillMsg (codes "gone") ∷ []) (3 ∷ 0x1d ∷ 0 ∷ [])
new_message = refl

no_will : will_msg_update seven empty_session (codes "gone") ≡ drafted [] (3 ∷ 0x1d ∷ 3 ∷ [])
no_will = refl

-- 4,096 octets are allowed, and one more is not
abbrev octets_4096 : List ℕ
octets_4096 = flat_map (λ pair. pair) (flat_map (λ high. pairs) (codes "01234567"))

longest : will_msg_update seven willing octets_4096 ≡ drafted (WillMsg octets_4096 ∷ []) (3 ∷ 0x1d ∷ 0 ∷ [])
longest = refl

too_long : will_msg_update seven willing (0 ∷ octets_4096) ≡ drafted [] (3 ∷ 0x1d ∷ 3 ∷ [])
too_long = refl
