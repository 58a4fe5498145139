-- The rows of SUBSCRIBE and UNSUBSCRIBE (MQTT-SN 1.2 section 6.9).
use Rattle.std.specs.Prelude.{ℕ, ◌==◌, if◌then◌else◌, is_some, List, Option, Some, None, bit_and}
use Rattle.sn_topic.specs.Table.{Entries}
use Rattle.sn_topic.specs.Topics.{name_asked}
use Rattle.sn_session.specs.declared.session.Session.{Session}
use Rattle.sn_session.specs.declared.change.SessionOp.{SessionOp}
use Rattle.sn_session.specs.declared.change.SessionOp.TheVariants.{Subscribe, Unsubscribe}
use Rattle.sn_tables.specs.Subscriptions.{filter_qos, filter_has_no_room}
use Rattle.sn_frame.specs.declared.flags.TopicIdType.{TopicIdType}
use Rattle.sn_frame.specs.declared.flags.TopicIdType.TheVariants as kinds
use Rattle.sn_frame.specs.declared.frame.Frame.{Frame}
use Rattle.sn_frame.specs.declared.frame.Frame.TheVariants as frames
use Rattle.sn_frame.specs.FlagBits.{qos_of, kind_of}
use Rattle.sn_local.specs.declared.config.Addr.{Addr}
use Rattle.sn_plan.specs.declared.asking.Asked.{Asked}
use Rattle.sn_plan.specs.declared.asking.Asked.TheVariants.{Topics, Refused}
use Rattle.sn_subscribe.specs.declared.registration.NamedId.{NamedId}
use Rattle.sn_plan.specs.Asking.{qos_asked, topics_asked, id_in}
use Rattle.sn_plan.specs.Drafts.{Drafted, nothing, changed_if, hand_all, sent}
use Rattle.sn_local.specs.Seen.{Seen}
use Rattle.sn_subscribe.specs.Registration.{id_for}
use Rattle.sn_subscribe.specs.Handing.{handed_for}

-- SUBACK; of the flags that were asked with it has the two bits of the quality of service
abbrev pub suback : ℕ → ℕ → ℕ → ℕ → Frame
suback bits topic_id msg_id code =
    frames.SubAck (record { bits = bit_and bits 96 }) topic_id msg_id code

-- refused by a code: nothing changes, and the topic id is 0
abbrev pub refused : Addr → ℕ → ℕ → ℕ → Drafted
refused a bits msg_id code = sent a (suback bits 0 msg_id code) nothing

-- an id for which the session needs no change
abbrev pub fixed_id : ℕ → NamedId
fixed_id id = record { id = id; change = None }

-- the id of a name as by REGISTER; a filter that is no name, since it has wildcards, has id 0
abbrev pub id_in_full : Session → Option (List ℕ) → Option NamedId
id_in_full s None = Some (fixed_id 0)
id_in_full s (Some name) = id_for s name

-- the topic id that answers for a filter: as above if the field has the filter in full, the
-- predefined id, and 0 for a short name
abbrev pub id_asked : Session → TopicIdType → List ℕ → List ℕ → Option NamedId
id_asked s kinds.Normal field filter = id_in_full s (name_asked filter)
id_asked s kinds.Predefined field filter = Some (fixed_id (id_in field))
id_asked s kinds.Short field filter = Some (fixed_id 0)
id_asked s kinds.Reserved field filter = Some (fixed_id 0)

-- the change of the session, if the filter is new or had another quality of service
abbrev pub subscribe_change : List ℕ → ℕ → Option ℕ → Option SessionOp
subscribe_change filter qos None = Some (Subscribe filter qos)
subscribe_change filter qos (Some before) =
    if before == qos then None else Some (Subscribe filter qos)

-- SUBSCRIBE that is accepted: SUBACK has the topic id, and the session has the filter
abbrev pub granted : Addr → Session → ℕ → ℕ → List ℕ → ℕ → NamedId → Drafted
granted a s bits msg_id filter qos named =
    sent a (suback bits named.id msg_id 0)
    (changed_if (subscribe_change filter qos (filter_qos filter s.subscriptions))
    (changed_if named.change nothing))

-- SUBSCRIBE by its topic id, of a client for which so many messages wait: it is handed what is
-- retained; code 1, congestion, if no id is free
abbrev pub subscribed : Seen → ℕ → Addr → Session → ℕ → ℕ → List ℕ → ℕ → Option NamedId → Drafted
subscribed seen waiting a s bits msg_id filter qos None = refused a bits msg_id 1
subscribed seen waiting a s bits msg_id filter qos (Some named) =
    hand_all (handed_for seen filter qos waiting) (granted a s bits msg_id filter qos named)

-- SUBSCRIBE to a filter; code 1, congestion, if it would be the 257th
abbrev pub subscribe_to : Seen → ℕ → Addr → Session → ℕ → ℕ → List ℕ → List ℕ → ℕ → Drafted
subscribe_to seen waiting a s bits msg_id field filter qos =
    if filter_has_no_room filter s.subscriptions then refused a bits msg_id 1
    else subscribed seen waiting a s bits msg_id filter qos (id_asked s (kind_of bits) field filter)

-- SUBSCRIBE to the filter that its topic field asks for, or refused by the code that the field
-- gives
abbrev pub subscribe_asked : Seen → ℕ → Addr → Session → ℕ → ℕ → List ℕ → Asked → ℕ → Drafted
subscribe_asked seen waiting a s bits msg_id field (Refused code) qos = refused a bits msg_id code
subscribe_asked seen waiting a s bits msg_id field (Topics filter) qos =
    subscribe_to seen waiting a s bits msg_id field filter qos

-- SUBSCRIBE at a quality of service; code 3, not supported, if its bits are 11
abbrev pub subscribe_at : Entries → Seen → ℕ → Addr → Session → ℕ → ℕ → List ℕ → Option ℕ → Drafted
subscribe_at predefined seen waiting a s bits msg_id field None = refused a bits msg_id 3
subscribe_at predefined seen waiting a s bits msg_id field (Some qos) =
    subscribe_asked seen waiting a s bits msg_id field
    (topics_asked predefined (kind_of bits) field) qos

-- the draft of SUBSCRIBE of a client for which so many messages wait (6.9)
abbrev pub subscribe : Entries → Seen → ℕ → Addr → Session → ℕ → ℕ → List ℕ → Drafted
subscribe predefined seen waiting a s bits msg_id field =
    subscribe_at predefined seen waiting a s bits msg_id field (qos_asked (qos_of bits))

-- the change of the session, if it has the filter
abbrev pub unsubscribe_change : Session → List ℕ → Option SessionOp
unsubscribe_change s filter =
    if is_some (filter_qos filter s.subscriptions) then Some (Unsubscribe filter) else None

-- the change of UNSUBSCRIBE, if its topic field asks for a filter that the session has
abbrev pub unsubscribe_asked : Session → Asked → Option SessionOp
unsubscribe_asked s (Refused code) = None
unsubscribe_asked s (Topics filter) = unsubscribe_change s filter

-- the draft of UNSUBSCRIBE; it is always acknowledged, and messages that wait go on waiting (6.9)
abbrev pub unsubscribe : Entries → Addr → Session → ℕ → ℕ → List ℕ → Drafted
unsubscribe predefined a s bits msg_id field =
    sent a (frames.UnsubAck msg_id)
    (changed_if (unsubscribe_asked s (topics_asked predefined (kind_of bits) field)) nothing)
