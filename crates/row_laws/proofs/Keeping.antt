-- What these rows leave alone: they acknowledge no message, put none, retain nothing, and change nothing but the session. All but SUBSCRIBE hand nothing.
use Rattle.std.proofs.Common.{ℕ, Bool, true, false, if◌then◌else◌, List, Option, Some, None, refl}
use Rattle.sn_topic.specs.Table.{Entries}
use Rattle.sn_topic.specs.Topics.{name_asked}
use Rattle.sn_session.specs.declared.session.Session.{Session}
use Rattle.sn_session.specs.declared.change.SessionOp.{SessionOp}
use Rattle.sn_session.specs.declared.will.WillTopic.{WillTopic}
use Rattle.sn_frame.specs.declared.frame.Frame.{Frame}
use Rattle.sn_frame.specs.declared.frame.Frame.TheVariants as frames
use Rattle.sn_frame.specs.declared.frame.Will.{Will}
use Rattle.sn_frame.specs.FlagBits.{qos_of, kind_of}
use Rattle.sn_tables.specs.Subscriptions.{filter_qos, filter_has_no_room}
use Rattle.sn_local.specs.declared.config.Addr.{Addr}
use Rattle.sn_local.specs.Seen.{Seen}
use Rattle.sn_plan.specs.declared.asking.Asked.{Asked}
use Rattle.sn_plan.specs.declared.asking.Asked.TheVariants.{Topics, Refused}
use Rattle.sn_subscribe.specs.declared.registration.NamedId.{NamedId}
use Rattle.sn_plan.specs.Asking.{qos_asked, topics_asked}
use Rattle.sn_plan.specs.Drafts.{Drafted, nothing, changed_if, sent}
use Rattle.sn_subscribe.specs.Registration.{id_for, registered, register_name, register}
use Rattle.sn_subscribe.specs.Subscription.{refused, suback, subscribe_change, subscribed, subscribe_asked, subscribe_at, subscribe, id_asked, unsubscribe_asked, unsubscribe}
use Rattle.row_laws.specs.RequestLaws.{ChangesSessionOnly, HandsNothing}
use Rattle.sn_flow.specs.WillUpdate.{topic_asked, topic_set, has_no_place, will_topic_update, will_msg_update}

of_changed_if : (change : Option SessionOp) (d : Drafted) → HandsNothing d → HandsNothing (changed_if change d)
of_changed_if None d h = h
of_changed_if (Some change) d h = record { leaves = record { acks = h.leaves.acks; puts = h.leaves.puts; retain = h.leaves.retain; local = h.leaves.local }; handed = h.handed }

of_sent : (a : Addr) (frame : Frame) (d : Drafted) → HandsNothing d → HandsNothing (sent a frame d)
of_sent a frame d h = record { leaves = record { acks = h.leaves.acks; puts = h.leaves.puts; retain = h.leaves.retain; local = h.leaves.local }; handed = h.handed }

of_nothing : HandsNothing nothing
of_nothing = record { leaves = record { acks = refl; puts = refl; retain = refl; local = refl }; handed = refl }

of_registered : (a : Addr) (msg_id : ℕ) (named : Option NamedId) → HandsNothing (registered a msg_id named)
of_registered a msg_id None = of_sent a (frames.RegAck 0 msg_id 1) nothing of_nothing
of_registered a msg_id (Some named) = of_sent a (frames.RegAck named.id msg_id 0) _ (of_changed_if named.change nothing of_nothing)

of_name : (a : Addr) (s : Session) (msg_id : ℕ) (name : Option (List ℕ)) → HandsNothing (register_name a s msg_id name)
of_name a s msg_id None = of_sent a (frames.RegAck 0 msg_id 3) nothing of_nothing
of_name a s msg_id (Some name) = of_registered a msg_id (id_for s name)

pub of_register : (a : Addr) (s : Session) (msg_id : ℕ) (name : List ℕ) → HandsNothing (register a s msg_id name)
of_register a s msg_id name = of_name a s msg_id (name_asked name)

module _ (seen : Seen) (waiting : ℕ) (a : Addr) (s : Session) (bits msg_id : ℕ) where
  of_refused : (code : ℕ) → ChangesSessionOnly (refused a bits msg_id code)
  of_refused code = record { acks = refl; puts = refl; retain = refl; local = refl }

  of_subscribed : (filter : List ℕ) (qos : ℕ) (named : Option NamedId) → ChangesSessionOnly (subscribed seen waiting a s bits msg_id filter qos named)
  of_subscribed filter qos None = of_refused 1
  of_subscribed filter qos (Some named) =
      let granted = of_sent a (suback bits named.id msg_id 0) _ (of_changed_if (subscribe_change filter qos (filter_qos filter s.subscriptions)) _ (of_changed_if named.change nothing of_nothing)) in
      record { acks = granted.leaves.acks; puts = granted.leaves.puts; retain = granted.leaves.retain; local = granted.leaves.local }

  of_either : (test : Bool) (d e : Drafted) → ChangesSessionOnly d → ChangesSessionOnly e → ChangesSessionOnly (if test then d else e)
  of_either true d e h k = h
  of_either false d e h k = k

  of_asked : (field : List ℕ) (asked : Asked) (qos : ℕ) → ChangesSessionOnly (subscribe_asked seen waiting a s bits msg_id field asked qos)
  of_asked field (Refused code) qos = of_refused code
  of_asked field (Topics filter) qos =
      of_either (filter_has_no_room filter s.subscriptions) _ _ (of_refused 1) (of_subscribed filter qos (id_asked s (kind_of bits) field filter))

  of_quality : (p : Entries) (field : List ℕ) (qos : Option ℕ) → ChangesSessionOnly (subscribe_at p seen waiting a s bits msg_id field qos)
  of_quality p field None = of_refused 3
  of_quality p field (Some qos) = of_asked field (topics_asked p (kind_of bits) field) qos

pub of_subscribe : (p : Entries) (seen : Seen) (waiting : ℕ) (a : Addr) (s : Session) (bits msg_id : ℕ) (field : List ℕ) → ChangesSessionOnly (subscribe p seen waiting a s bits msg_id field)
of_subscribe p seen waiting a s bits msg_id field = of_quality seen waiting a s bits msg_id p field (qos_asked (qos_of bits))

pub of_unsubscribe : (p : Entries) (a : Addr) (s : Session) (bits msg_id : ℕ) (field : List ℕ) → HandsNothing (unsubscribe p a s bits msg_id field)
of_unsubscribe p a s bits msg_id field = of_sent a (frames.UnsubAck msg_id) _ (of_changed_if (unsubscribe_asked s (topics_asked p (kind_of bits) field)) nothing of_nothing)

of_topic : (a : Addr) (topic : Option WillTopic) → HandsNothing (topic_set a topic)
of_topic a None = record { leaves = record { acks = refl; puts = refl; retain = refl; local = refl }; handed = refl }
of_topic a (Some topic) = record { leaves = record { acks = refl; puts = refl; retain = refl; local = refl }; handed = refl }

pub of_will_topic_update : (a : Addr) (will : Option Will) → HandsNothing (will_topic_update a will)
of_will_topic_update a None = record { leaves = record { acks = refl; puts = refl; retain = refl; local = refl }; handed = refl }
of_will_topic_update a (Some will) = of_topic a (topic_asked will)

of_both : (test : Bool) (d e : Drafted) → HandsNothing d → HandsNothing e → HandsNothing (if test then d else e)
of_both true d e h k = h
of_both false d e h k = k

pub of_will_msg_update : (a : Addr) (s : Session) (message : List ℕ) → HandsNothing (will_msg_update a s message)
of_will_msg_update a s message =
    of_both (has_no_place s message) _ _
    (record { leaves = record { acks = refl; puts = refl; retain = refl; local = refl }; handed = refl })
    (record { leaves = record { acks = refl; puts = refl; retain = refl; local = refl }; handed = refl })
