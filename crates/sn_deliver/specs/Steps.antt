-- The step table: what a gateway does when a frame comes in.
use Rattle.std.specs.Prelude.{ℕ, Option}
use Rattle.sn_topic.specs.Table.{Entries}
use Rattle.sn_frame.specs.declared.frame.Frame.{Frame}
use Rattle.sn_frame.specs.declared.frame.Frame.TheVariants as frames
use Rattle.sn_local.specs.declared.config.Addr.{Addr}
use Rattle.sn_plan.specs.declared.plan.Plan.{Plan}
use Rattle.sn_plan.specs.declared.row.Row.{Row}
use Rattle.sn_plan.specs.Rows.{row_lasting}
use Rattle.sn_local.specs.Lifetimes.{expires_at}
use Rattle.sn_local.specs.Seen.{Seen}
use Rattle.sn_local.specs.Locals.{Local}
use Rattle.sn_flow.specs.Connection.{connect, disconnect}
use Rattle.sn_flow.specs.Wills.{will_topic, will_msg, will_topic_update, will_msg_update}
use Rattle.sn_subscribe.specs.TopicRows.{register, subscribe, unsubscribe}
use Rattle.sn_plan.specs.Others.{other}
use Rattle.sn_deliver.specs.Serving.{publish_in, pubrel_in, ack_in}
use Rattle.sn_deliver.specs.Waking.{wake}
use Rattle.sn_exchange.specs.Following.{deliver_next}

-- the row of a frame that comes to the gateway g from the address a at a moment
abbrev pub row_for : ℕ → Entries → Seen → Local → Addr → Frame → ℕ → Row
row_for g predefined seen local a (frames.Connect flags protocol duration client) now =
    connect seen local a flags.bits protocol duration client now
row_for g predefined seen local a (frames.WillTopic will) now = will_topic seen local a will now
row_for g predefined seen local a (frames.WillMsg message) now = will_msg seen local a message now
row_for g predefined seen local a (frames.Disconnect duration) now =
    disconnect seen local a duration now
row_for g predefined seen local a (frames.Register topic_id msg_id name) now =
    register seen local a msg_id name now
row_for g predefined seen local a (frames.Subscribe flags msg_id topic) now =
    subscribe predefined seen local a flags.bits msg_id topic now
row_for g predefined seen local a (frames.Unsubscribe flags msg_id topic) now =
    unsubscribe predefined seen local a flags.bits msg_id topic now
row_for g predefined seen local a (frames.WillTopicUpd will) now =
    will_topic_update local a will now
row_for g predefined seen local a (frames.WillMsgUpd message) now =
    will_msg_update seen local a message now
row_for g predefined seen local a (frames.Publish flags topic msg_id body) now =
    publish_in predefined seen local a flags.bits topic msg_id body now
row_for g predefined seen local a (frames.PubRel msg_id) now = pubrel_in seen local a msg_id now
row_for g predefined seen local a (frames.PubAck topic_id msg_id code) now =
    ack_in predefined seen local a (frames.PubAck topic_id msg_id code) now
row_for g predefined seen local a (frames.PubRec msg_id) now =
    ack_in predefined seen local a (frames.PubRec msg_id) now
row_for g predefined seen local a (frames.PubComp msg_id) now =
    ack_in predefined seen local a (frames.PubComp msg_id) now
row_for g predefined seen local a (frames.RegAck topic_id msg_id code) now =
    ack_in predefined seen local a (frames.RegAck topic_id msg_id code) now
row_for g predefined seen local a (frames.PingReq client) now = wake g seen local a client now
row_for g predefined seen local a frame now = other g local a frame now

-- the plan of a frame: its row, and what follows it; none if it needs a number after the last. Each
-- message that it makes has the moment at which the lifetime is over, if there is one.
unfoldable pub step : ℕ → ℕ → Entries → Seen → Local → Addr → Frame → ℕ → Option Plan
step g lifetime predefined seen local a frame now =
    deliver_next g predefined seen a now
    (row_lasting (expires_at lifetime now) (row_for g predefined seen local a frame now))
