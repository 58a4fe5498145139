-- What a session's tables are printed as, a line for each entry.
use Rattle.std.specs.Prelude.{ℕ, List, [], Option, Some, None, Bool, true, false, codes, flat_map}
use Rattle.std.specs.Fmt.{decimal}
use Rattle.sn_session.specs.declared.session.Session.{Session}
use Rattle.sn_tables.specs.declared.topics.TopicEntry.{TopicEntry}
use Rattle.sn_tables.specs.declared.subscriptions.Subscription.{Subscription}
use Rattle.sn_session.specs.declared.will.Will.{Will}
use Rattle.sn_session.specs.declared.outbound.Outbound.{Outbound}
use Rattle.sn_session.specs.declared.outbound.Phase.{Phase}
use Rattle.sn_session.specs.declared.outbound.Phase.TheVariants as phases
use Rattle.gw_play.specs.Texts.{◌▹◌, hex_text, line_end}

-- whether the client knows the topic id
abbrev pub known_word : Bool → List ℕ
known_word true = codes "known"
known_word false = codes "new"

-- the line of a topic id and its name
abbrev pub topic_line : TopicEntry → List ℕ
topic_line entry =
    codes "  topic " ▹ decimal entry.id ▹ codes " " ▹ hex_text entry.name ▹ codes " "
    ▹ known_word entry.known ▹ line_end

-- the line of a subscription
abbrev pub subscription_line : Subscription → List ℕ
subscription_line subscription =
    codes "  sub " ▹ hex_text subscription.filter ▹ codes " " ▹ decimal subscription.qos ▹ line_end

-- the line of a will
abbrev pub will_line : Will → List ℕ
will_line will =
    codes "  will " ▹ decimal will.qos ▹ codes " " ▹ hex_text will.topic ▹ codes " "
    ▹ hex_text will.message ▹ line_end

-- the line of a will, if there is one
abbrev pub will_text : Option Will → List ℕ
will_text None = []
will_text (Some will) = will_line will

-- the line of the id of a message that was received and is not released
abbrev pub received_line : ℕ → List ℕ
received_line id = codes "  received " ▹ decimal id ▹ line_end

-- the word for the phase of an exchange
abbrev pub phase_word : Phase → List ℕ
phase_word phases.Registering = codes "registering"
phase_word phases.Published = codes "published"
phase_word phases.Released = codes "released"

-- the line of the exchange that the gateway has begun
abbrev pub outbound_line : Outbound → List ℕ
outbound_line exchange =
    codes "  outbound " ▹ decimal exchange.origin ▹ codes "." ▹ decimal exchange.seq ▹ codes " "
    ▹ decimal exchange.msg_id
    ▹ codes " " ▹ phase_word exchange.phase ▹ line_end

-- the line of the exchange, if one has begun
abbrev pub outbound_text : Option Outbound → List ℕ
outbound_text None = []
outbound_text (Some exchange) = outbound_line exchange

-- the tables of a session, each in its order
abbrev pub tables_text : Session → List ℕ
tables_text s =
    flat_map topic_line s.topics ▹ flat_map subscription_line s.subscriptions ▹ will_text s.will
    ▹ flat_map received_line s.received ▹ outbound_text s.outbound
