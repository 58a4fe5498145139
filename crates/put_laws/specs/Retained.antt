-- What a gateway retains of a publication, and what it hands to a client that subscribes
-- (MQTT-SN 1.2 sections 6.6, 6.9 and 6.10).
use Rattle.std.specs.Prelude.{ℕ, Bool, ◌||◌, if◌then◌else◌, List, [], map, Option, Some, None}
use Rattle.sn_topic.specs.Table.{Entries}
use Rattle.sn_session.specs.declared.session.Session.{Session}
use Rattle.sn_session.specs.Session.{empty_session}
use Rattle.sn_tables.specs.Received.{is_received, id_has_no_room}
use Rattle.sn_tables.specs.Subscriptions.{filter_has_no_room}
use Rattle.sn_frame.specs.declared.flags.Qos.{Qos}
use Rattle.sn_frame.specs.declared.flags.Qos.TheVariants as levels
use Rattle.sn_frame.specs.declared.frame.Frame.{Frame}
use Rattle.sn_frame.specs.declared.frame.Frame.TheVariants as frames
use Rattle.sn_frame.specs.FlagBits.{qos_of, kind_of}
use Rattle.sn_local.specs.declared.config.Addr.{Addr}
use Rattle.sn_local.specs.Bindings.{client_at}
use Rattle.sn_local.specs.Locals.{Local}
use Rattle.sn_local.specs.Seen.{Seen}
use Rattle.sn_plan.specs.declared.draft.NewPut.{NewPut}
use Rattle.sn_plan.specs.declared.draft.Posted.{Posted}
use Rattle.sn_plan.specs.declared.asking.Asked.{Asked}
use Rattle.sn_plan.specs.declared.asking.Asked.TheVariants as askings
use Rattle.sn_plan.specs.Asking.{qos_asked, retain_asked, topics_asked}
use Rattle.sn_plan.specs.Bound.{session_of}
use Rattle.sn_plan.specs.Numbering.{handed_to}
use Rattle.sn_subscribe.specs.declared.registration.NamedId.{NamedId}
use Rattle.sn_subscribe.specs.Handing.{waiting_for, handed_for}
use Rattle.sn_subscribe.specs.Subscription.{id_asked}
use Rattle.sn_publish.specs.declared.meaning.Meant.{Meant}
use Rattle.sn_publish.specs.declared.meaning.Meant.TheVariants.{Topic, Refused}
use Rattle.sn_publish.specs.Publishing.{publication_meant}
use Rattle.sn_publish.specs.Retaining.{retained_of}
use Rattle.sn_tick.specs.declared.due.Due.{Due}
use Rattle.sn_tick.specs.declared.due.Due.TheVariants.{Loss}
use Rattle.sn_tick.specs.Due.{first_due}
use Rattle.sn_tick.specs.Ticking.{may_advertise, will_retained}

-- ---- what is retained

-- what is retained of a publication, if it is about a topic and not too long
abbrev pub kept_meant : Seen → Bool → ℕ → List ℕ → Meant → Option Posted
kept_meant seen asked qos body (Refused code) = None
kept_meant seen asked qos body (Topic name) = retained_of seen asked name qos body

-- nothing if the id was received and is not released, or there is no room for it
abbrev pub kept_new : Session → ℕ → Option Posted → Option Posted
kept_new s msg_id posted =
    if is_received msg_id s.received || id_has_no_room msg_id s.received then None else posted

-- what is retained of a PUBLISH, by its quality of service; -1 counts as 0
abbrev pub kept_at : Seen → Bool → Session → ℕ → List ℕ → Qos → Meant → Option Posted
kept_at seen asked s msg_id body levels.Zero meant = kept_meant seen asked 0 body meant
kept_at seen asked s msg_id body levels.One meant = kept_meant seen asked 1 body meant
kept_at seen asked s msg_id body levels.Two meant =
    kept_new s msg_id (kept_meant seen asked 2 body meant)
kept_at seen asked s msg_id body levels.MinusOne meant = kept_meant seen asked 0 body meant

-- what is retained by the client that is bound; nothing if there is no such client
abbrev pub kept_bound : Entries → Seen → Option (List ℕ) → ℕ → ℕ → ℕ → List ℕ → Option Posted
kept_bound predefined seen None bits topic msg_id body = None
kept_bound predefined seen (Some c) bits topic msg_id body =
    kept_at seen (retain_asked bits) (session_of seen c) msg_id body (qos_of bits)
    (publication_meant predefined (session_of seen c) bits topic body)

-- at quality of service -1 no client has to be bound
abbrev pub kept_by_level : Entries → Seen → Option (List ℕ) → ℕ → ℕ → ℕ → List ℕ → Qos
    → Option Posted
kept_by_level predefined seen bound bits topic msg_id body levels.MinusOne =
    kept_meant seen (retain_asked bits) 0 body
    (publication_meant predefined empty_session bits topic body)
kept_by_level predefined seen bound bits topic msg_id body level =
    kept_bound predefined seen bound bits topic msg_id body

-- What a frame retains. A PUBLISH that has Retain set, and makes its messages, retains its topic,
-- quality of service and body, if the topic has a place. No other frame retains anything.
abbrev pub kept_of : Entries → Seen → Local → Addr → Frame → Option Posted
kept_of predefined seen local a (frames.Publish flags topic msg_id body) =
    kept_by_level predefined seen (client_at a local.bindings) flags.bits topic msg_id body
    (qos_of flags.bits)
kept_of predefined seen local a frame = None

-- what is retained if this is due with the client: its will, if it is lost, and that asks for it
abbrev pub kept_lost : Seen → List ℕ → Due → Option Posted
kept_lost seen c Loss = will_retained seen (session_of seen c).will
kept_lost seen c due = None

-- what is retained by what is due
abbrev pub kept_due : Seen → Option (List ℕ × Due) → Option Posted
kept_due seen None = None
kept_due seen (Some found) = kept_lost seen found.0 found.1

-- what a tick retains: the will of the first client with which something is due, if that client is
-- lost
abbrev pub kept_by_tick : ℕ → ℕ → List Addr → Seen → Local → ℕ → Option Posted
kept_by_tick g advertise field seen local now =
    if may_advertise advertise field now local.advertised then None
    else kept_due seen (first_due g seen local now seen.all)

-- ---- what is handed

-- what a subscriber to the filter is handed; nothing if no topic id is left for it
abbrev pub handed_with : Seen → ℕ → List ℕ → ℕ → Option NamedId → List Posted
handed_with seen waiting filter qos None = []
handed_with seen waiting filter qos (Some named) = handed_for seen filter qos waiting

-- nothing if the session has no room for the filter
abbrev pub handed_asked : Seen → ℕ → Session → ℕ → List ℕ → Asked → ℕ → List Posted
handed_asked seen waiting s bits field (askings.Refused code) qos = []
handed_asked seen waiting s bits field (askings.Topics filter) qos =
    if filter_has_no_room filter s.subscriptions then []
    else handed_with seen waiting filter qos (id_asked s (kind_of bits) field filter)

-- nothing if the bits of the quality of service are 11
abbrev pub handed_at : Entries → Seen → ℕ → Session → ℕ → List ℕ → Option ℕ → List Posted
handed_at predefined seen waiting s bits field None = []
handed_at predefined seen waiting s bits field (Some qos) =
    handed_asked seen waiting s bits field (topics_asked predefined (kind_of bits) field) qos

-- the messages that the client that is bound is handed; none without one
abbrev pub handed_bound : Entries → Seen → Option (List ℕ) → ℕ → List ℕ → List NewPut
handed_bound predefined seen None bits field = []
handed_bound predefined seen (Some c) bits field =
    map (handed_to c)
    (handed_at predefined seen (waiting_for seen c) (session_of seen c) bits field
    (qos_asked (qos_of bits)))

-- What a frame hands. A SUBSCRIBE that is accepted hands its client what is retained of the topics
-- that it asks for. No other frame hands anything.
abbrev pub handed_by : Entries → Seen → Local → Addr → Frame → List NewPut
handed_by predefined seen local a (frames.Subscribe flags msg_id field) =
    handed_bound predefined seen (client_at a local.bindings) flags.bits field
handed_by predefined seen local a frame = []
