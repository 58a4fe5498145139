-- What a gateway puts for a publication (MQTT-SN 1.2 sections 6.6, 6.8 and 6.10).
use Rattle.std.specs.Prelude.{◌≡◌, ℕ, true, ◌||◌, ◌⊎◌, if◌then◌else◌, List, [], Option, Some, None, Contains}
use Rattle.sn_topic.specs.Table.{Entries}
use Rattle.sn_session.specs.declared.session.Session.{Session}
use Rattle.sn_session.specs.Session.{empty_session}
use Rattle.sn_tables.specs.Received.{is_received, id_has_no_room}
use Rattle.sn_frame.specs.declared.flags.Qos.{Qos}
use Rattle.sn_frame.specs.declared.flags.Qos.TheVariants as levels
use Rattle.sn_frame.specs.declared.frame.Frame.{Frame}
use Rattle.sn_frame.specs.declared.frame.Frame.TheVariants as frames
use Rattle.sn_frame.specs.FlagBits.{qos_of}
use Rattle.sn_frame.specs.Grammar.{spelling}
use Rattle.rep_op.specs.declared.op.Op.{Op}
use Rattle.rep_op.specs.declared.op.Op.TheVariants.{Put as OfPut}
use Rattle.rep_model.specs.Views.{pending_at}
use Rattle.sn_local.specs.declared.config.Addr.{Addr}
use Rattle.sn_local.specs.declared.config.Send.{Send}
use Rattle.sn_local.specs.Bindings.{client_at}
use Rattle.sn_local.specs.Locals.{Local}
use Rattle.sn_local.specs.Seen.{Seen, seen_of}
use Rattle.sn_plan.specs.declared.draft.NewPut.{NewPut}
use Rattle.sn_plan.specs.declared.plan.Plan.{Plan}
use Rattle.sn_plan.specs.Bound.{session_of}
use Rattle.sn_deliver.specs.Steps.{step}
use Rattle.sn_publish.specs.declared.meaning.Meant.{Meant}
use Rattle.sn_publish.specs.declared.meaning.Meant.TheVariants.{Topic, Refused}
use Rattle.sn_publish.specs.Publishing.{publication_meant}
use Rattle.sn_publish.specs.Recipients.{qos_for, puts_for}
use Rattle.sn_tick.specs.declared.due.Due.{Due}
use Rattle.sn_tick.specs.declared.due.Due.TheVariants.{Loss}
use Rattle.sn_tick.specs.Due.{first_due}
use Rattle.sn_tick.specs.Ticking.{may_advertise, will_puts, tick}

-- The message is for one of these clients, a recipient of a publication to this topic with this
-- body that comes at this quality of service. It has the quality of service at which that client
-- gets it.
abbrev pub IsAmongRecipients : Seen → List (List ℕ) → List ℕ → ℕ → List ℕ → NewPut → Type 0
IsAmongRecipients seen clients topic qos body p =
    Contains clients p.client × (qos_for topic qos (seen.of p.client) ≡ Some p.qos)
    × (p.topic ≡ topic) × (p.body ≡ body)

-- a message for each recipient, if the publication is about a topic and not too long
abbrev pub puts_meant : Seen → ℕ → List ℕ → Meant → List NewPut
puts_meant seen qos body (Refused code) = []
puts_meant seen qos body (Topic name) = puts_for seen name qos body

-- no message if the id was received and is not released, for the recipients have it; none if there
-- is no room for the id
abbrev pub puts_new : Session → ℕ → List NewPut → List NewPut
puts_new s msg_id puts =
    if is_received msg_id s.received || id_has_no_room msg_id s.received then [] else puts

-- the messages that a PUBLISH makes, by its quality of service; -1 counts as 0
abbrev pub puts_at : Seen → Session → ℕ → List ℕ → Qos → Meant → List NewPut
puts_at seen s msg_id body levels.Zero meant = puts_meant seen 0 body meant
puts_at seen s msg_id body levels.One meant = puts_meant seen 1 body meant
puts_at seen s msg_id body levels.Two meant =
    puts_new s msg_id (puts_meant seen 2 body meant)
puts_at seen s msg_id body levels.MinusOne meant = puts_meant seen 0 body meant

-- the messages by the client that is bound; none if there is no such client
abbrev pub puts_bound : Entries → Seen → Option (List ℕ) → ℕ → ℕ → ℕ → List ℕ → List NewPut
puts_bound predefined seen None bits topic msg_id body = []
puts_bound predefined seen (Some c) bits topic msg_id body =
    puts_at seen (session_of seen c) msg_id body (qos_of bits)
    (publication_meant predefined (session_of seen c) bits topic body)

-- at quality of service -1 no client has to be bound
abbrev pub puts_by_level : Entries → Seen → Option (List ℕ) → ℕ → ℕ → ℕ → List ℕ → Qos
    → List NewPut
puts_by_level predefined seen bound bits topic msg_id body levels.MinusOne =
    puts_meant seen 0 body (publication_meant predefined empty_session bits topic body)
puts_by_level predefined seen bound bits topic msg_id body level =
    puts_bound predefined seen bound bits topic msg_id body

-- The messages that a PUBLISH from this address makes: one for each recipient. It makes none if its
-- topic field stands for no topic, or if its body has more than 4,096 octets. It makes none without
-- a bound client, except at quality of service -1. At 2 it makes those that `puts_new` leaves.
abbrev pub puts_by : Entries → Seen → Local → Addr → ℕ → ℕ → ℕ → List ℕ → List NewPut
puts_by predefined seen local a bits topic msg_id body =
    puts_by_level predefined seen (client_at a local.bindings) bits topic msg_id body (qos_of bits)

-- the messages that a frame makes: a PUBLISH those of `puts_by`, and no other frame any
abbrev pub puts_of : Entries → Seen → Local → Addr → Frame → List NewPut
puts_of predefined seen local a (frames.Publish flags topic msg_id body) =
    puts_by predefined seen local a flags.bits topic msg_id body
puts_of predefined seen local a frame = []

-- the messages that are made if this is due with the client: those of its will if it is lost, else
-- none
abbrev pub puts_lost : Seen → List ℕ → Due → List NewPut
puts_lost seen c Loss = will_puts seen c (session_of seen c).will
puts_lost seen c due = []

-- the messages that are made for what is due: those of `puts_lost`, and none if nothing is due
abbrev pub puts_due : Seen → Option (List ℕ × Due) → List NewPut
puts_due seen None = []
puts_due seen (Some found) = puts_lost seen found.0 found.1

-- The messages that a tick makes: those of the will of the first client with which something is
-- due, if that client is lost. A tick that sends ADVERTISE makes none.
abbrev pub puts_by_tick : ℕ → ℕ → List Addr → Seen → Local → ℕ → List NewPut
puts_by_tick g advertise field seen local now =
    if may_advertise advertise field now local.advertised then []
    else puts_due seen (first_due g seen local now seen.all)

-- this frame goes to the address
abbrev pub IsReplyTo : Addr → Frame → List Send → Type 0
IsReplyTo a answer sends = Contains sends (record { to = a; bytes = spelling answer })

-- the client that is bound to the address publishes to a topic, and these are the messages for the
-- recipients at this quality of service
abbrev pub IsPublished : Entries → Seen → Local → Addr → ℕ → ℕ → ℕ → List ℕ → List NewPut → Type 0
IsPublished predefined seen local a bits topic qos body puts =
    (c : List ℕ) × (name : List ℕ) × (client_at a local.bindings ≡ Some c)
    × (publication_meant predefined (session_of seen c) bits topic body ≡ Topic name)
    × (puts ≡ puts_for seen name qos body)

-- the session of the client that is bound to the address has received this message id and not
-- released it
abbrev pub HasReceived : Seen → Local → Addr → ℕ → Type 0
HasReceived seen local a msg_id =
    (c : List ℕ) × (client_at a local.bindings ≡ Some c)
    × (is_received msg_id (session_of seen c).received ≡ true)

-- the plan is that of a frame, or of a tick, of the gateway g that has taken the set
abbrev pub IsOfGateway : ℕ → List Op → Plan → Type 0
IsOfGateway g S plan =
    ((lifetime : ℕ) × (predefined : Entries) × (local : Local) × (a : Addr) × (frame : Frame)
    × (now : ℕ) × (step g lifetime predefined (seen_of S) local a frame now ≡ Some plan))
    ⊎ ((lifetime : ℕ) × (advertise : ℕ) × (field : List Addr) × (predefined : Entries)
    × (local : Local) × (now : ℕ)
    × (tick g lifetime advertise field predefined (seen_of S) local now ≡ Some plan))

-- a message of these operations waits for its client in the set
abbrev pub IsWaiting : List Op → Op → Type 0
IsWaiting S (OfPut c put) = pending_at c S (put.seq, put.origin) ≡ Some put
IsWaiting S op = Unit {0}
