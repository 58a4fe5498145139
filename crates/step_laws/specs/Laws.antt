-- What holds of publications and of time, whatever the sessions and the messages.
use Rattle.std.specs.Prelude.{◌≡◌, ℕ, ◌+◌, ◌==◌, Bool, true, false, ◌⊎◌, List, [], ◌∷◌, ◌++◌, Option, Some, None, Contains}
use Rattle.std.specs.List.{AllByRecursion}
use Rattle.sn_topic.specs.Table.{Entries}
use Rattle.sn_frame.specs.FlagBits.{kind_bits}
use Rattle.sn_session.specs.declared.outbound.Phase.TheVariants.{Published}
use Rattle.sn_session.specs.declared.session.Session.{Session}
use Rattle.sn_session.specs.declared.change.SessionOp.{SessionOp}
use Rattle.sn_session.specs.declared.change.SessionOp.TheVariants.{Take, Released, Outbound as OutboundSet}
use Rattle.sn_session.specs.Session.{applied}
use Rattle.sn_tables.specs.Received.{is_received, id_has_no_room}
use Rattle.sn_frame.specs.declared.frame.Frame.TheVariants as frames
use Rattle.sn_frame.specs.Grammar.{spelling}
use Rattle.rep_op.specs.declared.op.Put.{Put}
use Rattle.rep_op.specs.Orders.{name_of}
use Rattle.rep_model.specs.Moments.{is_past}
use Rattle.sn_local.specs.declared.config.Addr.{Addr}
use Rattle.sn_local.specs.declared.config.Send.{Send}
use Rattle.sn_local.specs.declared.local.Timer.{Timer}
use Rattle.sn_plan.specs.declared.plan.Plan.{Plan}
use Rattle.sn_plan.specs.declared.row.Follow.{Follow}
use Rattle.sn_plan.specs.declared.row.Follow.TheVariants as follows
use Rattle.sn_plan.specs.Drafts.{Drafted, sent, session_after}
use Rattle.sn_plan.specs.Bound.{session_of}
use Rattle.sn_local.specs.Seen.{Seen}
use Rattle.sn_plan.specs.Rows.{row_of}
use Rattle.sn_local.specs.Bindings.{address_of}
use Rattle.sn_local.specs.Timers.{timer_of, timers_after}
use Rattle.sn_local.specs.Locals.{Local}
use Rattle.sn_exchange.specs.declared.form.Form.{Form}
use Rattle.sn_exchange.specs.declared.peer.Peer.{Peer}
use Rattle.sn_exchange.specs.Forms.{form_of, form_again, publication, qos_bits, retain_bit}
use Rattle.sn_session.specs.declared.outbound.Outbound.{Outbound as Exchange}
use Rattle.sn_tick.specs.declared.due.Due.{Due}
use Rattle.sn_tick.specs.declared.due.Due.TheVariants.{Expiry, Loss, Retry, Delivery}
use Rattle.sn_exchange.specs.Exchanges.{same_name, left, put_left, message_of, open_exchange}
use Rattle.sn_exchange.specs.Delivery.{id_to_tell, deliver, then_deliver}
use Rattle.sn_exchange.specs.Resending.{resend}
use Rattle.sn_publish.specs.Publishing.{publish_at_2}
use Rattle.sn_tick.specs.Expiry.{under_way, is_under_way, is_expired, is_far_after, has_expired, expire_all}
use Rattle.sn_tick.specs.Due.{due_session, first_due}
use Rattle.sn_exchange.specs.Following.{followed_by, followed}
use Rattle.sn_tick.specs.Ticking.{may_advertise, lost, retry_row, tick}

-- the PUBLISH of a message at quality of service 0 is among these frames
abbrev pub IsSentAtZero : Entries → Peer → Session → Put → List Send → Type 0
IsSentAtZero predefined peer s put sends =
    (form : Form) × (form_of predefined s put.topic ≡ Some form)
    × Contains sends (record { to = peer.address; bytes = spelling (publication false put 0 form) })

-- a message that Delivery is done with: it is of quality of service 0 and was sent, or no id is
-- left for its topic
abbrev pub IsDoneWith : Entries → Peer → Session → Put → List Send → Type 0
IsDoneWith predefined peer s put sends =
    ((put.qos ≡ 0) × IsSentAtZero predefined peer s put sends)
    ⊎ ((form_of predefined s put.topic ≡ None) × (id_to_tell s put.topic ≡ None))

-- the name of a message among these that Delivery is done with
abbrev pub IsOfOneDone : Entries → Peer → Session → List Put → List Send → ℕ × ℕ → Type 0
IsOfOneDone predefined peer s pending sends name =
    (put : Put) × Contains pending put × (name ≡ name_of put)
    × IsDoneWith predefined peer s put sends

-- Delivery adds acknowledgements only of messages that it sends at quality of service 0, and of
-- those for whose topic no id is left
abbrev pub DeliveryKeeps : Type 0
DeliveryKeeps =
    (predefined : Entries) (peer : Peer) (s : Session) (pending : List Put) (d : Drafted)
    (name : ℕ × ℕ)
    → Contains (deliver predefined peer s pending d).acks name
    → Contains d.acks name
    ⊎ IsOfOneDone predefined peer s pending (deliver predefined peer s pending d).sends name

-- a change that ends that a message id is received: a session that is taken over as a whole, or its
-- release
abbrev pub ends_received : ℕ → SessionOp → Bool
ends_received id (Take taken) = true
ends_received id (Released other) = other == id
ends_received id change = false

-- Exactly once. The first publication at quality of service 2 records its message id. No change but
-- a Take and the release of the id ends that. While it lasts, a publication of the id makes no
-- message, and nothing is retained of it.
pub record PutsOnce : Type 0 where
  pub recorded : (seen : Seen) (asked : Bool) (a : Addr) (s : Session) (topic msg_id : ℕ)
      (body name : List ℕ)
      → is_received msg_id s.received ≡ false → id_has_no_room msg_id s.received ≡ false
      → is_received msg_id
      (session_after s (publish_at_2 seen asked a s topic msg_id body name)).received ≡ true
  pub stays : (s : Session) (change : SessionOp) (msg_id : ℕ) → ends_received msg_id change ≡ false
      → is_received msg_id s.received ≡ true → is_received msg_id (applied s change).received ≡ true
  pub repeated : (seen : Seen) (asked : Bool) (a : Addr) (s : Session) (topic msg_id : ℕ)
      (body name : List ℕ) → is_received msg_id s.received ≡ true
      → ((publish_at_2 seen asked a s topic msg_id body name).puts ≡ [])
      × ((publish_at_2 seen asked a s topic msg_id body name).retain ≡ None)

-- these changes are those before, or they first end the exchange that was open before
abbrev pub EndsFirst : List SessionOp → ℕ → List SessionOp → Type 0
EndsFirst before next_id after =
    (after ≡ before)
    ⊎ ((more : List SessionOp) × (after ≡ before ++ OutboundSet None next_id ∷ more))

-- One exchange at a time. While one is open, Delivery makes nothing and sends nothing. What follows
-- a row changes nothing of the session, or first ends that exchange, so that no other is begun
-- beside it.
pub record OneExchange : Type 0 where
  pub delivered : (predefined : Entries) (peer : Peer) (s : Session) (pending : List Put)
      (d : Drafted) (x : Exchange)
      → open_exchange (session_after s d) d.acks pending ≡ Some x
      → then_deliver predefined peer s pending d ≡ d
  pub followed : (predefined : Entries) (peer : Peer) (s : Session) (pending : List Put)
      (d : Drafted) (follow : Follow) (x : Exchange)
      → open_exchange (session_after s d) d.acks pending ≡ Some x
      → EndsFirst d.changes (session_after s d).next_id
      (followed_by predefined peer s pending d follow).changes

-- a PUBLISH that is sent again has DUP, and the message id of its exchange
abbrev pub ResentWithDup : Type 0
ResentWithDup =
    (predefined : Entries) (peer : Peer) (s : Session) (pending : List Put) (x : Exchange)
    (put : Put) (form : Form) (d : Drafted)
    → x.phase ≡ Published → put_left d.acks pending (message_of x) ≡ Some put
    → form_again predefined s put.topic ≡ Some form
    → (resend predefined peer s pending x d).sends
    ≡ (sent peer.address
    (frames.Publish (record {
      bits = 128 + qos_bits put.qos + retain_bit put.retain + kind_bits form.kind;
    }) form.topic x.msg_id put.body) d).sends

-- a plan that makes no operation and sends no frame
abbrev pub IsQuietPlan : Plan → Type 0
IsQuietPlan plan = (plan.ops ≡ []) × (plan.sends ≡ [])

-- a tick that finds nothing due makes nothing and sends nothing
abbrev pub TickIsQuiet : Type 0
TickIsQuiet =
    (g lifetime advertise : ℕ) (field : List Addr) (predefined : Entries) (seen : Seen)
    (local : Local) (now : ℕ)
    → may_advertise advertise field now local.advertised ≡ false
    → first_due g seen local now seen.all ≡ None
    → (plan : Plan) × (tick g lifetime advertise field predefined seen local now ≡ Some plan)
    × IsQuietPlan plan

-- messages of names that are all different, as those that wait for a client
abbrev pub AreNamedApart : List Put → Type 0
AreNamedApart [] = Unit {0}
AreNamedApart (put ∷ rest) =
    AllByRecursion (λ (other : Put). same_name (name_of put) (name_of other) ≡ false) rest
    × AreNamedApart rest

-- What is due with a client once a draft is carried out, if its address is then a. It goes by the
-- session and the timer that the draft leaves the client, and by the messages that it leaves
-- waiting.
abbrev pub due_after : ℕ → List ℕ → Session → List Put → List Timer → Option Addr → Drafted
    → Option Due
due_after now c s pending timers a d =
    due_session now (left d.acks pending) (timer_of c (timers_after timers d.local)) a
    (Some (session_after s d))

-- what a tick does with a client after what it did first, for a reason that the session gives: it
-- gives no expiry, of which `expire_all` says what a tick does
abbrev pub due_draft : Entries → Seen → ℕ → List ℕ → Drafted → Due → Drafted
due_draft predefined seen now c d Expiry = d
due_draft predefined seen now c d Loss = lost seen c (session_of seen c) d
due_draft predefined seen now c d (Retry a) =
    (followed predefined seen a now (retry_row now d c)).draft
due_draft predefined seen now c d (Delivery a) =
    (followed predefined seen a now (row_of follows.Delivery c d)).draft

-- What is due with a client by its session (its loss, one more try, Delivery) is settled when a
-- tick has done it. After that nothing is due with the client by its session at this moment,
-- whatever its address is then.
abbrev pub TickSettles : Type 0
TickSettles =
    (predefined : Entries) (seen : Seen) (now : ℕ) (c : List ℕ) (timers : List Timer)
    (a b : Option Addr) (d : Drafted) (reason : Due)
    → AreNamedApart (seen.of c).pending → d.changes ≡ [] → d.acks ≡ []
    → due_after now c (session_of seen c) (seen.of c).pending timers a d ≡ Some reason
    → due_after now c (session_of seen c) (seen.of c).pending timers b
    (due_draft predefined seen now c d reason) ≡ None

-- the name of a message among these that expires: its moment is there, and the client is not in the
-- middle of it
abbrev pub IsOfOneExpired : ℕ → List Put → Option Addr → Option Session → ℕ × ℕ → Type 0
IsOfOneExpired now pending a session name =
    (put : Put) × Contains pending put × (name ≡ name_of put) × (is_past now put ≡ true)
    × (is_under_way (under_way pending a session) put ≡ false)

-- what waits for a client after the acknowledgements of a tick by which messages of it expire
abbrev pub left_by_expiry : Seen → Local → ℕ → List ℕ → Drafted → List Put
left_by_expiry seen local now c d = left (expire_all seen local now c d).acks (seen.of c).pending

-- If messages of a client expire, all that are far before another one of their origin have expired
-- as well. An expiry acknowledges only messages whose moment is there, and none that the client is
-- in the middle of. It changes no session. After it no message of the client expires at this
-- moment, and what is due with the client by its session was due before.
pub record ExpirySettles : Type 0 where
  pub near : (seen : Seen) (local : Local) (now : ℕ) (c : List ℕ) (first put : Put)
      → has_expired now (seen.of c).pending (address_of c local.bindings) (seen.of c).session
      ≡ true
      → Contains (seen.of c).pending first → Contains (seen.of c).pending put
      → is_far_after first put ≡ true
      → is_expired now
      (under_way (seen.of c).pending (address_of c local.bindings) (seen.of c).session) first
      ≡ true
  pub only : (seen : Seen) (local : Local) (now : ℕ) (c : List ℕ) (d : Drafted) (name : ℕ × ℕ)
      → Contains (expire_all seen local now c d).acks name
      → Contains d.acks name
      ⊎ IsOfOneExpired now (seen.of c).pending (address_of c local.bindings) (seen.of c).session
      name
  pub unchanged : (seen : Seen) (local : Local) (now : ℕ) (c : List ℕ) (d : Drafted)
      → (expire_all seen local now c d).changes ≡ d.changes
  pub silent : (seen : Seen) (local : Local) (now : ℕ) (c : List ℕ) (d : Drafted)
      → (expire_all seen local now c d).sends ≡ d.sends
  pub settled : (seen : Seen) (local : Local) (now : ℕ) (c : List ℕ) (d : Drafted) → d.acks ≡ []
      → has_expired now (left_by_expiry seen local now c d) (address_of c local.bindings)
      (seen.of c).session ≡ false
  pub rests : (seen : Seen) (local : Local) (now : ℕ) (c : List ℕ) (d : Drafted)
      (timer : Option Timer) (reason : Due) → d.acks ≡ []
      → due_session now (left_by_expiry seen local now c d) timer (address_of c local.bindings)
      (seen.of c).session ≡ Some reason
      → due_session now (seen.of c).pending timer (address_of c local.bindings) (seen.of c).session
      ≡ Some reason
