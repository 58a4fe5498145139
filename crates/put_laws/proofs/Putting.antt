-- A PUBLISH makes the messages of its recipients, and a message that a step makes waits.
use Rattle.std.proofs.Common.{◌≡◌, ℕ, Bool, true, false, ◌||◌, if◌then◌else◌, List, [], ◌++◌, Option, Some, None, refl, sym, ap, ◌∙◌, subst, inl, inr}
use Rattle.std.proofs.lemmas.Option.{same_Some}
use Rattle.sn_topic.specs.Table.{Entries}
use Rattle.sn_session.specs.declared.session.Session.{Session}
use Rattle.sn_session.specs.Session.{empty_session}
use Rattle.sn_tables.specs.Received.{is_received, id_has_no_room}
use Rattle.sn_frame.specs.declared.flags.Qos.{Qos}
use Rattle.sn_frame.specs.declared.flags.Qos.TheVariants as levels
use Rattle.sn_frame.specs.declared.frame.Frame.{Frame}
use Rattle.sn_frame.specs.declared.frame.Frame.TheVariants as frames
use Rattle.sn_frame.specs.FlagBits.{qos_of}
use Rattle.rep_op.specs.declared.op.Op.{Op}
use Rattle.sn_local.specs.declared.config.Addr.{Addr}
use Rattle.sn_local.specs.Bindings.{client_at}
use Rattle.sn_local.specs.Lifetimes.{expires_at}
use Rattle.sn_local.specs.Locals.{Local}
use Rattle.sn_local.specs.Seen.{Seen, seen_of}
use Rattle.sn_plan.specs.declared.draft.NewPut.{NewPut}
use Rattle.sn_plan.specs.declared.plan.Plan.{Plan}
use Rattle.sn_plan.specs.declared.row.Follow.TheVariants as follows
use Rattle.sn_plan.specs.declared.row.Row.{Row}
use Rattle.sn_plan.specs.Asking.{retain_asked}
use Rattle.sn_plan.specs.Bound.{session_of}
use Rattle.sn_plan.specs.Drafts.{Drafted, lasting}
use Rattle.sn_plan.specs.Numbering.{planned}
use Rattle.sn_plan.specs.Own.{IsOneEach, IsOfDraft, new_messages}
use Rattle.sn_plan.specs.Others.{other}
use Rattle.sn_plan.specs.Plans.{plan_without}
use Rattle.sn_plan.specs.Rows.{plan_for, row_of, row_lasting}
use Rattle.sn_plan.proofs.Made.{Made, no_puts, for_nobody}
use Rattle.sn_publish.specs.declared.meaning.Meant.{Meant}
use Rattle.sn_publish.specs.declared.meaning.Meant.TheVariants.{Topic, Refused}
use Rattle.sn_publish.specs.Publishing.{publication_meant, publish_meant, spread_meant}
use Rattle.sn_publish.specs.Recipients.{puts_for}
use Rattle.sn_exchange.specs.Following.{followed_for, deliver_next}
use Rattle.sn_deliver.specs.Serving.{publish_of, publish_in_at}
use Rattle.sn_deliver.specs.Steps.{row_for, step}
use Rattle.sn_tick.specs.declared.due.Due.{Due}
use Rattle.sn_tick.specs.declared.due.Due.TheVariants.{Expiry, Loss, Retry, Delivery}
use Rattle.sn_tick.specs.Due.{first_due}
use Rattle.sn_tick.specs.Expiry.{expire_all}
use Rattle.sn_tick.specs.Ticking.{begin_tick, may_advertise, advertised, will_puts, lost, retry_row, plan_due, plan_if_due, tick}
use Rattle.row_laws.proofs.Drafting.{connect-made, disconnect-made, will_topic-made, will_msg-made, will_topic_update-made, will_msg_update-made, register-made, subscribe-puts, unsubscribe-made, other-made}
use Rattle.row_laws.proofs.Waiting.{plan-messages}
use Rattle.step_laws.proofs.Drafting.{followed_for_puts, pubrel_of_made, ack_of_made, wake_made, cleaned_made, expired_made, step-drafted, tick-drafted}
use Rattle.put_laws.specs.Puts.{puts_meant, puts_at, puts_bound, puts_by_level, puts_of, puts_lost, puts_due, puts_by_tick, IsOfGateway}

-- ---- the row of a PUBLISH

none_either : (b : Bool) (none : List NewPut) → none ≡ (if b then none else none)
none_either true none = refl
none_either false none = refl

choose_new : (a b : Bool) (x y z : Drafted) (puts : List NewPut) → x.puts ≡ [] → y.puts ≡ [] → z.puts ≡ puts
    → (if a then x else (if b then y else z)).puts ≡ (if a || b then [] else puts)
choose_new true b x y z puts h k l = h
choose_new false true x y z puts h k l = k
choose_new false false x y z puts h k l = l

module _ (seen : Seen) (asked : Bool) (a : Addr) (s : Session) (topic msg_id : ℕ) (body : List ℕ) where
  publish-puts : (qos : Qos) (meant : Meant) → (publish_meant seen asked a s topic msg_id body qos meant).puts ≡ puts_at seen s msg_id body qos meant
  publish-puts levels.Zero (Refused code) = refl
  publish-puts levels.One (Refused code) = refl
  publish-puts levels.Two (Refused code) = none_either (is_received msg_id s.received || id_has_no_room msg_id s.received) []
  publish-puts levels.MinusOne (Refused code) = refl
  publish-puts levels.Zero (Topic name) = refl
  publish-puts levels.One (Topic name) = refl
  publish-puts levels.Two (Topic name) = choose_new (is_received msg_id s.received) (id_has_no_room msg_id s.received) _ _ _ (puts_for seen name 2 body) refl refl refl
  publish-puts levels.MinusOne (Topic name) = refl

spread-puts : (seen : Seen) (asked : Bool) (body : List ℕ) (meant : Meant) → (spread_meant seen asked body meant).puts ≡ puts_meant seen 0 body meant
spread-puts seen asked body (Refused code) = refl
spread-puts seen asked body (Topic name) = refl

module _ (predefined : Entries) (seen : Seen) (local : Local) (a : Addr) (bits topic msg_id : ℕ) (body : List ℕ) (now : ℕ) where
  bound-puts : (bound : Option (List ℕ)) → (publish_of predefined seen a bound bits topic msg_id body now).draft.puts ≡ puts_bound predefined seen bound bits topic msg_id body
  bound-puts None = refl
  bound-puts (Some c) = publish-puts seen (retain_asked bits) a (session_of seen c) topic msg_id body (qos_of bits) (publication_meant predefined (session_of seen c) bits topic body)

  level-puts : (qos : Qos) → (publish_in_at predefined seen local a bits topic msg_id body now qos).draft.puts ≡ puts_by_level predefined seen (client_at a local.bindings) bits topic msg_id body qos
  level-puts levels.MinusOne = spread-puts seen (retain_asked bits) body (publication_meant predefined empty_session bits topic body)
  level-puts levels.Zero = bound-puts (client_at a local.bindings)
  level-puts levels.One = bound-puts (client_at a local.bindings)
  level-puts levels.Two = bound-puts (client_at a local.bindings)

-- ---- every row

pub row-puts : (g : ℕ) (predefined : Entries) (seen : Seen) (local : Local) (a : Addr) (frame : Frame) (now : ℕ) → (row_for g predefined seen local a frame now).draft.puts ≡ puts_of predefined seen local a frame
row-puts g predefined seen local a (frames.Connect flags protocol duration client) now = no_puts (row_for g predefined seen local a (frames.Connect flags protocol duration client) now).draft (connect-made seen local a flags.bits protocol duration client now)
row-puts g predefined seen local a (frames.WillTopic will) now = no_puts (row_for g predefined seen local a (frames.WillTopic will) now).draft (will_topic-made seen a now local will)
row-puts g predefined seen local a (frames.WillMsg message) now = no_puts (row_for g predefined seen local a (frames.WillMsg message) now).draft (will_msg-made seen a now local message)
row-puts g predefined seen local a (frames.Disconnect duration) now = no_puts (row_for g predefined seen local a (frames.Disconnect duration) now).draft (disconnect-made seen local a duration now)
row-puts g predefined seen local a (frames.Register topic_id msg_id name) now = no_puts (row_for g predefined seen local a (frames.Register topic_id msg_id name) now).draft (register-made seen a now local msg_id name)
row-puts g predefined seen local a (frames.Subscribe flags msg_id topic) now = subscribe-puts seen a now predefined local flags.bits msg_id topic
row-puts g predefined seen local a (frames.Unsubscribe flags msg_id topic) now = no_puts (row_for g predefined seen local a (frames.Unsubscribe flags msg_id topic) now).draft (unsubscribe-made seen a now predefined local flags.bits msg_id topic)
row-puts g predefined seen local a (frames.WillTopicUpd will) now = no_puts (row_for g predefined seen local a (frames.WillTopicUpd will) now).draft (will_topic_update-made local a will now)
row-puts g predefined seen local a (frames.WillMsgUpd message) now = no_puts (row_for g predefined seen local a (frames.WillMsgUpd message) now).draft (will_msg_update-made seen a now local message)
row-puts g predefined seen local a (frames.Publish flags topic msg_id body) now = level-puts predefined seen local a flags.bits topic msg_id body now (qos_of flags.bits)
row-puts g predefined seen local a (frames.PubRel msg_id) now = no_puts (row_for g predefined seen local a (frames.PubRel msg_id) now).draft (pubrel_of_made seen a (client_at a local.bindings) msg_id now)
row-puts g predefined seen local a (frames.PubAck topic_id msg_id code) now = no_puts (row_for g predefined seen local a (frames.PubAck topic_id msg_id code) now).draft (ack_of_made predefined seen a (client_at a local.bindings) (frames.PubAck topic_id msg_id code) now)
row-puts g predefined seen local a (frames.PubRec msg_id) now = no_puts (row_for g predefined seen local a (frames.PubRec msg_id) now).draft (ack_of_made predefined seen a (client_at a local.bindings) (frames.PubRec msg_id) now)
row-puts g predefined seen local a (frames.PubComp msg_id) now = no_puts (row_for g predefined seen local a (frames.PubComp msg_id) now).draft (ack_of_made predefined seen a (client_at a local.bindings) (frames.PubComp msg_id) now)
row-puts g predefined seen local a (frames.RegAck topic_id msg_id code) now = no_puts (row_for g predefined seen local a (frames.RegAck topic_id msg_id code) now).draft (ack_of_made predefined seen a (client_at a local.bindings) (frames.RegAck topic_id msg_id code) now)
row-puts g predefined seen local a (frames.PingReq client) now = no_puts (row_for g predefined seen local a (frames.PingReq client) now).draft (wake_made g seen local a client now)
row-puts g predefined seen local a frame now = no_puts (other g local a frame now).draft (other-made g local a frame now)

-- ---- what a plan makes

module _ (g : ℕ) (seen : Seen) where
  for-messages : (d : Drafted) (client : Option (List ℕ)) (plan : Plan) → plan_for g seen d client ≡ Some plan → new_messages plan.ops ≡ d.puts
  unfolding planned
  for-messages d None plan is = plan-messages g [] seen (for_nobody d) plan is
  for-messages d (Some c) plan is = plan-messages g c seen d plan is

  next-messages : (predefined : Entries) (a : Addr) (now : ℕ) (row : Row) (plan : Plan) → deliver_next g predefined seen a now row ≡ Some plan → new_messages plan.ops ≡ row.draft.puts
  next-messages predefined a now row plan is =
      for-messages (followed_for predefined seen a now row.draft row.follow row.client) row.client plan is
      ∙ followed_for_puts predefined seen a now row.draft row.follow row.client

pub step-messages : (g lifetime : ℕ) (predefined : Entries) (seen : Seen) (local : Local) (a : Addr) (frame : Frame) (now : ℕ) (plan : Plan)
    → step g lifetime predefined seen local a frame now ≡ Some plan → new_messages plan.ops ≡ puts_of predefined seen local a frame
unfolding step
step-messages g lifetime predefined seen local a frame now plan is =
    next-messages g seen predefined a now (row_lasting (expires_at lifetime now) (row_for g predefined seen local a frame now)) plan is
    ∙ row-puts g predefined seen local a frame now

-- ---- a tick

module _ (g : ℕ) (predefined : Entries) (seen : Seen) (local : Local) (now : ℕ) (plan : Plan) (d : Drafted) (none : d.puts ≡ []) where
  lost-messages : (c : List ℕ) (due : Due) → plan_due g predefined seen local now d c due ≡ Some plan → new_messages plan.ops ≡ puts_lost seen c due
  lost-messages c Expiry is =
      plan-messages g c seen (expire_all seen local now c d) plan is
      ∙ (ap (λ (m : Made). m.0) (expired_made seen local now c d) ∙ none)
  lost-messages c Loss is =
      plan-messages g c seen (lost seen c (session_of seen c) d) plan is
      ∙ ap (λ (puts : List NewPut). puts ++ will_puts seen c (session_of seen c).will) none
  lost-messages c (Retry a) is = next-messages g seen predefined a now (retry_row now d c) plan is ∙ none
  lost-messages c (Delivery a) is = next-messages g seen predefined a now (row_of follows.Delivery c d) plan is ∙ none

  due-messages : (found : Option (List ℕ × Due)) → plan_if_due g predefined seen local now d found ≡ Some plan → new_messages plan.ops ≡ puts_due seen found
  due-messages None is = ap (λ (p : Plan). new_messages p.ops) (sym (same_Some (plan_without d) plan is))
  due-messages (Some found) is = lost-messages found.0 found.1 is

  either-messages : (b : Bool) (told : Drafted) (found : Option (List ℕ × Due)) → (if b then Some (plan_without told) else plan_if_due g predefined seen local now d found) ≡ Some plan
      → new_messages plan.ops ≡ (if b then [] else puts_due seen found)
  either-messages true told found is = ap (λ (p : Plan). new_messages p.ops) (sym (same_Some (plan_without told) plan is))
  either-messages false told found is = due-messages found is

pub tick-messages : (g lifetime advertise : ℕ) (field : List Addr) (predefined : Entries) (seen : Seen) (local : Local) (now : ℕ) (plan : Plan)
    → tick g lifetime advertise field predefined seen local now ≡ Some plan → new_messages plan.ops ≡ puts_by_tick g advertise field seen local now
tick-messages g lifetime advertise field predefined seen local now plan is =
    let d : Drafted = lasting (expires_at lifetime now) (begin_tick g seen local now) in
    either-messages g predefined seen local now plan d (no_puts d (cleaned_made g seen local now)) (may_advertise advertise field now local.advertised)
    (advertised g advertise field now d) (first_due g seen local now seen.all) is

-- ---- every message that is made waits

pub of-draft : (g : ℕ) (S : List Op) (plan : Plan) → IsOfGateway g S plan → IsOfDraft g (seen_of S) plan
of-draft g S plan (inl (lifetime, predefined, local, a, frame, now, is)) = step-drafted g lifetime predefined S local a frame now plan is
of-draft g S plan (inr (lifetime, advertise, field, predefined, local, now, is)) = tick-drafted g lifetime advertise field predefined S local now plan is

pub gateway-once : (g : ℕ) (S : List Op) (plan : Plan) → IsOfGateway g S plan → IsOneEach (new_messages plan.ops)
gateway-once g S plan is =
    let h = of-draft g S plan is in
    subst IsOneEach (sym (plan-messages g h.client (seen_of S) h.draft plan h.is)) h.apart.one_each
