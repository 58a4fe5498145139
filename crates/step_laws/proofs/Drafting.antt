-- Each plan of the step table, and of a tick, is the plan of a draft with at most one message a client.
use Rattle.std.proofs.Common.{◌≡◌, ℕ, ◌==◌, ◌⊎◌, Bool, true, false, ◌&&◌, if◌then◌else◌, nat_le, is_none, List, [], ◌∷◌, ◌++◌, Option, Some, None, filter, length, refl, sym, ap, ◌∙◌, subst, true≢false, inl, inr, Ordering, Less, Equal, Greater}
use Rattle.std.specs.List.{AllByRecursion}
use Rattle.std.specs.Ordering.{ordering_reverse}
use Rattle.std.specs.List.Sorted.{IsStrictlySortedBy}
use Rattle.sn_topic.specs.Table.{Entries}
use Rattle.sn_session.specs.declared.presence.Presence.{Presence as State}
use Rattle.sn_session.specs.declared.presence.Presence.TheVariants.{Active, Asleep, Awake, Disconnected, Lost}
use Rattle.sn_session.specs.declared.outbound.Outbound.{Outbound as Exchange}
use Rattle.sn_session.specs.declared.outbound.Phase.{Phase}
use Rattle.sn_session.specs.declared.outbound.Phase.TheVariants.{Registering, Published, Released}
use Rattle.sn_session.specs.declared.session.Session.{Session}
use Rattle.sn_tables.specs.declared.topics.TopicEntry.{TopicEntry}
use Rattle.sn_session.specs.declared.will.Will.{Will}
use Rattle.sn_session.specs.declared.change.SessionOp.{SessionOp}
use Rattle.sn_session.specs.declared.change.SessionOp.TheVariants.{Take}
use Rattle.sn_tables.specs.Received.{is_received, id_has_no_room}
use Rattle.sn_session.specs.Session.{empty_session}
use Rattle.sn_frame.specs.declared.flags.Qos.{Qos}
use Rattle.sn_frame.specs.declared.flags.Qos.TheVariants as levels
use Rattle.sn_frame.specs.declared.frame.Frame.{Frame}
use Rattle.sn_frame.specs.declared.frame.Frame.TheVariants as frames
use Rattle.sn_frame.specs.FlagBits.{qos_of}
use Rattle.rep_op.specs.declared.op.Put.{Put}
use Rattle.rep_op.specs.declared.op.Op.{Op}
use Rattle.rep_op.specs.Orders.{client_cmp}
use Rattle.rep_model.specs.declared.view.ClientView.{ClientView}
use Rattle.rep_model.specs.Views.{clients}
use Rattle.rep_model.proofs.Named.{clients-ascend}
use Rattle.rep_model.proofs.Readers.{client_total}
use Rattle.sn_local.specs.declared.config.Addr.{Addr}
use Rattle.sn_plan.specs.declared.draft.NewPut.{NewPut}
use Rattle.sn_plan.specs.declared.draft.Posted.{Posted}
use Rattle.sn_local.specs.declared.local.Timer.{Timer}
use Rattle.sn_local.specs.declared.local.WillDialog.{WillDialog}
use Rattle.sn_local.specs.declared.local.LocalChange.TheVariants.{Heard, Retried}
use Rattle.sn_plan.specs.declared.plan.Plan.{Plan}
use Rattle.sn_plan.specs.declared.row.Row.{Row}
use Rattle.sn_plan.specs.declared.row.Follow.{Follow}
use Rattle.sn_plan.specs.declared.row.Follow.TheVariants as follows
use Rattle.sn_plan.specs.Drafts.{Drafted, nothing, changed, changed_if, lasting, moved, session_after}
use Rattle.sn_local.specs.Lifetimes.{expires_at}
use Rattle.sn_local.specs.Seen.{Seen, seen_of}
use Rattle.sn_plan.specs.Plans.{plan_without}
use Rattle.sn_local.specs.Bindings.{client_at, is_stamp_of, address_of}
use Rattle.sn_local.specs.Locals.{Local}
use Rattle.sn_plan.specs.Bound.{bound_to, session_of}
use Rattle.sn_plan.specs.Rows.{row_of, row_of_none, row_lasting, row_with_timer}
use Rattle.sn_plan.specs.Asking.{retain_asked}
use Rattle.sn_plan.specs.Own.{IsOneEach, PutsApart, IsOfDraft}
use Rattle.sn_plan.proofs.Made.{Made, made, SameMade, no_puts, no_handed}
use Rattle.row_laws.proofs.Drafting.{row-drafted, connect-made, disconnect-made, will_topic-made, will_msg-made, will_topic_update-made, will_msg_update-made, register-made, subscribe-puts, unsubscribe-made, other-made}
use Rattle.sn_exchange.specs.declared.form.Form.{Form}
use Rattle.sn_exchange.specs.declared.peer.Peer.{Peer}
use Rattle.sn_exchange.specs.declared.delivery.ToldId.{ToldId}
use Rattle.sn_tick.specs.declared.due.Due.{Due}
use Rattle.sn_tick.specs.declared.due.Due.TheVariants as dues
use Rattle.sn_publish.specs.declared.meaning.Meant.{Meant}
use Rattle.sn_publish.specs.declared.meaning.Meant.TheVariants.{Topic, Refused}
use Rattle.sn_exchange.specs.Forms.{form_of, form_again}
use Rattle.sn_exchange.specs.Exchanges.{left, put_left, message_of, open_exchange, is_served, is_awake}
use Rattle.sn_publish.specs.Recipients.{puts_among, puts_for, is_another, qos_for}
use Rattle.sn_publish.specs.Publishing.{publication_meant, publish_at_2, publish_at, publish_meant, spread_meant, release}
use Rattle.sn_exchange.specs.Delivery.{Stop, id_to_tell, register_first, deliver_by, none_left, and_then, deliver, deliver_left, deliver_if}
use Rattle.sn_exchange.specs.Resending.{register_by, register_again, publish_by, publish_again, resend_in, resend_if}
use Rattle.sn_deliver.specs.Acknowledging.{entry_published, forgotten, puback_of, put_awaiting, awaiting, awaiting_pubrec, pubrec_again, pubrec_of, pubcomp_of, id_known, regack_of, acknowledge}
use Rattle.sn_tables.specs.Topics.{topic_named}
use Rattle.sn_exchange.specs.Following.{peer_at, followed_by, followed_for, followed, deliver_next}
use Rattle.sn_deliver.specs.Serving.{publish_of, publish_in_at, pubrel_of, ack_row}
use Rattle.sn_deliver.specs.Waking.{claimed, has_nothing, woken_by, woken_if, woken, wake_of, wake}
use Rattle.sn_deliver.specs.Steps.{row_for, step}
use Rattle.sn_tick.specs.Expiry.{under_way, is_expired, expiry_acked, expire_all}
use Rattle.sn_tick.specs.Due.{elapsed, first_due}
use Rattle.sn_tick.specs.Ticking.{dialog_ended, dialogs_ended, needs_timer, timer_begun, begin_tick, may_advertise, advertised, will_puts, lost, plan_due, plan_if_due, tick}
use Rattle.step_laws.proofs.Keeping.{fold_keeps}

-- the draft makes nothing
abbrev pub MakesNone : Drafted → Type 0
MakesNone d = SameMade d nothing

choose_same : (b : Bool) (x y d : Drafted) → SameMade x d → SameMade y d → SameMade (if b then x else y) d
choose_same true x y d h k = h
choose_same false x y d h k = k

choose_none : (b : Bool) (x y : Drafted) → MakesNone x → MakesNone y → MakesNone (if b then x else y)
choose_none true x y h k = h
choose_none false x y h k = k

-- what a draft makes, and the moment of its messages
abbrev MadeUntil : Type 0
MadeUntil = Made × ℕ

-- the draft makes what the other makes, of the same moment
abbrev SameKept : Drafted → Drafted → Type 0
SameKept e d = ◌≡◌ {A = MadeUntil} (made e, e.expires) (made d, d.expires)

choose_kept : (b : Bool) (x y d : Drafted) → SameKept x d → SameKept y d → SameKept (if b then x else y) d
choose_kept true x y d h k = h
choose_kept false x y d h k = k

choose_stop : (b : Bool) (x y : Stop) (d : Drafted) → SameKept x.1 d → SameKept y.1 d → SameKept (if b then x else y).1 d
choose_stop true x y d h k = h
choose_stop false x y d h k = k

changed_kept : (change : Option SessionOp) (d : Drafted) → SameKept (changed_if change d) d
changed_kept None d = refl
changed_kept (Some change) d = refl

changed_puts : (change : Option SessionOp) (d : Drafted) → SameMade (changed_if change d) d
changed_puts None d = refl
changed_puts (Some change) d = refl

-- ---- what follows a row makes no message, and changes no moment

module _ (predefined : Entries) (peer : Peer) (s : Session) where
  none_kept : (d : Drafted) → SameKept (none_left peer s d) d
  none_kept d = choose_kept (is_awake s.presence) _ d d refl refl

  register_kept : (put : Put) (found : Option ToldId) (d : Drafted) → SameKept (register_first peer s put found d).1 d
  register_kept put None d = refl
  register_kept put (Some found) d = changed_kept found.change d

  form_kept : (put : Put) (form : Option Form) (d : Drafted) → SameKept (deliver_by peer s put form d).1 d
  form_kept put None d = register_kept put (id_to_tell s put.topic) d
  form_kept put (Some form) d = choose_stop (put.qos == 0) _ _ d refl refl

  stop_kept : (more : Drafted → Drafted) (stop : Stop) (d : Drafted) → ((e : Drafted) → SameKept (more e) e) → SameKept stop.1 d → SameKept (and_then more stop) d
  stop_kept more (true, e) d keeps h = h
  stop_kept more (false, e) d keeps h = keeps e ∙ h

  deliver_kept : (pending : List Put) (d : Drafted) → SameKept (deliver predefined peer s pending d) d
  deliver_kept [] d = none_kept d
  deliver_kept (put ∷ rest) d =
      stop_kept (deliver predefined peer s rest) (deliver_by peer s put (form_of predefined s put.topic) d) d (λ e. deliver_kept rest e) (form_kept put (form_of predefined s put.topic) d)

  left_kept : (pending : List Put) (d : Drafted) → SameKept (deliver_left predefined peer s pending d) d
  left_kept pending d = deliver_kept (left d.acks pending) d

  deliver_if_kept : (pending : List Put) (d : Drafted) → SameKept (deliver_if predefined peer s pending d) d
  deliver_if_kept pending d = choose_kept (is_served s.presence && is_none (open_exchange s d.acks pending)) _ d d (left_kept pending d) refl

  register_by_kept : (put : Put) (msg_id : ℕ) (entry : Option TopicEntry) (d : Drafted) → SameKept (register_by peer s put msg_id entry d).1 d
  register_by_kept put msg_id None d = refl
  register_by_kept put msg_id (Some entry) d = refl

  register_again_kept : (msg_id : ℕ) (put : Option Put) (d : Drafted) → SameKept (register_again peer s msg_id put d).1 d
  register_again_kept msg_id None d = refl
  register_again_kept msg_id (Some put) d = register_by_kept put msg_id (topic_named put.topic s.topics) d

  publish_by_kept : (put : Put) (msg_id : ℕ) (form : Option Form) (d : Drafted) → SameKept (publish_by peer s put msg_id form d).1 d
  publish_by_kept put msg_id None d = refl
  publish_by_kept put msg_id (Some form) d = refl

  publish_again_kept : (msg_id : ℕ) (put : Option Put) (d : Drafted) → SameKept (publish_again predefined peer s msg_id put d).1 d
  publish_again_kept msg_id None d = refl
  publish_again_kept msg_id (Some put) d = publish_by_kept put msg_id (form_again predefined s put.topic) d

  resend_in_kept : (msg_id : ℕ) (phase : Phase) (put : Option Put) (d : Drafted) → SameKept (resend_in predefined peer s msg_id phase put d).1 d
  resend_in_kept msg_id Registering put d = register_again_kept msg_id put d
  resend_in_kept msg_id Published put d = publish_again_kept msg_id put d
  resend_in_kept msg_id Released put d = refl

  resend_kept : (pending : List Put) (x : Option Exchange) (d : Drafted) → SameKept (resend_if predefined peer s pending x d) d
  resend_kept pending None d = deliver_if_kept pending d
  resend_kept pending (Some x) d =
      stop_kept (deliver_left predefined peer s pending) (resend_in predefined peer s x.msg_id x.phase (put_left d.acks pending (message_of x)) d) d
      (λ e. left_kept pending e) (resend_in_kept x.msg_id x.phase (put_left d.acks pending (message_of x)) d)

followed_by_kept : (predefined : Entries) (peer : Peer) (s : Session) (pending : List Put) (d : Drafted) (follow : Follow) → SameKept (followed_by predefined peer s pending d follow) d
followed_by_kept predefined peer s pending d follows.Nothing = refl
followed_by_kept predefined peer s pending d follows.Delivery = deliver_if_kept predefined peer (session_after s d) pending d
followed_by_kept predefined peer s pending d follows.Resend = resend_kept predefined peer (session_after s d) pending (open_exchange (session_after s d) d.acks pending) d

pub followed_by_made : (predefined : Entries) (peer : Peer) (s : Session) (pending : List Put) (d : Drafted) (follow : Follow) → SameMade (followed_by predefined peer s pending d follow) d
followed_by_made predefined peer s pending d follow = ap (λ (m : MadeUntil). m.0) (followed_by_kept predefined peer s pending d follow)

pub followed_by_puts : (predefined : Entries) (peer : Peer) (s : Session) (pending : List Put) (d : Drafted) (follow : Follow) → (followed_by predefined peer s pending d follow).puts ≡ d.puts
followed_by_puts predefined peer s pending d follow = ap (λ (m : Made). m.0) (followed_by_made predefined peer s pending d follow)

pub followed_by_handed : (predefined : Entries) (peer : Peer) (s : Session) (pending : List Put) (d : Drafted) (follow : Follow) → (followed_by predefined peer s pending d follow).handed ≡ d.handed
followed_by_handed predefined peer s pending d follow = ap (λ (m : Made). m.1) (followed_by_made predefined peer s pending d follow)

followed_for_kept : (predefined : Entries) (seen : Seen) (a : Addr) (now : ℕ) (d : Drafted) (follow : Follow) (client : Option (List ℕ)) → SameKept (followed_for predefined seen a now d follow client) d
followed_for_kept predefined seen a now d follow None = refl
followed_for_kept predefined seen a now d follow (Some c) = followed_by_kept predefined (peer_at a c now) (session_of seen c) (seen.of c).pending d follow

pub followed_for_made : (predefined : Entries) (seen : Seen) (a : Addr) (now : ℕ) (d : Drafted) (follow : Follow) (client : Option (List ℕ)) → SameMade (followed_for predefined seen a now d follow client) d
followed_for_made predefined seen a now d follow client = ap (λ (m : MadeUntil). m.0) (followed_for_kept predefined seen a now d follow client)

-- what follows changes no moment
pub followed_for_expires : (predefined : Entries) (seen : Seen) (a : Addr) (now : ℕ) (d : Drafted) (follow : Follow) (client : Option (List ℕ)) → (followed_for predefined seen a now d follow client).expires ≡ d.expires
followed_for_expires predefined seen a now d follow client = ap (λ (m : MadeUntil). m.1) (followed_for_kept predefined seen a now d follow client)

pub followed_for_puts : (predefined : Entries) (seen : Seen) (a : Addr) (now : ℕ) (d : Drafted) (follow : Follow) (client : Option (List ℕ)) → (followed_for predefined seen a now d follow client).puts ≡ d.puts
followed_for_puts predefined seen a now d follow client = ap (λ (m : Made). m.0) (followed_for_made predefined seen a now d follow client)

-- a draft that makes the same is as well apart
apart_as : (d e : Drafted) → SameMade e d → PutsApart d → PutsApart e
apart_as d e same h = record {
  one_each = subst (λ (m : Made). IsOneEach m.0) (sym same) h.one_each;
  alone = subst (λ (m : Made). (m.1 ≡ []) ⊎ (m.0 ≡ [])) (sym same) h.alone;
}

-- the plan of a row with what follows it
pub next-drafted : (g : ℕ) (predefined : Entries) (seen : Seen) (a : Addr) (now : ℕ) (row : Row) (plan : Plan) → PutsApart row.draft → deliver_next g predefined seen a now row ≡ Some plan → IsOfDraft g seen plan
next-drafted g predefined seen a now row plan apart e =
    row-drafted g seen (followed predefined seen a now row) plan
    (apart_as row.draft (followed_for predefined seen a now row.draft row.follow row.client) (followed_for_made predefined seen a now row.draft row.follow row.client) apart) e

-- ---- recipients are all different

-- names that are all different
abbrev Apart : List (List ℕ) → Type 0
Apart [] = Unit {0}
Apart (c ∷ rest) = AllByRecursion (λ (d : List ℕ). ¬ (d ≡ c)) rest × Apart rest

is_less : Ordering → Bool
is_less Less = true
is_less Equal = false
is_less Greater = false

not_below_itself : (c : List ℕ) → client_cmp c c ≡ Less → ⊥
unfolding is_less
not_below_itself c e = true≢false (sym (ap is_less e) ∙ ap is_less (client_total.antisymm c c) ∙ ap (λ o. is_less (ordering_reverse o)) e)

all_apart : (c : List ℕ) (rest : List (List ℕ)) → AllByRecursion (λ d. client_cmp c d ≡ Less) rest → AllByRecursion (λ (d : List ℕ). ¬ (d ≡ c)) rest
all_apart c [] h = tt
all_apart c (d ∷ rest) h = (λ e. not_below_itself c (subst (λ x. client_cmp c x ≡ Less) e h.0), all_apart c rest h.1)

sorted_apart : (cs : List (List ℕ)) → IsStrictlySortedBy client_cmp cs → Apart cs
unfolding IsStrictlySortedBy
sorted_apart [] h = tt
sorted_apart (c ∷ rest) h = (all_apart c rest h.0, sorted_apart rest h.1)

clients_apart : (S : List Op) → Apart (clients S)
clients_apart S = sorted_apart (clients S) (clients-ascend S)

if_kept : (P : List ℕ → Type 0) (b : Bool) (d : List ℕ) (rest : List (List ℕ)) → P d → AllByRecursion P rest → AllByRecursion P (if b then d ∷ rest else rest)
if_kept P true d rest h k = (h, k)
if_kept P false d rest h k = k

pub filter_all : (P : List ℕ → Type 0) (test : List ℕ → Bool) (cs : List (List ℕ)) → AllByRecursion P cs → AllByRecursion P (filter test cs)
filter_all P test [] h = tt
filter_all P test (d ∷ rest) h = if_kept P (test d) d (filter test rest) h.0 (filter_all P test rest h.1)

if_apart : (b : Bool) (c : List ℕ) (rest : List (List ℕ)) → AllByRecursion (λ (d : List ℕ). ¬ (d ≡ c)) rest → Apart rest → Apart (if b then c ∷ rest else rest)
if_apart true c rest h k = (h, k)
if_apart false c rest h k = k

filter_apart : (test : List ℕ → Bool) (cs : List (List ℕ)) → Apart cs → Apart (filter test cs)
filter_apart test [] h = tt
filter_apart test (c ∷ rest) h = if_apart (test c) c (filter test rest) (filter_all (λ d. ¬ (d ≡ c)) test rest h.0) (filter_apart test rest h.1)

module _ (seen : Seen) (topic : List ℕ) (qos : ℕ) (body : List ℕ) where
  -- the messages for a client and then for these, by the message for the client
  abbrev first_and : List ℕ → List (List ℕ) → List NewPut
  first_and c rest = puts_among seen (c ∷ rest) topic qos body

  others_at : (c d : List ℕ) (rest : List (List ℕ)) (q : Option ℕ) → qos_for topic qos (seen.of d) ≡ q → ¬ (d ≡ c)
      → AllByRecursion (λ (p : NewPut). ¬ (p.client ≡ c)) (puts_among seen rest topic qos body)
      → AllByRecursion (λ (p : NewPut). ¬ (p.client ≡ c)) (first_and d rest)
  others_at c d rest None e h k = rw e k
  others_at c d rest (Some q) e h k = rw e (h, k)

  others : (c : List ℕ) (cs : List (List ℕ)) → AllByRecursion (λ (d : List ℕ). ¬ (d ≡ c)) cs → AllByRecursion (λ (p : NewPut). ¬ (p.client ≡ c)) (puts_among seen cs topic qos body)
  others c [] h = tt
  others c (d ∷ rest) h = others_at c d rest (qos_for topic qos (seen.of d)) refl h.0 (others c rest h.1)

  each_at : (c : List ℕ) (rest : List (List ℕ)) (q : Option ℕ) → qos_for topic qos (seen.of c) ≡ q
      → AllByRecursion (λ (p : NewPut). ¬ (p.client ≡ c)) (puts_among seen rest topic qos body) → IsOneEach (puts_among seen rest topic qos body) → IsOneEach (first_and c rest)
  each_at c rest None e h k = rw e k
  each_at c rest (Some q) e h k = rw e (h, k)

  among_each : (cs : List (List ℕ)) → Apart cs → IsOneEach (puts_among seen cs topic qos body)
  among_each [] h = tt
  among_each (c ∷ rest) h = each_at c rest (qos_for topic qos (seen.of c)) refl (others c rest h.0) (among_each rest h.1)

-- ---- the rows of publications

no_message : (d : Drafted) → d.puts ≡ [] → PutsApart d
no_message d h = record { one_each = subst IsOneEach (sym h) tt; alone = inr h }

none_one : (d : Drafted) → MakesNone d → PutsApart d
none_one d h = no_message d (no_puts d h)

none_row : (row : Row) → MakesNone row.draft → PutsApart row.draft
none_row row h = none_one row.draft h

choose_one : (b : Bool) (x y : Drafted) → PutsApart x → PutsApart y → PutsApart (if b then x else y)
choose_one true x y h k = h
choose_one false x y h k = k

module _ (S : List Op) where
  puts_one : (topic : List ℕ) (qos : ℕ) (body : List ℕ) → IsOneEach (puts_for (seen_of S) topic qos body)
  puts_one topic qos body = among_each (seen_of S) topic qos body (clients S) (clients_apart S)

  will_one : (c : List ℕ) (will : Option Will) → IsOneEach (will_puts (seen_of S) c will)
  will_one c None = tt
  will_one c (Some will) = among_each (seen_of S) will.topic will.qos will.message (filter (is_another c) (clients S)) (filter_apart (is_another c) (clients S) (clients_apart S))

  twice_one : (asked : Bool) (a : Addr) (s : Session) (topic msg_id : ℕ) (body name : List ℕ) → PutsApart (publish_at_2 (seen_of S) asked a s topic msg_id body name)
  twice_one asked a s topic msg_id body name =
      choose_one (is_received msg_id s.received) _ _ (record { one_each = tt; alone = inl refl })
      (choose_one (id_has_no_room msg_id s.received) _ _ (record { one_each = tt; alone = inl refl }) (record { one_each = puts_one name 2 body; alone = inl refl }))

  publish_at_one : (asked : Bool) (a : Addr) (s : Session) (topic msg_id : ℕ) (body name : List ℕ) (qos : Qos) → PutsApart (publish_at (seen_of S) asked a s topic msg_id body name qos)
  publish_at_one asked a s topic msg_id body name levels.Zero = record { one_each = puts_one name 0 body; alone = inl refl }
  publish_at_one asked a s topic msg_id body name levels.One = record { one_each = puts_one name 1 body; alone = inl refl }
  publish_at_one asked a s topic msg_id body name levels.Two = twice_one asked a s topic msg_id body name
  publish_at_one asked a s topic msg_id body name levels.MinusOne = record { one_each = puts_one name 0 body; alone = inl refl }

  publish_meant_one : (asked : Bool) (a : Addr) (s : Session) (topic msg_id : ℕ) (body : List ℕ) (qos : Qos) (meant : Meant) → PutsApart (publish_meant (seen_of S) asked a s topic msg_id body qos meant)
  publish_meant_one asked a s topic msg_id body qos (Refused code) = record { one_each = tt; alone = inl refl }
  publish_meant_one asked a s topic msg_id body qos (Topic name) = publish_at_one asked a s topic msg_id body name qos

  spread_meant_one : (asked : Bool) (body : List ℕ) (meant : Meant) → PutsApart (spread_meant (seen_of S) asked body meant)
  spread_meant_one asked body (Refused code) = record { one_each = tt; alone = inl refl }
  spread_meant_one asked body (Topic name) = record { one_each = puts_one name 0 body; alone = inl refl }

  heard_one : (c : List ℕ) (now : ℕ) (d : Drafted) → PutsApart d → PutsApart (moved (Heard c now) d)
  heard_one c now d h = record { one_each = h.one_each; alone = h.alone }

  publish_of_one : (predefined : Entries) (a : Addr) (bound : Option (List ℕ)) (bits topic msg_id : ℕ) (body : List ℕ) (now : ℕ) → PutsApart (publish_of predefined (seen_of S) a bound bits topic msg_id body now).draft
  publish_of_one predefined a None bits topic msg_id body now = record { one_each = tt; alone = inl refl }
  publish_of_one predefined a (Some c) bits topic msg_id body now =
      heard_one c now _
      (publish_meant_one (retain_asked bits) a (session_of (seen_of S) c) topic msg_id body (qos_of bits) (publication_meant predefined (session_of (seen_of S) c) bits topic body))

  publish_in_one : (predefined : Entries) (local : Local) (a : Addr) (bits topic msg_id : ℕ) (body : List ℕ) (now : ℕ) (qos : Qos) → PutsApart (publish_in_at predefined (seen_of S) local a bits topic msg_id body now qos).draft
  publish_in_one predefined local a bits topic msg_id body now levels.MinusOne = spread_meant_one (retain_asked bits) body (publication_meant predefined empty_session bits topic body)
  publish_in_one predefined local a bits topic msg_id body now levels.Zero = publish_of_one predefined a (client_at a local.bindings) bits topic msg_id body now
  publish_in_one predefined local a bits topic msg_id body now levels.One = publish_of_one predefined a (client_at a local.bindings) bits topic msg_id body now
  publish_in_one predefined local a bits topic msg_id body now levels.Two = publish_of_one predefined a (client_at a local.bindings) bits topic msg_id body now

-- ---- acknowledgements make no message

forgotten_puts : (s : Session) (put : Put) (entry : Option TopicEntry) → MakesNone (forgotten s put entry)
forgotten_puts s put None = refl
forgotten_puts s put (Some entry) = refl

puback_puts : (predefined : Entries) (s : Session) (code : ℕ) (put : Option Put) → MakesNone (puback_of predefined s code put)
puback_puts predefined s code None = refl
puback_puts predefined s code (Some put) =
    choose_none (code == 0) _ _ (choose_none (put.qos == 1) _ _ refl refl)
    (choose_none (code == 1) _ _ refl (choose_none (code == 2) _ _ (forgotten_puts s put (entry_published predefined s put.topic)) refl))

pubrec_again_puts : (peer : Peer) (msg_id : ℕ) (x : Option Exchange) → MakesNone (pubrec_again peer msg_id x)
pubrec_again_puts peer msg_id None = refl
pubrec_again_puts peer msg_id (Some x) = refl

pubrec_puts : (peer : Peer) (s : Session) (pending : List Put) (msg_id : ℕ) (x : Option Exchange) → MakesNone (pubrec_of peer s pending msg_id x)
pubrec_puts peer s pending msg_id None = pubrec_again_puts peer msg_id (awaiting s pending Released msg_id)
pubrec_puts peer s pending msg_id (Some x) = refl

pubcomp_puts : (s : Session) (x : Option Exchange) → MakesNone (pubcomp_of s x)
pubcomp_puts s None = refl
pubcomp_puts s (Some x) = refl

registered_puts : (s : Session) (entry : Option TopicEntry) → MakesNone (id_known s entry)
registered_puts s None = refl
registered_puts s (Some entry) = refl

regack_puts : (s : Session) (code : ℕ) (put : Option Put) → MakesNone (regack_of s code put)
regack_puts s code None = refl
regack_puts s code (Some put) =
    choose_none (code == 0) _ _ (registered_puts s (topic_named put.topic s.topics)) (choose_none (code == 1) _ _ refl refl)

acknowledge_puts : (predefined : Entries) (peer : Peer) (s : Session) (pending : List Put) (frame : Frame) → MakesNone (acknowledge predefined peer s pending frame)
acknowledge_puts predefined peer s pending (frames.PubAck topic_id msg_id code) = puback_puts predefined s code (put_awaiting s pending Published msg_id)
acknowledge_puts predefined peer s pending (frames.PubRec msg_id) = pubrec_puts peer s pending msg_id (awaiting_pubrec s pending msg_id)
acknowledge_puts predefined peer s pending (frames.PubComp msg_id) = pubcomp_puts s (awaiting s pending Released msg_id)
acknowledge_puts predefined peer s pending (frames.RegAck topic_id msg_id code) = regack_puts s code (put_awaiting s pending Registering msg_id)
acknowledge_puts predefined peer s pending frame = refl

pub pubrel_of_made : (seen : Seen) (a : Addr) (bound : Option (List ℕ)) (msg_id now : ℕ) → MakesNone (pubrel_of seen a bound msg_id now).draft
pubrel_of_made seen a None msg_id now = refl
pubrel_of_made seen a (Some c) msg_id now = changed_puts (release (session_of seen c) msg_id) nothing

pub ack_of_made : (predefined : Entries) (seen : Seen) (a : Addr) (bound : Option (List ℕ)) (frame : Frame) (now : ℕ) → MakesNone (ack_row predefined seen a bound frame now).draft
ack_of_made predefined seen a None frame now = refl
ack_of_made predefined seen a (Some c) frame now = acknowledge_puts predefined (peer_at a c now) (session_of seen c) (seen.of c).pending frame

-- ---- waking makes no message

choose_row : (b : Bool) (x y : Row) → MakesNone x.draft → MakesNone y.draft → MakesNone (if b then x else y).draft
choose_row true x y h k = h
choose_row false x y h k = k

woken_puts : (a : Addr) (c : List ℕ) (s : Session) (idle : Bool) (d : Drafted) (state : State) → MakesNone d → MakesNone (woken_by a c s idle d state).draft
woken_puts a c s idle d Active h = h
woken_puts a c s idle d Asleep h = choose_row idle _ _ h h
woken_puts a c s idle d Awake h = choose_row idle _ _ h h
woken_puts a c s idle d Disconnected h = refl
woken_puts a c s idle d Lost h = refl

woken_if_puts : (g : ℕ) (a : Addr) (c : List ℕ) (v : ClientView) (now : ℕ) (session : Option Session) → MakesNone (woken_if g a c v now session).draft
woken_if_puts g a c v now None = refl
woken_if_puts g a c v now (Some s) =
    woken_puts a c s (has_nothing s v.pending) (bound_to a c now (claimed g v s)) s.presence
    (choose_none (is_stamp_of g v.stamp) nothing (changed (Take s) nothing) refl refl)

wake_of_puts : (g : ℕ) (seen : Seen) (a : Addr) (bound : Option (List ℕ)) (now : ℕ) → MakesNone (wake_of g seen a bound now).draft
wake_of_puts g seen a None now = refl
wake_of_puts g seen a (Some c) now = woken_if_puts g a c (seen.of c) now (seen.of c).session

heard_none : (bound : Option (List ℕ)) (now : ℕ) (row : Row) → MakesNone row.draft → MakesNone (row_with_timer bound now row).draft
heard_none None now row h = h
heard_none (Some c) now row h = h

pub wake_made : (g : ℕ) (seen : Seen) (local : Local) (a : Addr) (c : List ℕ) (now : ℕ) → MakesNone (wake g seen local a c now).draft
wake_made g seen local a c now =
    choose_row (length c == 0) _ _ (wake_of_puts g seen a (client_at a local.bindings) now)
    (heard_none (client_at a local.bindings) now (woken g seen a c now) (woken_if_puts g a c (seen.of c) now (seen.of c).session))

-- ---- each row has at most one message a client

row_one : (g : ℕ) (predefined : Entries) (S : List Op) (local : Local) (a : Addr) (frame : Frame) (now : ℕ) → PutsApart (row_for g predefined (seen_of S) local a frame now).draft
row_one g predefined S local a (frames.Connect flags protocol duration client) now = none_row (row_for g predefined (seen_of S) local a (frames.Connect flags protocol duration client) now) (connect-made (seen_of S) local a flags.bits protocol duration client now)
row_one g predefined S local a (frames.WillTopic will) now = none_row (row_for g predefined (seen_of S) local a (frames.WillTopic will) now) (will_topic-made (seen_of S) a now local will)
row_one g predefined S local a (frames.WillMsg message) now = none_row (row_for g predefined (seen_of S) local a (frames.WillMsg message) now) (will_msg-made (seen_of S) a now local message)
row_one g predefined S local a (frames.Disconnect duration) now = none_row (row_for g predefined (seen_of S) local a (frames.Disconnect duration) now) (disconnect-made (seen_of S) local a duration now)
row_one g predefined S local a (frames.Register topic_id msg_id name) now = none_row (row_for g predefined (seen_of S) local a (frames.Register topic_id msg_id name) now) (register-made (seen_of S) a now local msg_id name)
row_one g predefined S local a (frames.Subscribe flags msg_id topic) now = no_message (row_for g predefined (seen_of S) local a (frames.Subscribe flags msg_id topic) now).draft (subscribe-puts (seen_of S) a now predefined local flags.bits msg_id topic)
row_one g predefined S local a (frames.Unsubscribe flags msg_id topic) now = none_row (row_for g predefined (seen_of S) local a (frames.Unsubscribe flags msg_id topic) now) (unsubscribe-made (seen_of S) a now predefined local flags.bits msg_id topic)
row_one g predefined S local a (frames.WillTopicUpd will) now = none_row (row_for g predefined (seen_of S) local a (frames.WillTopicUpd will) now) (will_topic_update-made local a will now)
row_one g predefined S local a (frames.WillMsgUpd message) now = none_row (row_for g predefined (seen_of S) local a (frames.WillMsgUpd message) now) (will_msg_update-made (seen_of S) a now local message)
row_one g predefined S local a (frames.Publish flags topic msg_id body) now = publish_in_one S predefined local a flags.bits topic msg_id body now (qos_of flags.bits)
row_one g predefined S local a (frames.PubRel msg_id) now = none_row (row_for g predefined (seen_of S) local a (frames.PubRel msg_id) now) (pubrel_of_made (seen_of S) a (client_at a local.bindings) msg_id now)
row_one g predefined S local a (frames.PubAck topic_id msg_id code) now = none_row (row_for g predefined (seen_of S) local a (frames.PubAck topic_id msg_id code) now) (ack_of_made predefined (seen_of S) a (client_at a local.bindings) (frames.PubAck topic_id msg_id code) now)
row_one g predefined S local a (frames.PubRec msg_id) now = none_row (row_for g predefined (seen_of S) local a (frames.PubRec msg_id) now) (ack_of_made predefined (seen_of S) a (client_at a local.bindings) (frames.PubRec msg_id) now)
row_one g predefined S local a (frames.PubComp msg_id) now = none_row (row_for g predefined (seen_of S) local a (frames.PubComp msg_id) now) (ack_of_made predefined (seen_of S) a (client_at a local.bindings) (frames.PubComp msg_id) now)
row_one g predefined S local a (frames.RegAck topic_id msg_id code) now = none_row (row_for g predefined (seen_of S) local a (frames.RegAck topic_id msg_id code) now) (ack_of_made predefined (seen_of S) a (client_at a local.bindings) (frames.RegAck topic_id msg_id code) now)
row_one g predefined S local a (frames.PingReq client) now = none_row (row_for g predefined (seen_of S) local a (frames.PingReq client) now) (wake_made g (seen_of S) local a client now)
row_one g predefined S local a frame now = none_row (row_for g predefined (seen_of S) local a frame now) (other-made g local a frame now)

-- a moment makes no message
lasting_one : (moment : ℕ) (d : Drafted) → PutsApart d → PutsApart (lasting moment d)
lasting_one moment d h = record { one_each = h.one_each; alone = h.alone }

pub step-drafted : (g lifetime : ℕ) (predefined : Entries) (S : List Op) (local : Local) (a : Addr) (frame : Frame) (now : ℕ) (plan : Plan) → step g lifetime predefined (seen_of S) local a frame now ≡ Some plan → IsOfDraft g (seen_of S) plan
unfolding step
step-drafted g lifetime predefined S local a frame now plan e =
    next-drafted g predefined (seen_of S) a now (row_lasting (expires_at lifetime now) (row_for g predefined (seen_of S) local a frame now)) plan
    (lasting_one (expires_at lifetime now) (row_for g predefined (seen_of S) local a frame now).draft (row_one g predefined S local a frame now)) e

-- ---- a tick

-- a plan without operations
without-drafted : (g : ℕ) (seen : Seen) (d : Drafted) (plan : Plan) → Some (plan_without d) ≡ Some plan → IsOfDraft g seen plan
without-drafted g seen d plan e = row-drafted g seen (row_of_none (record d { handed = []; retain = None; puts = [] })) plan (record { one_each = tt; alone = inl refl }) e

ended_puts : (now : ℕ) (d : Drafted) (dialog : WillDialog) → SameMade (dialog_ended now d dialog) d
ended_puts now d dialog = choose_same (nat_le 60 (elapsed now dialog.begun)) _ d d refl refl

begun_puts : (g : ℕ) (seen : Seen) (timers : List Timer) (now : ℕ) (d : Drafted) (c : List ℕ) → SameMade (timer_begun g seen timers now d c) d
begun_puts g seen timers now d c = choose_same (needs_timer g timers c (seen.of c)) _ d d refl refl

pub cleaned_made : (g : ℕ) (seen : Seen) (local : Local) (now : ℕ) → SameMade (begin_tick g seen local now) nothing
cleaned_made g seen local now =
    fold_keeps (timer_begun g seen local.timers now) made (begun_puts g seen local.timers now) seen.all (dialogs_ended now local.dialogs nothing)
    ∙ fold_keeps (dialog_ended now) made (ended_puts now) local.dialogs nothing

expired_puts : (now : ℕ) (name : Option (ℕ × ℕ)) (d : Drafted) (put : Put) → SameMade (expiry_acked now name d put) d
expired_puts now name d put = choose_same (is_expired now name put) _ d d refl refl

-- an expiry makes no message, and changes no moment
pub expired_made : (seen : Seen) (local : Local) (now : ℕ) (c : List ℕ) (d : Drafted) → SameMade (expire_all seen local now c d) d
expired_made seen local now c d =
    fold_keeps (expiry_acked now (under_way (seen.of c).pending (address_of c local.bindings) (seen.of c).session)) made
    (expired_puts now (under_way (seen.of c).pending (address_of c local.bindings) (seen.of c).session)) (seen.of c).pending d

expired_moment : (now : ℕ) (name : Option (ℕ × ℕ)) (d : Drafted) (put : Put) → SameKept (expiry_acked now name d put) d
expired_moment now name d put = choose_kept (is_expired now name put) _ d d refl refl

pub expired_expires : (seen : Seen) (local : Local) (now : ℕ) (c : List ℕ) (d : Drafted) → (expire_all seen local now c d).expires ≡ d.expires
expired_expires seen local now c d =
    fold_keeps (expiry_acked now (under_way (seen.of c).pending (address_of c local.bindings) (seen.of c).session)) (λ (e : Drafted). e.expires)
    (λ e put. ap (λ (m : MadeUntil). m.1) (expired_moment now (under_way (seen.of c).pending (address_of c local.bindings) (seen.of c).session) e put)) (seen.of c).pending d

module _ (g : ℕ) (predefined : Entries) (S : List Op) (local : Local) (now : ℕ) (plan : Plan) (d : Drafted) (same : SameMade d nothing) where
  none : d.puts ≡ []
  none = no_puts d same

  bare : d.handed ≡ []
  bare = no_handed d same

  due-drafted : (c : List ℕ) (due : Due) → plan_due g predefined (seen_of S) local now d c due ≡ Some plan → IsOfDraft g (seen_of S) plan
  due-drafted c dues.Expiry e =
      row-drafted g (seen_of S) (row_of follows.Nothing c (expire_all (seen_of S) local now c d)) plan
      (none_one (expire_all (seen_of S) local now c d) (expired_made (seen_of S) local now c d ∙ same)) e
  due-drafted c dues.Loss e =
      row-drafted g (seen_of S) (row_of follows.Nothing c (lost (seen_of S) c (session_of (seen_of S) c) d)) plan
      (record {
        one_each = subst (λ (puts : List NewPut). IsOneEach (puts ++ will_puts (seen_of S) c (session_of (seen_of S) c).will)) (sym none) (will_one S c (session_of (seen_of S) c).will);
        alone = inl bare;
      }) e
  due-drafted c (dues.Retry a) e = next-drafted g predefined (seen_of S) a now (row_of follows.Resend c (moved (Retried c now) d)) plan (none_one (moved (Retried c now) d) same) e
  due-drafted c (dues.Delivery a) e = next-drafted g predefined (seen_of S) a now (row_of follows.Delivery c d) plan (none_one d same) e

  if_due-drafted : (found : Option (List ℕ × Due)) → plan_if_due g predefined (seen_of S) local now d found ≡ Some plan → IsOfDraft g (seen_of S) plan
  if_due-drafted None e = without-drafted g (seen_of S) d plan e
  if_due-drafted (Some found) e = due-drafted found.0 found.1 e

  either-drafted : (b : Bool) (advertised found : Option Plan) → (advertised ≡ Some plan → IsOfDraft g (seen_of S) plan) → (found ≡ Some plan → IsOfDraft g (seen_of S) plan)
      → (if b then advertised else found) ≡ Some plan → IsOfDraft g (seen_of S) plan
  either-drafted true advertised found h k e = h e
  either-drafted false advertised found h k e = k e

pub tick-drafted : (g lifetime advertise : ℕ) (field : List Addr) (predefined : Entries) (S : List Op) (local : Local) (now : ℕ) (plan : Plan) → tick g lifetime advertise field predefined (seen_of S) local now ≡ Some plan → IsOfDraft g (seen_of S) plan
tick-drafted g lifetime advertise field predefined S local now plan e =
    let d : Drafted = lasting (expires_at lifetime now) (begin_tick g (seen_of S) local now) in
    either-drafted g predefined S local now plan d (cleaned_made g (seen_of S) local now) (may_advertise advertise field now local.advertised)
    (Some (plan_without (advertised g advertise field now d))) (plan_if_due g predefined (seen_of S) local now d (first_due g (seen_of S) local now (clients S)))
    (without-drafted g (seen_of S) (advertised g advertise field now d) plan)
    (if_due-drafted g predefined S local now plan d (cleaned_made g (seen_of S) local now) (first_due g (seen_of S) local now (clients S))) e
