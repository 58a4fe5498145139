-- What the draft of a tick changes locally, and what a tick does first.
use Rattle.std.proofs.Common.{◌≡◌, ℕ, ◌==◌, Bool, true, false, ◌&&◌, if◌then◌else◌, is_none, nat_le, List, [], ◌∷◌, ◌++◌, fold, Option, Some, None, refl, sym, true≢false, inl}
use Rattle.std.proofs.lemmas.Bool.{and_parts}
use Rattle.sn_topic.specs.Table.{Entries}
use Rattle.sn_session.specs.declared.outbound.Outbound.{Outbound as Exchange}
use Rattle.sn_session.specs.declared.outbound.Phase.{Phase}
use Rattle.sn_session.specs.declared.outbound.Phase.TheVariants.{Registering, Published, Released}
use Rattle.sn_session.specs.declared.session.Session.{Session}
use Rattle.sn_tables.specs.declared.topics.TopicEntry.{TopicEntry}
use Rattle.sn_session.specs.declared.change.SessionOp.{SessionOp}
use Rattle.sn_tables.specs.Topics.{topic_named}
use Rattle.rep_op.specs.declared.op.Put.{Put}
use Rattle.sn_local.specs.declared.config.Addr.{Addr}
use Rattle.sn_local.specs.declared.local.WillDialog.{WillDialog}
use Rattle.sn_local.specs.declared.local.LocalChange.{LocalChange}
use Rattle.sn_local.specs.declared.local.LocalChange.TheVariants.{Heard, Sent, Resent, Retried, EndDialog}
use Rattle.sn_plan.specs.Drafts.{Drafted, nothing, changed_if, lasting, moved, session_after}
use Rattle.sn_local.specs.Seen.{Seen}
use Rattle.sn_local.specs.Bindings.{is_stamp_of}
use Rattle.sn_plan.specs.Bound.{session_of}
use Rattle.sn_plan.specs.Others.{can_wake}
use Rattle.sn_local.specs.Timers.{timer_of}
use Rattle.sn_local.specs.Locals.{Local}
use Rattle.sn_exchange.specs.declared.delivery.ToldId.{ToldId}
use Rattle.sn_exchange.specs.declared.form.Form.{Form}
use Rattle.sn_exchange.specs.declared.peer.Peer.{Peer}
use Rattle.sn_exchange.specs.Forms.{form_of, form_again}
use Rattle.sn_exchange.specs.Exchanges.{left, put_left, message_of, open_exchange, is_served, is_awake}
use Rattle.sn_exchange.specs.Delivery.{Stop, id_to_tell, register_first, deliver_by, none_left, and_then, deliver, deliver_left, deliver_if}
use Rattle.sn_exchange.specs.Resending.{register_by, register_again, publish_by, publish_again, resend_in, resend_if}
use Rattle.sn_exchange.specs.Following.{peer_at}
use Rattle.sn_tick.specs.Due.{elapsed}
use Rattle.sn_tick.specs.Ticking.{dialog_ended, needs_timer, timer_begun, begin_tick}
use Rattle.step_laws.proofs.Timing.{AreKept, kept-ended, kept-heard, kept-sent, kept-resent, kept-retried}

-- ---- what follows a row

-- what holds of local changes, and of one frame more that is sent, or sent again
module _ (P : List LocalChange → Type 0) (predefined : Entries) (peer : Peer)
    (sends : (changes : List LocalChange) → P changes → P (changes ++ Sent peer.client peer.moment ∷ []))
    (resends : (changes : List LocalChange) → P changes → P (changes ++ Resent peer.client peer.moment ∷ [])) where
  abbrev Has : Drafted → Type 0
  Has d = P d.local

  choose_has : (b : Bool) (x y : Drafted) → Has x → Has y → Has (if b then x else y)
  choose_has true x y h k = h
  choose_has false x y h k = k

  choose_stop_has : (b : Bool) (x y : Stop) → Has x.1 → Has y.1 → Has (if b then x else y).1
  choose_stop_has true x y h k = h
  choose_stop_has false x y h k = k

  changed_has : (change : Option SessionOp) (d : Drafted) → Has d → Has (changed_if change d)
  changed_has None d h = h
  changed_has (Some change) d h = h

  stop_has : (more : Drafted → Drafted) (stop : Stop) → ((e : Drafted) → Has e → Has (more e)) → Has stop.1 → Has (and_then more stop)
  stop_has more (true, e) keeps h = h
  stop_has more (false, e) keeps h = keeps e h

  module _ (s : Session) where
    none_has : (d : Drafted) → Has d → Has (none_left peer s d)
    none_has d h = choose_has (is_awake s.presence) _ d h h

    told_has : (put : Put) (found : Option ToldId) (d : Drafted) → Has d → Has (register_first peer s put found d).1
    told_has put None d h = h
    told_has put (Some told) d h = sends (changed_if told.change d).local (changed_has told.change d h)

    form_has : (put : Put) (form : Option Form) (d : Drafted) → Has d → Has (deliver_by peer s put form d).1
    form_has put None d h = told_has put (id_to_tell s put.topic) d h
    form_has put (Some form) d h = choose_stop_has (put.qos == 0) _ _ h (sends d.local h)

    deliver_has : (pending : List Put) (d : Drafted) → Has d → Has (deliver predefined peer s pending d)
    deliver_has [] d h = none_has d h
    deliver_has (put ∷ rest) d h =
        stop_has (deliver predefined peer s rest) (deliver_by peer s put (form_of predefined s put.topic) d) (λ e. deliver_has rest e) (form_has put (form_of predefined s put.topic) d h)

    left_has : (pending : List Put) (d : Drafted) → Has d → Has (deliver_left predefined peer s pending d)
    left_has pending d h = deliver_has (left d.acks pending) d h

    pub deliver_if_has : (pending : List Put) (d : Drafted) → Has d → Has (deliver_if predefined peer s pending d)
    deliver_if_has pending d h = choose_has (is_served s.presence && is_none (open_exchange s d.acks pending)) _ d (left_has pending d h) h

    register_by_has : (put : Put) (msg_id : ℕ) (entry : Option TopicEntry) (d : Drafted) → Has d → Has (register_by peer s put msg_id entry d).1
    register_by_has put msg_id None d h = h
    register_by_has put msg_id (Some entry) d h = resends d.local h

    register_again_has : (msg_id : ℕ) (put : Option Put) (d : Drafted) → Has d → Has (register_again peer s msg_id put d).1
    register_again_has msg_id None d h = h
    register_again_has msg_id (Some put) d h = register_by_has put msg_id (topic_named put.topic s.topics) d h

    publish_by_has : (put : Put) (msg_id : ℕ) (form : Option Form) (d : Drafted) → Has d → Has (publish_by peer s put msg_id form d).1
    publish_by_has put msg_id None d h = h
    publish_by_has put msg_id (Some form) d h = resends d.local h

    publish_again_has : (msg_id : ℕ) (put : Option Put) (d : Drafted) → Has d → Has (publish_again predefined peer s msg_id put d).1
    publish_again_has msg_id None d h = h
    publish_again_has msg_id (Some put) d h = publish_by_has put msg_id (form_again predefined s put.topic) d h

    resend_in_has : (msg_id : ℕ) (phase : Phase) (put : Option Put) (d : Drafted) → Has d → Has (resend_in predefined peer s msg_id phase put d).1
    resend_in_has msg_id Registering put d h = register_again_has msg_id put d h
    resend_in_has msg_id Published put d h = publish_again_has msg_id put d h
    resend_in_has msg_id Released put d h = resends d.local h

    pub resend_has : (pending : List Put) (x : Option Exchange) (d : Drafted) → Has d → Has (resend_if predefined peer s pending x d)
    resend_has pending None d h = deliver_if_has pending d h
    resend_has pending (Some x) d h =
        stop_has (deliver_left predefined peer s pending) (resend_in predefined peer s x.msg_id x.phase (put_left d.acks pending (message_of x)) d)
        (λ e. left_has pending e) (resend_in_has x.msg_id x.phase (put_left d.acks pending (message_of x)) d h)

-- ---- what every tick does first

abbrev pub Anyone : List ℕ → Type 0
Anyone x = Unit {0}

-- a draft that changes no session, acknowledges, hands and makes nothing, and keeps the local state
pub record IsClean (now : ℕ) (local : Local) (d : Drafted) : Type 0 where
  pub changes : d.changes ≡ []
  pub acks : d.acks ≡ []
  pub handed : d.handed ≡ []
  pub puts : d.puts ≡ []
  pub kept : AreKept now local Anyone d.local

fold_has : {A B : Type 0} (P : A → Type 0) (f : A → B → A) → ((a : A) (b : B) → P a → P (f a b)) → (bs : List B) (a : A) → P a → P (fold f a bs)
fold_has P f keeps [] a h = h
fold_has P f keeps (b ∷ bs) a h = fold_has P f keeps bs (f a b) (keeps a b h)

none_is : {X : Type 0} (o : Option X) → is_none o ≡ true → o ≡ None
none_is None e = refl
none_is (Some x) e = absurd (true≢false (sym e))

module _ (now : ℕ) (local : Local) where
  clean_moved : (change : LocalChange) (d : Drafted) → IsClean now local d → AreKept now local Anyone (d.local ++ change ∷ []) → IsClean now local (moved change d)
  clean_moved change d h kept = record { changes = h.changes; acks = h.acks; handed = h.handed; puts = h.puts; kept = kept }

  pub lasting-clean : (moment : ℕ) (d : Drafted) → IsClean now local d → IsClean now local (lasting moment d)
  lasting-clean moment d h = record { changes = h.changes; acks = h.acks; handed = h.handed; puts = h.puts; kept = h.kept }

  clean_if : (b : Bool) (x d : Drafted) → (b ≡ true → IsClean now local x) → IsClean now local d → IsClean now local (if b then x else d)
  clean_if true x d h k = h refl
  clean_if false x d h k = k

  nothing_clean : IsClean now local nothing
  nothing_clean = record { changes = refl; acks = refl; handed = refl; puts = refl; kept = record { bindings = refl; advertised = refl; timers = λ x is. inl refl } }

  dialog_clean : (d : Drafted) (dialog : WillDialog) → IsClean now local d → IsClean now local (dialog_ended now d dialog)
  dialog_clean d dialog h =
      clean_if (nat_le 60 (elapsed now dialog.begun)) (moved (EndDialog dialog.request.address) d) d
      (λ _. clean_moved (EndDialog dialog.request.address) d h (kept-ended now local Anyone d.local h.kept dialog.request.address)) h

  timer_clean : (g : ℕ) (seen : Seen) (d : Drafted) (c : List ℕ) → IsClean now local d → IsClean now local (timer_begun g seen local.timers now d c)
  timer_clean g seen d c h =
      clean_if (needs_timer g local.timers c (seen.of c)) (moved (Heard c now) d) d
      (λ needs.
      let parts = and_parts (is_stamp_of g (seen.of c).stamp && can_wake (seen.of c).session) (is_none (timer_of c local.timers)) needs in
      clean_moved (Heard c now) d h (kept-heard now local Anyone d.local h.kept c (none_is (timer_of c local.timers) parts.1)))
      h

  pub cleaned-clean : (g : ℕ) (seen : Seen) → IsClean now local (begin_tick g seen local now)
  cleaned-clean g seen =
      fold_has (IsClean now local) (timer_begun g seen local.timers now) (timer_clean g seen) seen.all (fold (dialog_ended now) nothing local.dialogs)
      (fold_has (IsClean now local) (dialog_ended now) dialog_clean local.dialogs nothing nothing_clean)

-- ---- what a tick does with a client

abbrev pub IsAnother : List ℕ → List ℕ → Type 0
IsAnother c x = ¬ (x ≡ c)

module _ (predefined : Entries) (seen : Seen) (a : Addr) (now : ℕ) (c : List ℕ) (local : Local) where
  abbrev Kept : List LocalChange → Type 0
  Kept changes = AreKept now local (IsAnother c) changes

  others_only : (changes : List LocalChange) → AreKept now local Anyone changes → Kept changes
  others_only changes h = record { bindings = h.bindings; advertised = h.advertised; timers = λ x is. h.timers x tt }

  sends_kept : (changes : List LocalChange) → Kept changes → Kept (changes ++ Sent c now ∷ [])
  sends_kept changes h = kept-sent now local (IsAnother c) changes h c (λ x is. is)

  resends_kept : (changes : List LocalChange) → Kept changes → Kept (changes ++ Resent c now ∷ [])
  resends_kept changes h = kept-resent now local (IsAnother c) changes h c (λ x is. is)

  pub delivery-kept : (d : Drafted) → AreKept now local Anyone d.local
      → Kept (deliver_if predefined (peer_at a c now) (session_after (session_of seen c) d) (seen.of c).pending d).local
  delivery-kept d h =
      deliver_if_has Kept predefined (peer_at a c now) sends_kept resends_kept (session_after (session_of seen c) d) (seen.of c).pending d (others_only d.local h)

  pub retry-kept : (d : Drafted) → AreKept now local Anyone d.local
      → Kept (resend_if predefined (peer_at a c now) (session_after (session_of seen c) (moved (Retried c now) d)) (seen.of c).pending
      (open_exchange (session_after (session_of seen c) (moved (Retried c now) d)) d.acks (seen.of c).pending) (moved (Retried c now) d)).local
  retry-kept d h =
      resend_has Kept predefined (peer_at a c now) sends_kept resends_kept (session_after (session_of seen c) (moved (Retried c now) d)) (seen.of c).pending
      (open_exchange (session_after (session_of seen c) (moved (Retried c now) d)) d.acks (seen.of c).pending) (moved (Retried c now) d)
      (kept-retried now local (IsAnother c) d.local (others_only d.local h) c (λ x is. is))
