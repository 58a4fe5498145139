-- Drafts after which a bound client is up: its changes keep it up, or take it over so, or it is bound no more.
use Rattle.std.proofs.Common.{◌≡◌, ◌⊎◌, ℕ, Bool, true, false, ◌&&◌, is_none, if◌then◌else◌, List, [], ◌∷◌, ◌++◌, Option, Some, None, IfSome, refl, ap, ◌∙◌, inl, inr, ◌==◌}
use Rattle.std.specs.List.{AllByRecursion}
use Rattle.std.proofs.lemmas.List.{append_assoc}
use Rattle.sn_topic.specs.Table.{Entries}
use Rattle.sn_session.specs.declared.presence.Presence.TheVariants.{Asleep}
use Rattle.sn_session.specs.declared.outbound.Outbound.{Outbound as Exchange}
use Rattle.sn_session.specs.declared.outbound.Phase.{Phase}
use Rattle.sn_session.specs.declared.outbound.Phase.TheVariants.{Registering, Published, Released}
use Rattle.sn_session.specs.declared.session.Session.{Session}
use Rattle.sn_tables.specs.declared.topics.TopicEntry.{TopicEntry}
use Rattle.sn_session.specs.declared.change.SessionOp.{SessionOp}
use Rattle.sn_session.specs.declared.change.SessionOp.TheVariants.{Take, Presence, Outbound}
use Rattle.sn_tables.specs.Topics.{topic_named, free_id}
use Rattle.sn_frame.specs.declared.frame.Frame.{Frame}
use Rattle.sn_frame.specs.declared.frame.Frame.TheVariants as frames
use Rattle.rep_op.specs.declared.op.Put.{Put}
use Rattle.rep_op.specs.Orders.{name_of}
use Rattle.rep_model.specs.declared.view.ClientView.{ClientView}
use Rattle.sn_local.specs.declared.config.Addr.{Addr}
use Rattle.sn_plan.specs.declared.draft.NewPut.{NewPut}
use Rattle.sn_plan.specs.declared.draft.Posted.{Posted}
use Rattle.sn_local.specs.declared.local.LocalChange.{LocalChange}
use Rattle.sn_local.specs.declared.local.LocalChange.TheVariants.{Bind, Unbind, Sent, Resent}
use Rattle.sn_plan.specs.declared.row.Follow.{Follow}
use Rattle.sn_plan.specs.declared.row.Follow.TheVariants as follows
use Rattle.sn_local.specs.Bindings.{is_stamp_of}
use Rattle.sn_plan.specs.Drafts.{Drafted, nothing, changed, changed_if, acked, hand_all, retain_if, put_all, sent, moved, session_after}
use Rattle.sn_plan.specs.Others.{is_up, can_wake}
use Rattle.sn_plan.proofs.Lists.{all-append}
use Rattle.sn_exchange.specs.declared.form.Form.{Form}
use Rattle.sn_exchange.specs.declared.peer.Peer.{Peer}
use Rattle.sn_exchange.specs.declared.delivery.ToldId.{ToldId}
use Rattle.sn_exchange.specs.Forms.{form_of, form_again, publication}
use Rattle.sn_exchange.specs.Exchanges.{left, put_left, message_of, open_exchange, is_served, is_awake}
use Rattle.sn_exchange.specs.Delivery.{next_after, Stop, exchange_begun, entry_or_fresh, id_to_tell, register_first, deliver_by, and_then, deliver, deliver_left, deliver_if}
use Rattle.sn_exchange.specs.Resending.{register_by, register_again, publish_by, publish_again, resend_in, resend_if}
use Rattle.sn_exchange.specs.Following.{followed_by}

-- after the change a client that was up is up; a Take has it so
abbrev pub KeepsUp : SessionOp → Type 0
KeepsUp (Take s) = is_up s.presence ≡ true
KeepsUp (Presence state duration) = is_up state ≡ true
KeepsUp change = Unit {0}

-- nobody is bound; nobody but the client
abbrev pub IsNoBind : LocalChange → Type 0
IsNoBind (Bind a c) = ⊥
IsNoBind change = Unit {0}

abbrev pub BindsTo : List ℕ → LocalChange → Type 0
BindsTo c (Bind a e) = e ≡ c
BindsTo c change = Unit {0}

-- the first change takes the client over
abbrev pub BeginsAnew : List SessionOp → Type 0
BeginsAnew [] = ⊥
BeginsAnew (Take s ∷ rest) = Unit {0}
BeginsAnew (change ∷ rest) = ⊥

-- by its view the client is the gateway's, and up
abbrev pub IsViewUp : ℕ → ClientView → Type 0
IsViewUp g v = (is_stamp_of g v.stamp ≡ true) × (can_wake v.session ≡ true)

-- the client stays as it was; or it is bound, and was up or is taken over; or it is bound no more
abbrev pub Stays : Drafted → Type 0
Stays d = AllByRecursion KeepsUp d.changes × AllByRecursion IsNoBind d.local

abbrev pub Comes : ℕ → List ℕ → ClientView → Drafted → Type 0
Comes g c v d = AllByRecursion KeepsUp d.changes × AllByRecursion (BindsTo c) d.local × (IsViewUp g v ⊎ BeginsAnew d.changes)

abbrev pub Goes : List ℕ → Drafted → Type 0
Goes c d = AllByRecursion IsNoBind d.local × ((xs : List LocalChange) × (ys : List LocalChange) × (d.local ≡ xs ++ Unbind c ∷ ys))

pub record Fits (g : ℕ) (c : List ℕ) (v : ClientView) (d : Drafted) : Type 0 where
  pub is : Stays d ⊎ (Comes g c v d ⊎ Goes c d)

pub fits-nothing : {g : ℕ} {c : List ℕ} {v : ClientView} → Fits g c v nothing
fits-nothing = record { is = inl (tt, tt) }

begins-more : (xs ys : List SessionOp) → BeginsAnew xs → BeginsAnew (xs ++ ys)
begins-more [] ys h = absurd h
begins-more (Take s ∷ rest) ys h = tt
begins-more (change ∷ rest) ys h = absurd h

was-or-begins : (P : Type 0) (xs ys : List SessionOp) → P ⊎ BeginsAnew xs → P ⊎ BeginsAnew (xs ++ ys)
was-or-begins P xs ys (inl was) = inl was
was-or-begins P xs ys (inr begins) = inr (begins-more xs ys begins)

no-bind-to : (c : List ℕ) (change : LocalChange) → IsNoBind change → BindsTo c change
no-bind-to c (Bind a e) h = absurd h
no-bind-to c change h = tt

module _ (g : ℕ) (c : List ℕ) (v : ClientView) where
  changed-is : (change : SessionOp) (d : Drafted) → KeepsUp change → Stays d ⊎ (Comes g c v d ⊎ Goes c d) → Stays (changed change d) ⊎ (Comes g c v (changed change d) ⊎ Goes c (changed change d))
  changed-is change d keep (inl s) = inl (all-append KeepsUp d.changes (change ∷ []) s.0 (keep, tt), s.1)
  changed-is change d keep (inr (inl s)) =
      inr (inl (all-append KeepsUp d.changes (change ∷ []) s.0 (keep, tt), s.1, was-or-begins (IsViewUp g v) d.changes (change ∷ []) s.2))
  changed-is change d keep (inr (inr s)) = inr (inr s)

  moved-is : (change : LocalChange) (d : Drafted) → IsNoBind change → Stays d ⊎ (Comes g c v d ⊎ Goes c d) → Stays (moved change d) ⊎ (Comes g c v (moved change d) ⊎ Goes c (moved change d))
  moved-is change d none (inl s) = inl (s.0, all-append IsNoBind d.local (change ∷ []) s.1 (none, tt))
  moved-is change d none (inr (inl s)) =
      inr (inl (s.0, all-append (BindsTo c) d.local (change ∷ []) s.1 (no-bind-to c change none, tt), s.2))
  moved-is change d none (inr (inr s)) =
      inr (inr (
        all-append IsNoBind d.local (change ∷ []) s.0 (none, tt),
        (
          s.1.0,
          s.1.1 ++ change ∷ [],
          ap (λ (l : List LocalChange). l ++ change ∷ []) s.1.2 ∙ append_assoc s.1.0 (Unbind c ∷ s.1.1) (change ∷ []),
        ),
      ))

module _ {g : ℕ} {c : List ℕ} {v : ClientView} where
  pub fits-changed : (change : SessionOp) (d : Drafted) → KeepsUp change → Fits g c v d → Fits g c v (changed change d)
  fits-changed change d keep h = record { is = changed-is g c v change d keep h.is }

  pub fits-changed_if : (change : Option SessionOp) (d : Drafted) → IfSome change KeepsUp → Fits g c v d → Fits g c v (changed_if change d)
  fits-changed_if None d keep h = h
  fits-changed_if (Some change) d keep h = fits-changed change d keep h

  pub fits-acked : (name : ℕ × ℕ) (d : Drafted) → Fits g c v d → Fits g c v (acked name d)
  fits-acked name d h = record { is = h.is }

  pub fits-hand_all : (handed : List Posted) (d : Drafted) → Fits g c v d → Fits g c v (hand_all handed d)
  fits-hand_all handed d h = record { is = h.is }

  pub fits-retain_if : (posted : Option Posted) (d : Drafted) → Fits g c v d → Fits g c v (retain_if posted d)
  fits-retain_if posted d h = record { is = h.is }

  pub fits-put_all : (puts : List NewPut) (d : Drafted) → Fits g c v d → Fits g c v (put_all puts d)
  fits-put_all puts d h = record { is = h.is }

  pub fits-sent : (to : Addr) (frame : Frame) (d : Drafted) → Fits g c v d → Fits g c v (sent to frame d)
  fits-sent to frame d h = record { is = h.is }

  pub fits-moved : (change : LocalChange) (d : Drafted) → IsNoBind change → Fits g c v d → Fits g c v (moved change d)
  fits-moved change d none h = record { is = moved-is g c v change d none h.is }

  pub choose-fits : (b : Bool) (x y : Drafted) → Fits g c v x → Fits g c v y → Fits g c v (if b then x else y)
  choose-fits true x y h k = h
  choose-fits false x y h k = k

-- ---- what follows a row

told-keeps : (name : List ℕ) (entry : Option TopicEntry) (free : Option ℕ) → IfSome (entry_or_fresh name entry free) (λ (told : ToldId). IfSome told.change KeepsUp)
told-keeps name None None = tt
told-keeps name None (Some id) = tt
told-keeps name (Some entry) free = tt

module _ (g : ℕ) (c : List ℕ) (v : ClientView) (predefined : Entries) (peer : Peer) (s : Session) where
  begun-fits : (put : Put) (phase : Phase) (frame : Frame) (d : Drafted) → Fits g c v d → Fits g c v (exchange_begun peer s put phase frame d)
  begun-fits put phase frame d h =
      let x : Exchange = record { origin = put.origin; seq = put.seq; msg_id = s.next_id; phase = phase } in
      fits-moved (Sent peer.client peer.moment) _ tt (fits-sent peer.address frame _ (fits-changed (Outbound (Some x) (next_after s.next_id)) d tt h))

  register_first-fits : (put : Put) (told : Option ToldId) (d : Drafted) → IfSome told (λ (t : ToldId). IfSome t.change KeepsUp) → Fits g c v d → Fits g c v (register_first peer s put told d).1
  register_first-fits put None d k h = fits-acked (name_of put) d h
  register_first-fits put (Some told) d k h =
      begun-fits put Registering (frames.Register told.id s.next_id put.topic) (changed_if told.change d) (fits-changed_if told.change d k h)

  publish-fits : (put : Put) (form : Form) (b : Bool) (d : Drafted) → Fits g c v d
      → Fits g c v (if◌then◌else◌ {A = Stop} b (false, acked (name_of put) (sent peer.address (publication false put 0 form) d)) (true, exchange_begun peer s put Published (publication false put s.next_id form) d)).1
  publish-fits put form true d h = fits-acked (name_of put) _ (fits-sent peer.address (publication false put 0 form) d h)
  publish-fits put form false d h = begun-fits put Published (publication false put s.next_id form) d h

  one-fits : (put : Put) (form : Option Form) (d : Drafted) → Fits g c v d → Fits g c v (deliver_by peer s put form d).1
  one-fits put None d h =
      register_first-fits put (id_to_tell s put.topic) d (told-keeps put.topic (topic_named put.topic s.topics) (free_id s.topics)) h
  one-fits put (Some form) d h = publish-fits put form (put.qos == 0) d h

  then-fits : (more : Drafted → Drafted) (stop : Stop) → Fits g c v stop.1 → ((e : Drafted) → Fits g c v e → Fits g c v (more e)) → Fits g c v (and_then more stop)
  then-fits more (true, e) h keeps = h
  then-fits more (false, e) h keeps = keeps e h

  deliver-fits : (pending : List Put) (d : Drafted) → Fits g c v d → Fits g c v (deliver predefined peer s pending d)
  deliver-fits [] d h = choose-fits (is_awake s.presence) _ d (fits-sent peer.address frames.PingResp _ (fits-changed (Presence Asleep s.duration) d refl h)) h
  deliver-fits (put ∷ rest) d h =
      then-fits (deliver predefined peer s rest) (deliver_by peer s put (form_of predefined s put.topic) d)
      (one-fits put (form_of predefined s put.topic) d h) (λ e k. deliver-fits rest e k)

  if-fits : (pending : List Put) (d : Drafted) → Fits g c v d → Fits g c v (deliver_if predefined peer s pending d)
  if-fits pending d h =
      choose-fits (is_served s.presence && is_none (open_exchange s d.acks pending)) _ d (deliver-fits (left d.acks pending) d h) h

  again-fits : (frame : Frame) (d : Drafted) → Fits g c v d → Fits g c v (moved (Resent peer.client peer.moment) (sent peer.address frame d))
  again-fits frame d h = fits-moved (Resent peer.client peer.moment) _ tt (fits-sent peer.address frame d h)

  given_up-fits : (d : Drafted) → Fits g c v d → Fits g c v (changed (Outbound None s.next_id) d)
  given_up-fits d h = fits-changed (Outbound None s.next_id) d tt h

  register_by-fits : (put : Put) (msg_id : ℕ) (entry : Option TopicEntry) (d : Drafted) → Fits g c v d → Fits g c v (register_by peer s put msg_id entry d).1
  register_by-fits put msg_id None d h = given_up-fits d h
  register_by-fits put msg_id (Some entry) d h = again-fits (frames.Register entry.id msg_id put.topic) d h

  register_again-fits : (msg_id : ℕ) (put : Option Put) (d : Drafted) → Fits g c v d → Fits g c v (register_again peer s msg_id put d).1
  register_again-fits msg_id None d h = given_up-fits d h
  register_again-fits msg_id (Some put) d h = register_by-fits put msg_id (topic_named put.topic s.topics) d h

  publish_by-fits : (put : Put) (msg_id : ℕ) (form : Option Form) (d : Drafted) → Fits g c v d → Fits g c v (publish_by peer s put msg_id form d).1
  publish_by-fits put msg_id None d h = given_up-fits d h
  publish_by-fits put msg_id (Some form) d h = again-fits (publication true put msg_id form) d h

  publish_again-fits : (msg_id : ℕ) (put : Option Put) (d : Drafted) → Fits g c v d → Fits g c v (publish_again predefined peer s msg_id put d).1
  publish_again-fits msg_id None d h = given_up-fits d h
  publish_again-fits msg_id (Some put) d h = publish_by-fits put msg_id (form_again predefined s put.topic) d h

  resend_in-fits : (msg_id : ℕ) (phase : Phase) (put : Option Put) (d : Drafted) → Fits g c v d → Fits g c v (resend_in predefined peer s msg_id phase put d).1
  resend_in-fits msg_id Registering put d h = register_again-fits msg_id put d h
  resend_in-fits msg_id Published put d h = publish_again-fits msg_id put d h
  resend_in-fits msg_id Released put d h = again-fits (frames.PubRel msg_id) d h

  resend-fits : (pending : List Put) (x : Option Exchange) (d : Drafted) → Fits g c v d → Fits g c v (resend_if predefined peer s pending x d)
  resend-fits pending None d h = if-fits pending d h
  resend-fits pending (Some x) d h =
      then-fits (deliver_left predefined peer s pending) (resend_in predefined peer s x.msg_id x.phase (put_left d.acks pending (message_of x)) d)
      (resend_in-fits x.msg_id x.phase (put_left d.acks pending (message_of x)) d h)
      (λ e k. deliver-fits (left e.acks pending) e k)

module _ (g : ℕ) (c : List ℕ) (v : ClientView) where
  pub followed-fits : (predefined : Entries) (peer : Peer) (s : Session) (pending : List Put) (d : Drafted) (follow : Follow) → Fits g c v d → Fits g c v (followed_by predefined peer s pending d follow)
  followed-fits predefined peer s pending d follows.Nothing h = h
  followed-fits predefined peer s pending d follows.Delivery h = if-fits g c v predefined peer (session_after s d) pending d h
  followed-fits predefined peer s pending d follows.Resend h =
      resend-fits g c v predefined peer (session_after s d) pending (open_exchange (session_after s d) d.acks pending) d h
