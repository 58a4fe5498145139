-- What Delivery is done with, what is put once, and what a tick does not do.
use Rattle.std.proofs.Common.{◌≡◌, ℕ, ◌⊎◌, ◌==◌, Bool, true, false, ◌&&◌, is_none, if◌then◌else◌, nat_le, List, [], ◌∷◌, ◌++◌, fold, Option, Some, None, Contains, refl, sym, ap, ◌∙◌, subst, true≢false, inl, inr, eqb-true}
use Rattle.std.proofs.lemmas.List.Elements.{Contains-push, Contains-push_cases, Contains-append_right, Contains-append_left}
use Rattle.sn_topic.specs.Table.{Entries}
use Rattle.sn_session.specs.declared.session.Session.{Session}
use Rattle.sn_session.specs.declared.change.SessionOp.{SessionOp}
use Rattle.sn_session.specs.declared.outbound.Outbound.{Outbound as Exchange}
use Rattle.sn_session.specs.declared.outbound.Phase.{Phase}
use Rattle.sn_session.specs.declared.outbound.Phase.TheVariants.{Published}
use Rattle.sn_session.specs.declared.change.SessionOp.TheVariants.{Presence, Received}
use Rattle.sn_session.specs.declared.presence.Presence.TheVariants.{Asleep}
use Rattle.sn_tables.specs.Received.{is_received, id_has_no_room}
use Rattle.sn_frame.specs.declared.frame.Frame.TheVariants as frames
use Rattle.sn_frame.specs.Grammar.{spelling}
use Rattle.rep_op.specs.declared.op.Put.{Put}
use Rattle.rep_op.specs.Orders.{name_of}
use Rattle.sn_local.specs.declared.config.Send.{Send}
use Rattle.sn_local.specs.declared.local.Timer.{Timer}
use Rattle.sn_local.specs.declared.local.WillDialog.{WillDialog}
use Rattle.sn_local.specs.declared.local.LocalChange.TheVariants.{Heard, EndDialog}
use Rattle.sn_plan.specs.Drafts.{Drafted, nothing, changed, changed_if, acked, lasting, sent, moved, session_after}
use Rattle.sn_local.specs.Lifetimes.{expires_at}
use Rattle.sn_local.specs.Seen.{Seen}
use Rattle.sn_plan.specs.Plans.{plan_without}
use Rattle.sn_local.specs.Locals.{Local}
use Rattle.sn_exchange.specs.declared.form.Form.{Form}
use Rattle.sn_exchange.specs.declared.peer.Peer.{Peer}
use Rattle.sn_exchange.specs.declared.delivery.ToldId.{ToldId}
use Rattle.sn_exchange.specs.Forms.{form_of, publication}
use Rattle.sn_publish.specs.Publishing.{posted}
use Rattle.sn_exchange.specs.Exchanges.{put_left, message_of, open_exchange, is_served, is_awake}
use Rattle.sn_exchange.specs.Delivery.{Stop, id_to_tell, exchange_begun, register_first, deliver_by, none_left, and_then, deliver, deliver_left, then_deliver}
use Rattle.sn_exchange.specs.Resending.{publish_by, publish_again, resend_in}
use Rattle.sn_tick.specs.Due.{elapsed, first_due}
use Rattle.sn_tick.specs.Ticking.{dialog_ended, dialogs_ended, needs_timer, timer_begun, begin_tick, advertised, plan_if_due}
use Rattle.sn_session.specs.Session.{session_changed}
use Rattle.step_laws.proofs.Receiving.{added, stays-received}
use Rattle.step_laws.specs.Laws.{IsDoneWith, IsOfOneDone, DeliveryKeeps, PutsOnce, ResentWithDup, TickIsQuiet}

-- ---- a test that chooses between drafts

choose_sends : (b : Bool) (x d : Drafted) → x.sends ≡ d.sends → (if b then x else d).sends ≡ d.sends
choose_sends true x d e = e
choose_sends false x d e = refl

choose_acks : (b : Bool) (x d : Drafted) → x.acks ≡ d.acks → (if b then x else d).acks ≡ d.acks
choose_acks true x d e = e
choose_acks false x d e = refl

choose_made : (b : Bool) (x y : Drafted) → b ≡ true → (x.puts ≡ []) × (x.retain ≡ None) → ((if b then x else y).puts ≡ []) × ((if b then x else y).retain ≡ None)
choose_made true x y e none = none
choose_made false x y e none = absurd (true≢false (sym e))

-- ---- a repeated publication

-- where two tests fail, the last draft is chosen
choose_last : (b c : Bool) (x y z : Drafted) (P : Drafted → Type 0) → b ≡ false → c ≡ false → P z → P (if b then x else (if c then y else z))
choose_last true c x y z P e f h = absurd (true≢false e)
choose_last false true x y z P e f h = absurd (true≢false f)
choose_last false false x y z P e f h = h

if_room : (b : Bool) (s made : Session) (id : ℕ) → b ≡ false → is_received id made.received ≡ true → is_received id (if b then s else made).received ≡ true
if_room true s made id e h = absurd (true≢false e)
if_room false s made id e h = h

pub puts-once : PutsOnce
puts-once = record {
  recorded = λ seen asked a s topic msg_id body name fresh room.
      choose_last (is_received msg_id s.received) (id_has_no_room msg_id s.received) (sent a (frames.PubRec msg_id) nothing) (sent a (frames.PubAck topic msg_id 1) nothing)
      (sent a (frames.PubRec msg_id) (changed (Received msg_id) (posted seen asked name 2 body)))
      (λ d. is_received msg_id (session_after s d).received ≡ true) fresh room
      (if_room (id_has_no_room msg_id s.received) s (session_changed s (Received msg_id)) msg_id room (added msg_id s.received));
  stays = stays-received;
  repeated = λ seen asked a s topic msg_id body name received.
      choose_made (is_received msg_id s.received) (sent a (frames.PubRec msg_id) nothing)
      (if id_has_no_room msg_id s.received then sent a (frames.PubAck topic msg_id 1) nothing
      else sent a (frames.PubRec msg_id) (changed (Received msg_id) (posted seen asked name 2 body)))
      received (refl, refl);
}

-- ---- an exchange that is open

-- where the second of two tests fails, the other draft is chosen
choose_other : (b c : Bool) (x d : Drafted) → c ≡ false → (if b && c then x else d) ≡ d
choose_other true true x d e = absurd (true≢false e)
choose_other true false x d e = refl
choose_other false c x d e = refl

pub delivery-rests : (predefined : Entries) (peer : Peer) (s : Session) (pending : List Put) (d : Drafted) (x : Exchange)
    → open_exchange (session_after s d) d.acks pending ≡ Some x → then_deliver predefined peer s pending d ≡ d
delivery-rests predefined peer s pending d x is =
    choose_other (is_served (session_after s d).presence) (is_none (open_exchange (session_after s d) d.acks pending))
    (deliver_left predefined peer (session_after s d) pending d) d (ap is_none is)

-- ---- a PUBLISH that is sent again

pub resent-with-dup : ResentWithDup
resent-with-dup predefined peer s pending x put form d is_published is_put is_form =
    let more : Drafted → Drafted = deliver_left predefined peer s pending in
    ap (λ (phase : Phase). (and_then more (resend_in predefined peer s x.msg_id phase (put_left d.acks pending (message_of x)) d)).sends) is_published
    ∙ ap (λ (found : Option Put). (and_then more (publish_again predefined peer s x.msg_id found d)).sends) is_put
    ∙ ap (λ (found : Option Form). (and_then more (publish_by peer s put x.msg_id found d)).sends) is_form

-- ---- a tick

-- a fold keeps what each of its steps keeps
pub fold_keeps : {A B C : Type 0} (f : A → B → A) (of : A → C) → ((a : A) (b : B) → of (f a b) ≡ of a) → (bs : List B) (a : A) → of (fold f a bs) ≡ of a
fold_keeps f of keeps [] a = refl
fold_keeps f of keeps (b ∷ bs) a = fold_keeps f of keeps bs (f a b) ∙ keeps a b

dialog_sends : (now : ℕ) (d : Drafted) (dialog : WillDialog) → (dialog_ended now d dialog).sends ≡ d.sends
dialog_sends now d dialog = choose_sends (nat_le 60 (elapsed now dialog.begun)) (moved (EndDialog dialog.request.address) d) d refl

timer_sends : (g : ℕ) (seen : Seen) (timers : List Timer) (now : ℕ) (d : Drafted) (c : List ℕ) → (timer_begun g seen timers now d c).sends ≡ d.sends
timer_sends g seen timers now d c = choose_sends (needs_timer g timers c (seen.of c)) (moved (Heard c now) d) d refl

cleaned_sends : (g : ℕ) (seen : Seen) (local : Local) (now : ℕ) → (begin_tick g seen local now).sends ≡ []
cleaned_sends g seen local now =
    fold_keeps (timer_begun g seen local.timers now) (λ d. d.sends) (timer_sends g seen local.timers now) seen.all (dialogs_ended now local.dialogs nothing)
    ∙ fold_keeps (dialog_ended now) (λ d. d.sends) (dialog_sends now) local.dialogs nothing

pub tick-quiet : TickIsQuiet
tick-quiet g lifetime advertise field predefined seen local now no_advertise no_client =
    let first : Drafted = lasting (expires_at lifetime now) (begin_tick g seen local now) in (
      plan_without first,
      ap (λ (b : Bool). if b then Some (plan_without (advertised g advertise field now first)) else plan_if_due g predefined seen local now first (first_due g seen local now seen.all)) no_advertise
          ∙ ap (plan_if_due g predefined seen local now first) no_client,
      (refl, cleaned_sends g seen local now),
    )

-- ---- Delivery

-- the messages that are acknowledged after a message, and those that were before
abbrev Kept : Entries → Peer → Session → List Put → Drafted → List Send → ℕ × ℕ → Type 0
Kept predefined peer s pending d sends name = Contains d.acks name ⊎ IsOfOneDone predefined peer s pending sends name

module _ (predefined : Entries) (peer : Peer) (s : Session) where
  none_acks : (d : Drafted) → (none_left peer s d).acks ≡ d.acks
  none_acks d = choose_acks (is_awake s.presence) (sent peer.address frames.PingResp (changed (Presence Asleep s.duration) d)) d refl

  changed_acks : (change : Option SessionOp) (d : Drafted) → (changed_if change d).acks ≡ d.acks
  changed_acks None d = refl
  changed_acks (Some change) d = refl

  changed_sends : (change : Option SessionOp) (d : Drafted) → (changed_if change d).sends ≡ d.sends
  changed_sends None d = refl
  changed_sends (Some change) d = refl

  -- ---- a frame that is sent stays sent

  abbrev Stays : Drafted → Drafted → Type 0
  Stays d e = (m : Send) → Contains d.sends m → Contains e.sends m

  one_more_sent : (d : Drafted) (m : Send) (more : Send) → Contains d.sends m → Contains (d.sends ++ more ∷ []) m
  one_more_sent d m more there = Contains-append_left d.sends (more ∷ []) m there

  choose_stays : (b : Bool) (x y d : Drafted) → Stays d x → Stays d y → Stays d (if b then x else y)
  choose_stays true x y d h k = h
  choose_stays false x y d h k = k

  none_stays : (d : Drafted) → Stays d (none_left peer s d)
  none_stays d = choose_stays (is_awake s.presence) (sent peer.address frames.PingResp (changed (Presence Asleep s.duration) d)) d d
      (λ m there. one_more_sent d m (record { to = peer.address; bytes = spelling frames.PingResp }) there) (λ m there. there)

  register_stays : (put : Put) (told : Option ToldId) (d : Drafted) → Stays d (register_first peer s put told d).1
  register_stays put None d = λ m there. there
  register_stays put (Some told) d = λ m there.
      one_more_sent (changed_if told.change d) m (record { to = peer.address; bytes = spelling (frames.Register told.id s.next_id put.topic) })
      (subst (λ sends. Contains sends m) (sym (changed_sends told.change d)) there)

  choose_stop_stays : (b : Bool) (x y : Stop) (d : Drafted) → Stays d x.1 → Stays d y.1 → Stays d (if◌then◌else◌ {A = Stop} b x y).1
  choose_stop_stays true x y d h k = h
  choose_stop_stays false x y d h k = k

  form_stays : (put : Put) (form : Option Form) (d : Drafted) → Stays d (deliver_by peer s put form d).1
  form_stays put None d = register_stays put (id_to_tell s put.topic) d
  form_stays put (Some form) d =
      choose_stop_stays (put.qos == 0) (false, acked (name_of put) (sent peer.address (publication false put 0 form) d))
      (true, exchange_begun peer s put Published (publication false put s.next_id form) d) d
      (λ m there. one_more_sent d m (record { to = peer.address; bytes = spelling (publication false put 0 form) }) there)
      (λ m there. one_more_sent d m (record { to = peer.address; bytes = spelling (publication false put s.next_id form) }) there)

  stop_stays : (more : Drafted → Drafted) (stop : Stop) (d : Drafted) → ((e : Drafted) → Stays e (more e)) → Stays d stop.1 → Stays d (and_then more stop)
  stop_stays more (true, e) d later first = first
  stop_stays more (false, e) d later first = λ m there. later e m (first m there)

  deliver_stays : (pending : List Put) (d : Drafted) → Stays d (deliver predefined peer s pending d)
  deliver_stays [] d = none_stays d
  deliver_stays (put ∷ rest) d =
      stop_stays (deliver predefined peer s rest) (deliver_by peer s put (form_of predefined s put.topic) d) d (λ e. deliver_stays rest e) (form_stays put (form_of predefined s put.topic) d)

  -- ---- what is acknowledged

  at_head : (put : Put) (rest : List Put) → Contains (put ∷ rest) put
  at_head put rest = Contains-append_left (put ∷ []) rest put (Contains-push [] put)

  by_added : (put : Put) (rest : List Put) (d : Drafted) (sends : List Send) (name : ℕ × ℕ) → IsDoneWith predefined peer s put sends
      → Contains d.acks name ⊎ (name_of put ≡ name) → Kept predefined peer s (put ∷ rest) d sends name
  by_added put rest d sends name done (inl old) = inl old
  by_added put rest d sends name done (inr is) = inr (put, at_head put rest, sym is, done)

  -- a message that is acknowledged
  one_done : (put : Put) (rest : List Put) (d : Drafted) (sends : List Send) (name : ℕ × ℕ) → IsDoneWith predefined peer s put sends
      → Contains (d.acks ++ name_of put ∷ []) name → Kept predefined peer s (put ∷ rest) d sends name
  one_done put rest d sends name done there = by_added put rest d sends name done (Contains-push_cases d.acks (name_of put) name there)

  register_keeps : (put : Put) (rest : List Put) (d : Drafted) (name : ℕ × ℕ) (told : Option ToldId)
      → form_of predefined s put.topic ≡ None → id_to_tell s put.topic ≡ told
      → Contains (register_first peer s put told d).1.acks name → Kept predefined peer s (put ∷ rest) d (register_first peer s put told d).1.sends name
  register_keeps put rest d name None no_form no_id there = one_done put rest d d.sends name (inr (no_form, no_id)) there
  register_keeps put rest d name (Some told) no_form no_id there = inl (subst (λ acks. Contains acks name) (changed_acks told.change d) there)

  publish_keeps : (put : Put) (rest : List Put) (d : Drafted) (name : ℕ × ℕ) (form : Form) (b : Bool) (x y : Drafted)
      → form_of predefined s put.topic ≡ Some form → (put.qos == 0) ≡ b
      → x ≡ acked (name_of put) (sent peer.address (publication false put 0 form) d) → y.acks ≡ d.acks
      → Contains (if◌then◌else◌ {A = Stop} b (false, x) (true, y)).1.acks name
      → Kept predefined peer s (put ∷ rest) d (if◌then◌else◌ {A = Stop} b (false, x) (true, y)).1.sends name
  publish_keeps put rest d name form true x y some zero at_x at_y there =
      one_done put rest d x.sends name
      (inl (
        eqb-true put.qos 0 zero,
        (
          form,
          some,
          subst (λ (e : Drafted). Contains e.sends (record { to = peer.address; bytes = spelling (publication false put 0 form) })) (sym at_x)
              (Contains-push d.sends (record { to = peer.address; bytes = spelling (publication false put 0 form) })),
        ),
      ))
      (subst (λ (e : Drafted). Contains e.acks name) at_x there)
  publish_keeps put rest d name form false x y some more at_x at_y there = inl (subst (λ acks. Contains acks name) at_y there)

  form_keeps : (put : Put) (rest : List Put) (d : Drafted) (name : ℕ × ℕ) (form : Option Form) → form_of predefined s put.topic ≡ form
      → Contains (deliver_by peer s put form d).1.acks name → Kept predefined peer s (put ∷ rest) d (deliver_by peer s put form d).1.sends name
  form_keeps put rest d name None none there = register_keeps put rest d name (id_to_tell s put.topic) none refl there
  form_keeps put rest d name (Some form) some there =
      publish_keeps put rest d name form (put.qos == 0) (acked (name_of put) (sent peer.address (publication false put 0 form) d))
      (exchange_begun peer s put Published (publication false put s.next_id form) d) some refl refl refl there

  -- what is done with by some frames is so by more
  done_more : (put : Put) (old new : List Send) → ((m : Send) → Contains old m → Contains new m) → IsDoneWith predefined peer s put old → IsDoneWith predefined peer s put new
  done_more put old new more (inl (zero, (form, some, there))) = inl (zero, (form, some, more (record { to = peer.address; bytes = spelling (publication false put 0 form) }) there))
  done_more put old new more (inr none) = inr none

  kept_more : (pending : List Put) (d : Drafted) (name : ℕ × ℕ) (old new : List Send) → ((m : Send) → Contains old m → Contains new m)
      → Kept predefined peer s pending d old name → Kept predefined peer s pending d new name
  kept_more pending d name old new more (inl there) = inl there
  kept_more pending d name old new more (inr (put, among, is, done)) = inr (put, among, is, done_more put old new more done)

  deeper : (put : Put) (rest : List Put) (sends : List Send) (name : ℕ × ℕ) → IsOfOneDone predefined peer s rest sends name → IsOfOneDone predefined peer s (put ∷ rest) sends name
  deeper put rest sends name (other, among, is, done) = (other, Contains-append_right (put ∷ []) rest other among, is, done)

  by_later : (put : Put) (rest : List Put) (d e : Drafted) (sends : List Send) (name : ℕ × ℕ)
      → (Contains e.acks name → Kept predefined peer s (put ∷ rest) d sends name) → Kept predefined peer s rest e sends name → Kept predefined peer s (put ∷ rest) d sends name
  by_later put rest d e sends name first (inl there) = first there
  by_later put rest d e sends name first (inr later) = inr (deeper put rest sends name later)

  stop_keeps : (put : Put) (rest : List Put) (d : Drafted) (name : ℕ × ℕ) (stop : Stop)
      → (Contains stop.1.acks name → Kept predefined peer s (put ∷ rest) d stop.1.sends name)
      → ((e : Drafted) → Contains (deliver predefined peer s rest e).acks name → Kept predefined peer s rest e (deliver predefined peer s rest e).sends name)
      → Contains (and_then (deliver predefined peer s rest) stop).acks name
      → Kept predefined peer s (put ∷ rest) d (and_then (deliver predefined peer s rest) stop).sends name
  stop_keeps put rest d name (true, e) first later there = first there
  stop_keeps put rest d name (false, e) first later there =
      by_later put rest d e (deliver predefined peer s rest e).sends name
      (λ before. kept_more (put ∷ rest) d name e.sends (deliver predefined peer s rest e).sends (deliver_stays rest e) (first before)) (later e there)

  deliver_keeps : (pending : List Put) (d : Drafted) (name : ℕ × ℕ)
      → Contains (deliver predefined peer s pending d).acks name → Kept predefined peer s pending d (deliver predefined peer s pending d).sends name
  deliver_keeps [] d name there = inl (subst (λ acks. Contains acks name) (none_acks d) there)
  deliver_keeps (put ∷ rest) d name there =
      stop_keeps put rest d name (deliver_by peer s put (form_of predefined s put.topic) d)
      (form_keeps put rest d name (form_of predefined s put.topic) refl)
      (λ e. deliver_keeps rest e name) there

pub delivery-keeps : DeliveryKeeps
delivery-keeps predefined peer s pending d name there = deliver_keeps predefined peer s pending d name there
