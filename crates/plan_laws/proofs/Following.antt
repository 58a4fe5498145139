-- What follows a row keeps its draft sound: Delivery, and Resend.
use Rattle.std.proofs.Common.{◌≡◌, ℕ, ◌+◌, ◌<◌, ◌≤◌, ◌==◌, Bool, true, false, ◌&&◌, nat_le, nat_lt, is_none, if◌then◌else◌, List, [], ◌∷◌, ◌++◌, fold, length, Option, Some, None, IfSome, option_map, refl, sym, ap, ◌∙◌, subst, true≢false, arith, le-leb, leb-false}
use Rattle.std.specs.List.{AllByRecursion}
use Rattle.std.proofs.lemmas.Bool.{and_parts, and_from}
use Rattle.sn_topic.specs.Table.{Entries}
use Rattle.sn_session.specs.declared.presence.Presence.TheVariants.{Asleep}
use Rattle.sn_session.specs.declared.outbound.Outbound.{Outbound as Exchange}
use Rattle.sn_session.specs.declared.outbound.Phase.{Phase}
use Rattle.sn_session.specs.declared.outbound.Phase.TheVariants.{Registering, Published, Released}
use Rattle.sn_session.specs.declared.session.Session.{Session}
use Rattle.sn_tables.specs.declared.topics.TopicEntry.{TopicEntry}
use Rattle.sn_session.specs.declared.change.SessionOp.TheVariants.{Presence, Register, Outbound}
use Rattle.sn_tables.specs.Tables.{is_table_full}
use Rattle.sn_tables.specs.Topics.{topic_named, free_id, least_unused}
use Rattle.sn_frame.specs.declared.frame.Frame.{Frame}
use Rattle.sn_frame.specs.declared.frame.Frame.TheVariants as frames
use Rattle.rep_op.specs.declared.op.Put.{Put}
use Rattle.sn_topic.specs.Table.{is_topic_id}
use Rattle.rep_op.specs.Ranges.{is_topic, is_exchange}
use Rattle.rep_op.specs.Orders.{name_of}
use Rattle.sn_local.specs.declared.config.Addr.{Addr}
use Rattle.sn_local.specs.declared.local.LocalChange.TheVariants.{Sent, Resent}
use Rattle.sn_plan.specs.declared.row.Follow.{Follow}
use Rattle.sn_plan.specs.declared.row.Follow.TheVariants as follows
use Rattle.sn_plan.specs.Drafts.{Drafted, changed, changed_if, acked, sent, moved, session_after}
use Rattle.sn_exchange.specs.declared.form.Form.{Form}
use Rattle.sn_exchange.specs.declared.peer.Peer.{Peer}
use Rattle.sn_exchange.specs.declared.delivery.ToldId.{ToldId}
use Rattle.sn_exchange.specs.Forms.{form_of, form_again, publication}
use Rattle.sn_exchange.specs.Exchanges.{is_left, left, put_left, message_of, open_exchange, is_served, is_awake}
use Rattle.sn_exchange.specs.Delivery.{next_after, Stop, exchange_begun, entry_or_fresh, id_to_tell, register_first, deliver_by, none_left, and_then, deliver, deliver_left, deliver_if}
use Rattle.sn_exchange.specs.Resending.{register_by, register_again, publish_by, publish_again, resend_in, resend_if}
use Rattle.sn_exchange.specs.Following.{followed_by}
use Rattle.step_laws.specs.Laws.{AreNamedApart}
use Rattle.plan_laws.proofs.Sessions.{Fine, IsChange, fold-fine}
use Rattle.plan_laws.proofs.Kept.{IsWell}
use Rattle.plan_laws.proofs.Sound.{Sound, IsNotDone, well-named, others-left, left-all, filter-all, filter-apart, choose-sound, sound-changed, sound-changed_if, sound-acked, sound-sent, sound-moved}

-- ---- numbers

pub next-from_one : (n : ℕ) → nat_le 1 (next_after n) ≡ true
next-from_one n =
    elim (n == 65535) as (λ b. nat_le 1 (if b then 1 else n + 1) ≡ true) [
      | true ↦ refl
      | false ↦ le-leb 1 (n + 1) (omega arith)
    ]

choose-number : (b : Bool) (x y : ℕ) (P : ℕ → Type 0) → P x → P y → P (if b then x else y)
choose-number true x y P h k = h
choose-number false x y P h k = k

-- the least unused number is at most so far beyond where the search begins
unused-above : (n : ℕ) (topics : List TopicEntry) → n ≤ least_unused n topics
unused-above n [] = omega arith
unused-above n (e ∷ rest) =
    choose-number (nat_lt n e.id) n (least_unused (if e.id == n then n + 1 else n) rest) (λ m. n ≤ m) (omega arith)
    (choose-number (e.id == n) (n + 1) n (λ m. n ≤ least_unused m rest) (let r = unused-above (n + 1) rest in omega (arith, r)) (unused-above n rest))

unused-below : (n : ℕ) (topics : List TopicEntry) → least_unused n topics ≤ n + length topics
unused-below n [] = omega arith
unused-below n (e ∷ rest) =
    choose-number (nat_lt n e.id) n (least_unused (if e.id == n then n + 1 else n) rest) (λ m. m ≤ n + length (e ∷ rest)) (omega arith)
    (choose-number (e.id == n) (n + 1) n (λ m. least_unused m rest ≤ n + length (e ∷ rest)) (let r = unused-below (n + 1) rest in omega (arith, r)) (let r = unused-below n rest in omega (arith, r)))

not-full : (n : ℕ) → nat_le 256 n ≡ false → n < 256
not-full n e = leb-false 256 n e

-- so an id that is free can be an id
pub free-fine : (topics : List TopicEntry) → IfSome (free_id topics) (λ id. is_topic_id id ≡ true)
free-fine topics =
    elim (is_table_full topics) as (λ b. is_table_full topics ≡ b → IfSome (if b then None else Some (least_unused 1 topics)) (λ id. is_topic_id id ≡ true)) [
      | true ↦ λ _. tt
      | false ↦ λ e.
          let room : length topics < 256 = not-full (length topics) e in
          let above : 1 ≤ least_unused 1 topics = unused-above 1 topics in
          let below : least_unused 1 topics ≤ 1 + length topics = unused-below 1 topics in
          and_from (nat_le 1 (least_unused 1 topics)) (nat_le (least_unused 1 topics) 65534) (le-leb 1 (least_unused 1 topics) above)
          (le-leb (least_unused 1 topics) 65534 (omega (arith, room, below)))
    ] refl

told-fine : (name : List ℕ) (entry : Option TopicEntry) (free : Option ℕ) → IfSome free (λ id. is_topic_id id ≡ true) → IfSome (entry_or_fresh name entry free) (λ (told : ToldId). IfSome told.change IsChange)
told-fine name None None h = tt
told-fine name None (Some id) h = h
told-fine name (Some entry) free h = tt

-- ---- Delivery

-- one message: the draft after it; and where Delivery goes on, the others are left
record AfterOne (rest : List Put) (stop : Stop) : Type 0 where
  sound : Sound stop.1
  goes_on : stop.0 ≡ false → AllByRecursion (IsNotDone stop.1.acks) rest

stopped : (rest : List Put) (d : Drafted) → Sound d → AfterOne rest (true, d)
stopped rest d s = record { sound = s; goes_on = λ e. absurd (true≢false e) }

module _ (predefined : Entries) (peer : Peer) (s : Session) (fine : Fine s) where
  begun-sound : (put : Put) (phase : Phase) (frame : Frame) (d : Drafted) → IsWell put → Sound d → Sound (exchange_begun peer s put phase frame d)
  begun-sound put phase frame d well h =
      let named = well-named put well in
      let x : Exchange = record { origin = put.origin; seq = put.seq; msg_id = s.next_id; phase = phase } in
      let can : IsChange (Outbound (Some x) (next_after s.next_id)) =
      and_from (nat_le 1 (next_after s.next_id)) (is_exchange (Some x)) (next-from_one s.next_id) (and_from (nat_le 1 put.origin) (nat_le 1 put.seq) named.1 named.0) in
      sound-moved (Sent peer.client peer.moment) _ tt (sound-sent peer.address frame _ (sound-changed (Outbound (Some x) (next_after s.next_id)) d can h))

  module _ (put : Put) (rest : List Put) (d : Drafted) (well : IsWell put) (apart : AreNamedApart (put ∷ rest)) (left_so_far : AllByRecursion (IsNotDone d.acks) (put ∷ rest)) (h : Sound d) where
    register-after : (told : Option ToldId) → IfSome told (λ (t : ToldId). IfSome t.change IsChange) → AfterOne rest (register_first peer s put told d)
    register-after None k = record {
      sound = sound-acked (name_of put) d (well-named put well) left_so_far.0 h;
      goes_on = λ _. others-left d.acks put rest apart.0 left_so_far.1;
    }
    register-after (Some told) k =
        stopped rest _ (begun-sound put Registering (frames.Register told.id s.next_id put.topic) (changed_if told.change d) well (sound-changed_if told.change d k h))

    publish-after : (form : Form) (b : Bool) → AfterOne rest (if b then (false, acked (name_of put) (sent peer.address (publication false put 0 form) d)) else (true, exchange_begun peer s put Published (publication false put s.next_id form) d))
    publish-after form true = record {
      sound = sound-acked (name_of put) (sent peer.address (publication false put 0 form) d) (well-named put well) left_so_far.0 (sound-sent peer.address (publication false put 0 form) d h);
      goes_on = λ _. others-left d.acks put rest apart.0 left_so_far.1;
    }
    publish-after form false = stopped rest _ (begun-sound put Published (publication false put s.next_id form) d well h)

    one-after : (form : Option Form) → AfterOne rest (deliver_by peer s put form d)
    one-after None = register-after (id_to_tell s put.topic) (told-fine put.topic (topic_named put.topic s.topics) (free_id s.topics) (free-fine s.topics))
    one-after (Some form) = publish-after form (put.qos == 0)

  none-sound : (d : Drafted) → Sound d → Sound (none_left peer s d)
  none-sound d h = choose-sound (is_awake s.presence) _ d (sound-sent peer.address frames.PingResp _ (sound-changed (Presence Asleep s.duration) d refl h)) h

  then-more : (rest : List Put) (more : Drafted → Drafted) (stop : Stop) → AfterOne rest stop
      → ((e : Drafted) → AllByRecursion (IsNotDone e.acks) rest → Sound e → Sound (more e)) → Sound (and_then more stop)
  then-more rest more (true, e) after keeps = after.sound
  then-more rest more (false, e) after keeps = keeps e (after.goes_on refl) after.sound

  deliver-sound : (pending : List Put) (d : Drafted) → AllByRecursion IsWell pending → AreNamedApart pending → AllByRecursion (IsNotDone d.acks) pending → Sound d → Sound (deliver predefined peer s pending d)
  deliver-sound [] d well apart left_so_far h = none-sound d h
  deliver-sound (put ∷ rest) d well apart left_so_far h =
      then-more rest (deliver predefined peer s rest) (deliver_by peer s put (form_of predefined s put.topic) d)
      (one-after put rest d well.0 apart left_so_far h (form_of predefined s put.topic))
      (λ e remaining sound. deliver-sound rest e well.1 apart.1 remaining sound)

  left-sound : (pending : List Put) (d : Drafted) → AllByRecursion IsWell pending → AreNamedApart pending → Sound d → Sound (deliver_left predefined peer s pending d)
  left-sound pending d well apart h =
      deliver-sound (left d.acks pending) d (filter-all IsWell (is_left d.acks) pending well) (filter-apart (is_left d.acks) pending apart) (left-all d.acks pending) h

  if-sound : (pending : List Put) (d : Drafted) → AllByRecursion IsWell pending → AreNamedApart pending → Sound d → Sound (deliver_if predefined peer s pending d)
  if-sound pending d well apart h =
      choose-sound (is_served s.presence && is_none (open_exchange s d.acks pending)) _ d (left-sound pending d well apart h) h

  -- ---- Resend

  again-sound : (frame : Frame) (d : Drafted) → Sound d → Sound (moved (Resent peer.client peer.moment) (sent peer.address frame d))
  again-sound frame d h = sound-moved (Resent peer.client peer.moment) _ tt (sound-sent peer.address frame d h)

  given_up-sound : (d : Drafted) → Sound d → Sound (changed (Outbound None s.next_id) d)
  given_up-sound d h = sound-changed (Outbound None s.next_id) d (and_from (nat_le 1 s.next_id) true fine.next refl) h

  register_by-sound : (put : Put) (msg_id : ℕ) (entry : Option TopicEntry) (d : Drafted) → Sound d → Sound (register_by peer s put msg_id entry d).1
  register_by-sound put msg_id None d h = given_up-sound d h
  register_by-sound put msg_id (Some entry) d h = again-sound (frames.Register entry.id msg_id put.topic) d h

  register_again-sound : (msg_id : ℕ) (put : Option Put) (d : Drafted) → Sound d → Sound (register_again peer s msg_id put d).1
  register_again-sound msg_id None d h = given_up-sound d h
  register_again-sound msg_id (Some put) d h = register_by-sound put msg_id (topic_named put.topic s.topics) d h

  publish_by-sound : (put : Put) (msg_id : ℕ) (form : Option Form) (d : Drafted) → Sound d → Sound (publish_by peer s put msg_id form d).1
  publish_by-sound put msg_id None d h = given_up-sound d h
  publish_by-sound put msg_id (Some form) d h = again-sound (publication true put msg_id form) d h

  publish_again-sound : (msg_id : ℕ) (put : Option Put) (d : Drafted) → Sound d → Sound (publish_again predefined peer s msg_id put d).1
  publish_again-sound msg_id None d h = given_up-sound d h
  publish_again-sound msg_id (Some put) d h = publish_by-sound put msg_id (form_again predefined s put.topic) d h

  resend_in-sound : (msg_id : ℕ) (phase : Phase) (put : Option Put) (d : Drafted) → Sound d → Sound (resend_in predefined peer s msg_id phase put d).1
  resend_in-sound msg_id Registering put d h = register_again-sound msg_id put d h
  resend_in-sound msg_id Published put d h = publish_again-sound msg_id put d h
  resend_in-sound msg_id Released put d h = again-sound (frames.PubRel msg_id) d h

  stop-sound : (more : Drafted → Drafted) (stop : Stop) → Sound stop.1 → ((e : Drafted) → Sound e → Sound (more e)) → Sound (and_then more stop)
  stop-sound more (true, e) h keeps = h
  stop-sound more (false, e) h keeps = keeps e h

  resend-sound : (pending : List Put) (x : Option Exchange) (d : Drafted) → AllByRecursion IsWell pending → AreNamedApart pending → Sound d → Sound (resend_if predefined peer s pending x d)
  resend-sound pending None d well apart h = if-sound pending d well apart h
  resend-sound pending (Some x) d well apart h =
      stop-sound (deliver_left predefined peer s pending) (resend_in predefined peer s x.msg_id x.phase (put_left d.acks pending (message_of x)) d)
      (resend_in-sound x.msg_id x.phase (put_left d.acks pending (message_of x)) d h)
      (λ e k. left-sound pending e well apart k)

pub followed-sound : (predefined : Entries) (peer : Peer) (s : Session) (pending : List Put) (d : Drafted) (follow : Follow)
    → Fine s → AllByRecursion IsWell pending → AreNamedApart pending → Sound d → Sound (followed_by predefined peer s pending d follow)
followed-sound predefined peer s pending d follows.Nothing fine well apart h = h
followed-sound predefined peer s pending d follows.Delivery fine well apart h =
    if-sound predefined peer (session_after s d) (fold-fine s d.changes fine h.changes) pending d well apart h
followed-sound predefined peer s pending d follows.Resend fine well apart h =
    resend-sound predefined peer (session_after s d) (fold-fine s d.changes fine h.changes) pending (open_exchange (session_after s d) d.acks pending) d well apart h
