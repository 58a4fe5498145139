-- Each step and each tick of a gateway that keeps well has a plan of operations that can be written, and it keeps well after it.
use Rattle.std.proofs.Common.{◌≡◌, ℕ, ◌≤◌, Bool, true, false, ◌&&◌, not, nat_le, if◌then◌else◌, List, [], ◌∷◌, ◌++◌, map, filter, fold, length, Option, Some, None, IfSome, cond, refl, sym, ap, ◌∙◌, subst, IsTrue}
use Rattle.std.specs.Prelude.{slice_get}
use Rattle.std.specs.List.{AllByRecursion}
use Rattle.std.proofs.lemmas.Bool.{and_parts}
use Rattle.std.proofs.lemmas.Option.{same_Some}
use Rattle.sn_topic.specs.Table.{Entries}
use Rattle.sn_session.specs.declared.presence.Presence.TheVariants.{Lost}
use Rattle.sn_session.specs.declared.session.Session.{Session}
use Rattle.sn_session.specs.declared.will.Will.{Will as SessionWill}
use Rattle.sn_session.specs.declared.change.SessionOp.TheVariants.{Presence}
use Rattle.sn_frame.specs.declared.frame.Frame.{Frame}
use Rattle.sn_frame.specs.declared.frame.Frame.TheVariants as frames
use Rattle.sn_frame.specs.FlagBits.{qos_of}
use Rattle.rep_op.specs.declared.op.Op.{Op}
use Rattle.rep_op.specs.declared.op.Put.{Put}
use Rattle.rep_ops.specs.Making.{AreWellMade, HaveOwnNames}
use Rattle.sn_tables.specs.Levels.{is_qos}
use Rattle.rep_op.specs.Ranges.{is_message, is_will}
use Rattle.rep_op.specs.Sets.{Same}
use Rattle.rep_op.specs.WellMade.{is_well_made}
use Rattle.rep_model.specs.Views.{view, clients}
use Rattle.sn_local.specs.declared.config.Addr.{Addr}
use Rattle.sn_plan.specs.declared.draft.NewPut.{NewPut}
use Rattle.sn_local.specs.declared.local.Timer.{Timer}
use Rattle.sn_local.specs.declared.local.LocalChange.{LocalChange}
use Rattle.sn_local.specs.declared.local.LocalChange.TheVariants.{Bind, Unbind, Time, Heard, Sent, Resent, Retried, Ask, EndDialog, Advertised}
use Rattle.sn_local.specs.declared.local.WillDialog.{WillDialog}
use Rattle.sn_plan.specs.declared.plan.Plan.{Plan}
use Rattle.sn_plan.specs.declared.row.Row.{Row}
use Rattle.sn_plan.specs.declared.row.Follow.{Follow}
use Rattle.sn_plan.specs.declared.row.Follow.TheVariants as follows
use Rattle.sn_local.specs.Bindings.{client_at, same_address, address_of}
use Rattle.sn_local.specs.Lifetimes.{expires_at}
use Rattle.sn_plan.specs.Bound.{session_of}
use Rattle.sn_plan.specs.Drafts.{Drafted, nothing, changed, put_all, lasting, sent, moved}
use Rattle.sn_plan.specs.Flush.{HaveNoGap}
use Rattle.sn_local.specs.Locals.{Local, no_local, after_all, owned}
use Rattle.sn_plan.specs.Numbering.{planned, plan_with, rest_of, numbered as numbered_all, changes_written, start_of, ack_of}
use Rattle.sn_plan.specs.Others.{other}
use Rattle.sn_plan.specs.Own.{IsOfDraft, AreFresh, AddsNothingOwn}
use Rattle.sn_local.specs.Seen.{Seen, seen_of}
use Rattle.sn_plan.specs.Plans.{plan_of, plan_of_puts, plan_without}
use Rattle.sn_plan.specs.Rows.{row_of, row_lasting, plan_for, plan_of_row}
use Rattle.sn_local.specs.WillDialogs.{is_elsewhere, dialogs_elsewhere, dialog_change, dialogs_after}
use Rattle.row_laws.proofs.Flushness.{flush-start, flush-taken}
use Rattle.row_laws.proofs.Freshness.{plan-fresh}
use Rattle.sn_plan.proofs.Lists.{and_then-some, map-some, all-append}
use Rattle.sn_plan.proofs.Made.{for_nobody}
use Rattle.row_laws.proofs.Stepping.{step-flush}
use Rattle.sn_tick.specs.declared.due.Due.{Due}
use Rattle.sn_tick.specs.declared.due.Due.TheVariants as dues
use Rattle.sn_tick.specs.Due.{elapsed, first_due}
use Rattle.sn_tick.specs.Expiry.{under_way, is_expired, expire_all}
use Rattle.sn_exchange.specs.Following.{peer_at, followed_for, followed, deliver_next}
use Rattle.sn_publish.specs.Recipients.{is_another}
use Rattle.sn_publish.specs.Retaining.{has_place}
use Rattle.sn_deliver.specs.Steps.{row_for, step}
use Rattle.sn_tick.specs.Ticking.{dialog_ended, dialogs_ended, needs_timer, timer_begun, begin_tick, may_advertise, advertised_to, advertised, will_puts, will_retained, lost, retry_row, plan_due, plan_if_due, tick}
use Rattle.step_laws.proofs.Drafting.{step-drafted, tick-drafted}
use Rattle.step_laws.proofs.Expiring.{names_of, expired-acked}
use Rattle.step_laws.proofs.Keeping.{fold_keeps}
use Rattle.plan_laws.specs.KeepsWell.{is_asked, AreAsked, KeepsWell}
use Rattle.plan_laws.proofs.Sessions.{Fine}
use Rattle.plan_laws.proofs.Kept.{IsWell, seen-fine, pending-well, pending-apart}
use Rattle.plan_laws.proofs.Sound.{IsMessage, IsPosted, IsMove, Sound, all-named, all-once, filter-all, filter-apart, choose-sound, sound-nothing, sound-changed, sound-acked_all, sound-retain_if, sound-put_all, sound-lasting, sound-sent, sound-moved}
use Rattle.plan_laws.proofs.Written.{plan-apart}
use Rattle.plan_laws.proofs.Following.{followed-sound}
use Rattle.plan_laws.proofs.Rows.{IsSoundRow, stray-sound, sent-nothing, connect-sound, disconnect-sound, will_topic-sound, will_msg-sound, topic_update_of-sound, message_update_of-sound, register_of-sound, subscribe_of-sound, unsubscribe_of-sound}
use Rattle.plan_laws.proofs.Serving.{among-fine, kept-fine, publish_in-sound, pubrel_of-sound, ack_of-sound, wake-sound}

-- ---- what a plan makes: operations that make a delta, and dialogs in range

pub record Makes (plan : Plan) : Type 0 where
  pub apart : HaveOwnNames plan.ops
  pub moves : AllByRecursion IsMove plan.local

module _ (g : ℕ) (S : List Op) (plan : Plan) (numbered : 1 ≤ g) (flush : HaveNoGap g S) (made : AreWellMade S) (drafted : IsOfDraft g (seen_of S) plan) where
  fresh : AreFresh S plan.ops
  fresh = plan-fresh g drafted.client S drafted.draft plan drafted.is (flush drafted.client) drafted.apart

  plan-local : (c : List ℕ) (d : Drafted) → plan_of g c (seen_of S) d ≡ Some plan → plan.local ≡ d.local
  unfolding planned
  plan-local c d e =
      let seen : Seen = seen_of S in
      let m = and_then-some (rest_of g c (λ e. seen.seq e g) seen.clock d) (changes_written c g d.changes (start_of g (seen.of c) (seen.epoch c))) plan e in
      let n = map-some (plan_with d) (numbered_all g c (λ e. seen.seq e g) seen.clock d (m.0.ops ++ map (ack_of c) d.acks)) plan m.2 in
      ap (λ (p : Plan). p.local) (sym n.2)

  draft-makes : (c : List ℕ) (d : Drafted) → Sound d → plan_of g c (seen_of S) d ≡ Some plan → Makes plan
  draft-makes c d sound e = record {
    apart = plan-apart g c S d plan e numbered (flush c) made sound fresh;
    moves = subst (λ (xs : List LocalChange). AllByRecursion IsMove xs) (sym (plan-local c d e)) sound.local;
  }

  puts-makes : (d : Drafted) → Sound d → plan_of_puts g (seen_of S) d ≡ Some plan → Makes plan
  unfolding planned
  puts-makes d sound e =
      draft-makes [] (for_nobody d)
      (record { changes = tt; acks = tt; once = tt; handed = tt; retain = sound.retain; puts = sound.puts; local = sound.local }) e

  for-makes : (d : Drafted) (client : Option (List ℕ)) → Sound d → plan_for g (seen_of S) d client ≡ Some plan → Makes plan
  for-makes d None sound e = puts-makes d sound e
  for-makes d (Some c) sound e = draft-makes c d sound e

  without-makes : (d : Drafted) → Sound d → Some (plan_without d) ≡ Some plan → Makes plan
  without-makes d sound e =
      subst Makes (same_Some (plan_without d) plan e) (record { apart = record { well_made = tt; once = λ t. none_at t.0 t.2 t.5 }; moves = sound.local })
    where
      none_at : (i : ℕ) (op : Op) → slice_get [] i ≡ Some op → ⊥
      none_at i op h = absurd cc

-- ---- rows

other-sound : (g : ℕ) (local : Local) (a : Addr) (frame : Frame) (now : ℕ) → IsSoundRow (other g local a frame now)
other-sound g local a (frames.SearchGw radius) now = sent-nothing a (frames.GwInfo g [])
other-sound g local a (frames.Advertise gateway duration) now = sound-nothing
other-sound g local a (frames.GwInfo gateway address) now = sound-nothing
other-sound g local a (frames.ConnAck code) now = sound-nothing
other-sound g local a frames.WillTopicReq now = sound-nothing
other-sound g local a frames.WillMsgReq now = sound-nothing
other-sound g local a (frames.SubAck flags topic_id msg_id code) now = sound-nothing
other-sound g local a (frames.UnsubAck msg_id) now = sound-nothing
other-sound g local a (frames.WillTopicResp code) now = sound-nothing
other-sound g local a (frames.WillMsgResp code) now = sound-nothing
other-sound g local a frame now = stray-sound a (client_at a local.bindings) now

module _ (g : ℕ) (predefined : Entries) (S : List Op) (made : AreWellMade S) (local : Local) (asked : AreAsked local.dialogs) (a : Addr) where
  row-sound : (frame : Frame) (now : ℕ) → IsSoundRow (row_for g predefined (seen_of S) local a frame now)
  row-sound (frames.Connect flags protocol duration client) now = connect-sound S made local a flags.bits protocol duration client now
  row-sound (frames.WillTopic will) now = will_topic-sound S made local a will now
  row-sound (frames.WillMsg message) now = will_msg-sound S made local asked a message now
  row-sound (frames.Disconnect duration) now = disconnect-sound S made local a duration now
  row-sound (frames.Register topic_id msg_id name) now = register_of-sound S made a (client_at a local.bindings) msg_id name now
  row-sound (frames.Subscribe flags msg_id topic) now = subscribe_of-sound S made predefined a (client_at a local.bindings) flags.bits msg_id topic now
  row-sound (frames.Unsubscribe flags msg_id topic) now = unsubscribe_of-sound S made predefined a (client_at a local.bindings) flags.bits msg_id topic now
  row-sound (frames.WillTopicUpd will) now = topic_update_of-sound a (client_at a local.bindings) will now
  row-sound (frames.WillMsgUpd message) now = message_update_of-sound (seen_of S) a (client_at a local.bindings) message now
  row-sound (frames.Publish flags topic msg_id body) now = publish_in-sound (seen_of S) predefined local a flags.bits topic msg_id body now (qos_of flags.bits)
  row-sound (frames.PubRel msg_id) now = pubrel_of-sound (seen_of S) a (client_at a local.bindings) msg_id now
  row-sound (frames.PubAck topic_id msg_id code) now = ack_of-sound S made predefined a (client_at a local.bindings) (frames.PubAck topic_id msg_id code) now
  row-sound (frames.PubRec msg_id) now = ack_of-sound S made predefined a (client_at a local.bindings) (frames.PubRec msg_id) now
  row-sound (frames.PubComp msg_id) now = ack_of-sound S made predefined a (client_at a local.bindings) (frames.PubComp msg_id) now
  row-sound (frames.RegAck topic_id msg_id code) now = ack_of-sound S made predefined a (client_at a local.bindings) (frames.RegAck topic_id msg_id code) now
  row-sound (frames.PingReq client) now = wake-sound S made g local a client now
  row-sound frame now = other-sound g local a frame now

-- ---- what follows

module _ (predefined : Entries) (S : List Op) (made : AreWellMade S) (a : Addr) (now : ℕ) where
  for-sound : (d : Drafted) (follow : Follow) (client : Option (List ℕ)) → Sound d → Sound (followed_for predefined (seen_of S) a now d follow client)
  for-sound d follow None h = h
  for-sound d follow (Some c) h =
      followed-sound predefined (peer_at a c now) (session_of (seen_of S) c) (view c S).pending d follow (seen-fine c S made) (pending-well c S made) (pending-apart c S) h

-- ---- what a tick does

fold-sound : {B : Type 0} (f : Drafted → B → Drafted) → ((d : Drafted) (b : B) → Sound d → Sound (f d b)) → (bs : List B) (d : Drafted) → Sound d → Sound (fold f d bs)
fold-sound f keeps [] d h = h
fold-sound f keeps (b ∷ bs) d h = fold-sound f keeps bs (f d b) (keeps d b h)

ended-sound : (now : ℕ) (d : Drafted) (dialog : WillDialog) → Sound d → Sound (dialog_ended now d dialog)
ended-sound now d dialog h = choose-sound (nat_le 60 (elapsed now dialog.begun)) _ d (sound-moved (EndDialog dialog.request.address) d tt h) h

begun-sound : (g : ℕ) (seen : Seen) (timers : List Timer) (now : ℕ) (d : Drafted) (c : List ℕ) → Sound d → Sound (timer_begun g seen timers now d c)
begun-sound g seen timers now d c h = choose-sound (needs_timer g timers c (seen.of c)) _ d (sound-moved (Heard c now) d tt h) h

cleaned-sound : (g : ℕ) (seen : Seen) (local : Local) (now : ℕ) → Sound (begin_tick g seen local now)
cleaned-sound g seen local now =
    fold-sound (timer_begun g seen local.timers now) (begun-sound g seen local.timers now) seen.all (dialogs_ended now local.dialogs nothing)
    (fold-sound (dialog_ended now) (ended-sound now) local.dialogs nothing sound-nothing)

-- what a tick does first acknowledges nothing
choose-acks : (b : Bool) (x d : Drafted) → x.acks ≡ d.acks → (if b then x else d).acks ≡ d.acks
choose-acks true x d h = h
choose-acks false x d h = refl

cleaned-acks : (g : ℕ) (seen : Seen) (local : Local) (now : ℕ) → (begin_tick g seen local now).acks ≡ []
cleaned-acks g seen local now =
    fold_keeps (timer_begun g seen local.timers now) (λ d. d.acks) (λ d c. choose-acks (needs_timer g local.timers c (seen.of c)) (moved (Heard c now) d) d refl) seen.all (dialogs_ended now local.dialogs nothing)
    ∙ fold_keeps (dialog_ended now) (λ d. d.acks) (λ d dialog. choose-acks (nat_le 60 (elapsed now dialog.begun)) (moved (EndDialog dialog.request.address) d) d refl) local.dialogs nothing

-- an expiry acknowledges messages that wait, each once
expired-sound : (S : List Op) (local : Local) (now : ℕ) (c : List ℕ) (d : Drafted) → AreWellMade S → d.acks ≡ [] → Sound d → Sound (expire_all (seen_of S) local now c d)
expired-sound S local now c d made none h =
    let pending : List Put = (view c S).pending in
    let name : Option (ℕ × ℕ) = under_way pending (address_of c local.bindings) (view c S).session in
    let expired : List Put = filter (is_expired now name) pending in
    subst Sound (sym (expired-acked (seen_of S) local now c d))
    (sound-acked_all (names_of now name pending) d none
    (all-named expired (filter-all IsWell (is_expired now name) pending (pending-well c S made)))
    (all-once expired (filter-apart (is_expired now name) pending (pending-apart c S))) h)

advertised-sound : (g advertise : ℕ) (field : List Addr) (now : ℕ) (d : Drafted) → Sound d → Sound (advertised g advertise field now d)
advertised-sound g advertise field now d h =
    sound-moved (Advertised now) _ tt (fold-sound (advertised_to g advertise) (λ e a k. sound-sent a (frames.Advertise g advertise) e k) field d h)

will-messages : (seen : Seen) (c : List ℕ) (will : Option SessionWill) → is_will will ≡ true → AllByRecursion IsMessage (will_puts seen c will)
will-messages seen c None h = tt
will-messages seen c (Some will) h =
    let parts = and_parts (is_qos will.qos) (is_message will.message) h in
    among-fine seen will.topic will.qos will.message parts.0 parts.1 (filter (is_another c) seen.all)

will-kept : (seen : Seen) (will : Option SessionWill) → is_will will ≡ true → IfSome (will_retained seen will) IsPosted
will-kept seen None h = tt
will-kept seen (Some will) h =
    let parts = and_parts (is_qos will.qos) (is_message will.message) h in
    kept-fine (will.retain && has_place seen will.topic) will.topic will.qos will.message parts.0 parts.1

lost-sound : (seen : Seen) (c : List ℕ) (s : Session) (d : Drafted) → Fine s → Sound d → Sound (lost seen c s d)
lost-sound seen c s d f h =
    sound-moved (Unbind c) _ tt (sound-changed (Presence Lost s.duration) _ refl (sound-retain_if (will_retained seen s.will) _ (will-kept seen s.will f.will)
    (sound-put_all (will_puts seen c s.will) d (will-messages seen c s.will f.will) h)))

-- ---- steps and ticks

module _ (g : ℕ) (S : List Op) (local : Local) (k : KeepsWell g S local) (predefined : Entries) (plan : Plan) where
  next-makes : IsOfDraft g (seen_of S) plan → (a : Addr) (now : ℕ) (row : Row) → IsSoundRow row → deliver_next g predefined (seen_of S) a now row ≡ Some plan → Makes plan
  next-makes drafted a now row h e =
      for-makes g S plan k.numbered k.flush k.made drafted (followed predefined (seen_of S) a now row).draft row.client (for-sound predefined S k.made a now row.draft row.follow row.client h) e

  pub step-makes : (lifetime : ℕ) (a : Addr) (frame : Frame) (now : ℕ) → step g lifetime predefined (seen_of S) local a frame now ≡ Some plan → Makes plan
  unfolding step
  step-makes lifetime a frame now e =
      let row : Row = row_for g predefined (seen_of S) local a frame now in
      next-makes (step-drafted g lifetime predefined S local a frame now plan e) a now (row_lasting (expires_at lifetime now) row)
      (sound-lasting (expires_at lifetime now) row.draft (row-sound g predefined S k.made local k.asked a frame now)) e

  module _ (drafted : IsOfDraft g (seen_of S) plan) (now : ℕ) (d : Drafted) (none : d.acks ≡ []) (h : Sound d) where
    due-makes : (c : List ℕ) (due : Due) → plan_due g predefined (seen_of S) local now d c due ≡ Some plan → Makes plan
    due-makes c dues.Expiry e =
        draft-makes g S plan k.numbered k.flush k.made drafted c (expire_all (seen_of S) local now c d) (expired-sound S local now c d k.made none h) e
    due-makes c dues.Loss e =
        draft-makes g S plan k.numbered k.flush k.made drafted c (lost (seen_of S) c (session_of (seen_of S) c) d)
        (lost-sound (seen_of S) c (session_of (seen_of S) c) d (seen-fine c S k.made) h) e
    due-makes c (dues.Retry a) e = next-makes drafted a now (row_of follows.Resend c (moved (Retried c now) d)) (sound-moved (Retried c now) d tt h) e
    due-makes c (dues.Delivery a) e = next-makes drafted a now (row_of follows.Delivery c d) h e

    if_due-makes : (found : Option (List ℕ × Due)) → plan_if_due g predefined (seen_of S) local now d found ≡ Some plan → Makes plan
    if_due-makes None e = without-makes g S plan k.numbered k.flush k.made drafted d h e
    if_due-makes (Some found) e = due-makes found.0 found.1 e

  either-makes : (b : Bool) (x y : Option Plan) → (x ≡ Some plan → Makes plan) → (y ≡ Some plan → Makes plan) → (if b then x else y) ≡ Some plan → Makes plan
  either-makes true x y h m e = h e
  either-makes false x y h m e = m e

  pub tick-makes : (lifetime advertise : ℕ) (field : List Addr) (now : ℕ) → tick g lifetime advertise field predefined (seen_of S) local now ≡ Some plan → Makes plan
  tick-makes lifetime advertise field now e =
      let first : Drafted = begin_tick g (seen_of S) local now in
      let d : Drafted = lasting (expires_at lifetime now) first in
      let h : Sound d = sound-lasting (expires_at lifetime now) first (cleaned-sound g (seen_of S) local now) in
      let drafted = tick-drafted g lifetime advertise field predefined S local now plan e in
      either-makes (may_advertise advertise field now local.advertised)
      (Some (plan_without (advertised g advertise field now d))) (plan_if_due g predefined (seen_of S) local now d (first_due g (seen_of S) local now (clients S)))
      (without-makes g S plan k.numbered k.flush k.made drafted (advertised g advertise field now d) (advertised-sound g advertise field now d h))
      (if_due-makes drafted now d (cleaned-acks g (seen_of S) local now) h (first_due g (seen_of S) local now (clients S))) e

-- ---- it keeps well

if_all : (b : Bool) (d : WillDialog) (ds : List WillDialog) → is_asked d.awaited ≡ true → AreAsked ds → AreAsked (cond b (d ∷ ds) ds)
if_all true d ds h all = (h, all)
if_all false d ds h all = all

elsewhere-asked : (a : Addr) (ds : List WillDialog) → AreAsked ds → AreAsked (dialogs_elsewhere a ds)
elsewhere-asked a [] all = tt
elsewhere-asked a (d ∷ ds) all = if_all (is_elsewhere a d) d (dialogs_elsewhere a ds) all.0 (elsewhere-asked a ds all.1)

change-asked : (ds : List WillDialog) (change : LocalChange) → AreAsked ds → IsMove change → AreAsked (dialog_change ds change)
change-asked ds (Bind a c) all h = all
change-asked ds (Unbind c) all h = all
change-asked ds (Time timer) all h = all
change-asked ds (Heard c now) all h = all
change-asked ds (Sent c now) all h = all
change-asked ds (Resent c now) all h = all
change-asked ds (Retried c now) all h = all
change-asked ds (Ask dialog) all h =
    all-append (λ (d : WillDialog). IsTrue (is_asked d.awaited)) (dialogs_elsewhere dialog.request.address ds) (dialog ∷ []) (elsewhere-asked dialog.request.address ds all) (h, tt)
change-asked ds (EndDialog a) all h = elsewhere-asked a ds all
change-asked ds (Advertised now) all h = all

pub after-asked : (ds : List WillDialog) (changes : List LocalChange) → AreAsked ds → AllByRecursion IsMove changes → AreAsked (dialogs_after ds changes)
after-asked ds [] all h = all
after-asked ds (change ∷ rest) all h = after-asked (dialog_change ds change) rest (change-asked ds change all h.0) h.1

pub start-keeps : (g : ℕ) → 1 ≤ g → KeepsWell g [] no_local
start-keeps g h = record { numbered = h; flush = λ c. flush-start g c; made = tt; asked = tt }

-- after a plan whose delta it takes
pub made-keeps : (g : ℕ) (S : List Op) (local : Local) (plan : Plan) (delta : List Op) → KeepsWell g S local → IsOfDraft g (seen_of S) plan → Makes plan → AreWellMade delta → Same delta plan.ops
    → KeepsWell g (S ++ delta) (after_all local plan.local)
made-keeps g S local plan delta k drafted makes proper same = record {
  numbered = k.numbered;
  flush = λ c. step-flush g S plan drafted delta same k.flush c;
  made = all-append (λ op. IsTrue (is_well_made op)) S delta k.made proper;
  asked = after-asked local.dialogs plan.local k.asked makes.moves;
}

-- and after a delta of another
pub taken-keeps : (g : ℕ) (S D : List Op) (local : Local) (seen : Seen) → KeepsWell g S local → AreWellMade D → ((c : List ℕ) → AddsNothingOwn g c S D) → KeepsWell g (S ++ D) (owned g seen local)
taken-keeps g S D local seen k proper news = record {
  numbered = k.numbered;
  flush = λ c. flush-taken g c S D (news c) (k.flush c);
  made = all-append (λ op. IsTrue (is_well_made op)) S D k.made proper;
  asked = k.asked;
}
