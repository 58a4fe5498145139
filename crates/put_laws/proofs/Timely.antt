-- A tick acknowledges only what Delivery is done with, for a client with an address, and what has expired.
use Rattle.std.proofs.Common.{◌≡◌, ℕ, Bool, true, false, ◌||◌, if◌then◌else◌, nat_le, nat_lt, List, [], ◌∷◌, length, Option, Some, None, unwrap_or, IfSome, Contains, ◌⊎◌, refl, sym, ap, ◌∙◌, subst, true≢false, inl, inr}
use Rattle.std.proofs.lemmas.Option.{same_Some}
use Rattle.sn_topic.specs.Table.{Entries}
use Rattle.sn_session.specs.declared.outbound.Outbound.{Outbound}
use Rattle.sn_session.specs.declared.session.Session.{Session}
use Rattle.sn_session.specs.declared.change.SessionOp.{SessionOp}
use Rattle.sn_session.specs.Session.{empty_session}
use Rattle.rep_op.specs.declared.op.Put.{Put}
use Rattle.rep_op.specs.Sets.{is_acknowledged}
use Rattle.sn_local.specs.declared.config.Addr.{Addr}
use Rattle.sn_local.specs.declared.config.Send.{Send}
use Rattle.sn_local.specs.declared.local.Timer.{Timer}
use Rattle.sn_local.specs.declared.local.LocalChange.{LocalChange}
use Rattle.sn_local.specs.declared.local.LocalChange.TheVariants.{Heard, Retried, EndDialog}
use Rattle.sn_local.specs.declared.local.WillDialog.{WillDialog}
use Rattle.sn_local.specs.Bindings.{address_of, is_stamp_of, is_owned}
use Rattle.sn_local.specs.Lifetimes.{expires_at}
use Rattle.sn_local.specs.Locals.{Local}
use Rattle.sn_local.specs.Seen.{Seen}
use Rattle.sn_local.specs.Timers.{timer_of}
use Rattle.sn_plan.specs.declared.plan.Plan.{Plan}
use Rattle.sn_plan.specs.declared.row.Follow.{Follow}
use Rattle.sn_plan.specs.declared.row.Follow.TheVariants as follows
use Rattle.sn_plan.specs.Bound.{session_of}
use Rattle.sn_plan.specs.Drafts.{Drafted, nothing, lasting, moved, session_after}
use Rattle.sn_plan.specs.Plans.{plan_of, plan_without}
use Rattle.sn_exchange.specs.Exchanges.{open_exchange, is_served, is_awake}
use Rattle.sn_exchange.specs.Following.{peer_at, followed_by}
use Rattle.sn_tick.specs.declared.due.Due.{Due}
use Rattle.sn_tick.specs.declared.due.Due.TheVariants.{Expiry, Loss, Retry, Delivery}
use Rattle.sn_tick.specs.Due.{elapsed, is_overdue, due_exchange, due_by, due_at, due_session, expiry_or_due, due_with, or_later, first_due}
use Rattle.sn_tick.specs.Expiry.{has_expired, expire_all}
use Rattle.sn_tick.specs.Ticking.{is_old, dialog_ended, dialogs_ended, needs_timer, timer_begun, begin_tick, may_advertise, advertised, lost, plan_due, plan_if_due, tick}
use Rattle.step_laws.specs.Laws.{IsOfOneDone, IsOfOneExpired}
use Rattle.step_laws.proofs.Expiring.{only-past}
use Rattle.step_laws.proofs.Keeping.{fold_keeps}
use Rattle.put_laws.specs.Causes.{IsTimely}
use Rattle.put_laws.proofs.Acked.{none-there, plan-acks, plan-sends}
use Rattle.put_laws.proofs.Grown.{to-served, follows-spend}

-- a plan without operations acknowledges nothing
without-acks : (d : Drafted) (plan : Plan) → Some (plan_without d) ≡ Some plan → (e : List ℕ) (name : ℕ × ℕ) → is_acknowledged e plan.ops name ≡ true → ⊥
without-acks d plan is e name acked =
    true≢false (sym (ap (λ (x : Plan). is_acknowledged e x.ops name) (same_Some (plan_without d) plan is) ∙ acked))

-- ---- what a tick does first changes no session and acknowledges nothing

module _ {X : Type 0} (of : Drafted → X) (moves : (change : LocalChange) (d : Drafted) → of (moved change d) ≡ of d) where
  choose-kept : (b : Bool) (x d : Drafted) → of x ≡ of d → of (if b then x else d) ≡ of d
  choose-kept true x d h = h
  choose-kept false x d h = refl

  ended-kept : (now : ℕ) (d : Drafted) (dialog : WillDialog) → of (dialog_ended now d dialog) ≡ of d
  ended-kept now d dialog = choose-kept (is_old now dialog) (moved (EndDialog dialog.request.address) d) d (moves (EndDialog dialog.request.address) d)

  begun-kept : (g : ℕ) (seen : Seen) (timers : List Timer) (now : ℕ) (d : Drafted) (c : List ℕ) → of (timer_begun g seen timers now d c) ≡ of d
  begun-kept g seen timers now d c = choose-kept (needs_timer g timers c (seen.of c)) (moved (Heard c now) d) d (moves (Heard c now) d)

  cleaned-keeps : (g : ℕ) (seen : Seen) (local : Local) (now : ℕ) → of (begin_tick g seen local now) ≡ of nothing
  cleaned-keeps g seen local now =
      fold_keeps (timer_begun g seen local.timers now) of (begun-kept g seen local.timers now) seen.all (dialogs_ended now local.dialogs nothing)
      ∙ fold_keeps (dialog_ended now) of (ended-kept now) local.dialogs nothing

-- ---- what is due, and where

-- what is due at an address is due at that of the client, which is Active or Awake
abbrev IsAt : Option Addr → Session → Due → Type 0
IsAt o s Expiry = Unit {0}
IsAt o s Loss = Unit {0}
IsAt o s (Retry a) = (o ≡ Some a) × (is_served s.presence ≡ true)
IsAt o s (Delivery a) = (o ≡ Some a) × (is_served s.presence ≡ true)

choose-some : {X : Type 0} (P : X → Type 0) (b : Bool) (x y : Option X) → (b ≡ true → IfSome x P) → IfSome y P → IfSome (if b then x else y) P
choose-some P true x y h k = h refl
choose-some P false x y h k = k

module _ (now : ℕ) (s : Session) (pending : List Put) (timer : Option Timer) where
  exchange-at : (a : Addr) (t : Option Timer) → is_served s.presence ≡ true → IfSome (due_exchange now a t) (IsAt (Some a) s)
  exchange-at a None served = tt
  exchange-at a (Some t) served =
      choose-some (IsAt (Some a) s) (nat_le 10 (elapsed now t.sent)) (if nat_le 4 t.tries then Some Loss else Some (Retry a)) None
      (λ _. choose-some (IsAt (Some a) s) (nat_le 4 t.tries) (Some Loss) (Some (Retry a)) (λ _. tt) (refl, served)) tt

  by-at : (a : Addr) (x : Option Outbound) → is_served s.presence ≡ true → IfSome (due_by now s pending a timer x) (IsAt (Some a) s)
  by-at a None served = choose-some (IsAt (Some a) s) (is_awake s.presence || nat_lt 0 (length pending)) (Some (Delivery a)) None (λ _. (refl, served)) tt
  by-at a (Some x) served = exchange-at a timer served

  at-at : (o : Option Addr) → IfSome (due_at now s pending timer o) (IsAt o s)
  at-at None = tt
  at-at (Some a) = choose-some (IsAt (Some a) s) (is_served s.presence) (due_by now s pending a timer (open_exchange s [] pending)) None (by-at a (open_exchange s [] pending)) tt

session-at : (now : ℕ) (pending : List Put) (timer : Option Timer) (o : Option Addr) (session : Option Session) → IfSome (due_session now pending timer o session) (IsAt o (unwrap_or session empty_session))
session-at now pending timer o None = tt
session-at now pending timer o (Some s) = choose-some (IsAt o s) (is_overdue now s timer) (Some Loss) (due_at now s pending timer o) (λ _. tt) (at-at now s pending timer o)

expiry-at : (now : ℕ) (pending : List Put) (timer : Option Timer) (o : Option Addr) (session : Option Session) → IfSome (expiry_or_due now pending timer o session) (IsAt o (unwrap_or session empty_session))
expiry-at now pending timer o session =
    choose-some (IsAt o (unwrap_or session empty_session)) (has_expired now pending o session) (Some Expiry) (due_session now pending timer o session)
    (λ _. tt) (session-at now pending timer o session)

module _ (g : ℕ) (seen : Seen) (local : Local) (now : ℕ) where
  -- a client of the gateway's, and what is due at its address
  abbrev IsDueAt : List ℕ × Due → Type 0
  IsDueAt found = (is_owned g seen found.0 ≡ true) × IsAt (address_of found.0 local.bindings) (session_of seen found.0) found.1

  owned-at : (c : List ℕ) (o : Option Due) → is_owned g seen c ≡ true → IfSome o (IsAt (address_of c local.bindings) (session_of seen c)) → IfSome o (λ (reason : Due). IsDueAt (c, reason))
  owned-at c None own h = tt
  owned-at c (Some reason) own h = (own, h)

  view-at : (c : List ℕ) → IfSome (due_with g seen local now c) (λ (reason : Due). IsDueAt (c, reason))
  view-at c =
      let o : Option Due = expiry_or_due now (seen.of c).pending (timer_of c local.timers) (address_of c local.bindings) (seen.of c).session in
      elim (is_stamp_of g (seen.of c).stamp) as (λ b. is_stamp_of g (seen.of c).stamp ≡ b
      → IfSome {T = Due} (if b then expiry_or_due now (seen.of c).pending (timer_of c local.timers) (address_of c local.bindings) (seen.of c).session else None) (λ (reason : Due). IsDueAt (c, reason))) [
        | true ↦ λ own. owned-at c o own (expiry-at now (seen.of c).pending (timer_of c local.timers) (address_of c local.bindings) (seen.of c).session)
        | false ↦ λ _. tt
      ] refl

  later-at : (later : Option (List ℕ × Due)) (c : List ℕ) (o : Option Due) → IfSome later IsDueAt → IfSome o (λ (reason : Due). IsDueAt (c, reason)) → IfSome (or_later later c o) IsDueAt
  later-at later c None h k = h
  later-at later c (Some reason) h k = k

  first-at : (cs : List (List ℕ)) → IfSome (first_due g seen local now cs) IsDueAt
  first-at [] = tt
  first-at (c ∷ rest) = later-at (first_due g seen local now rest) c (due_with g seen local now c) (first-at rest) (view-at c)

-- ---- what is done

module _ (g : ℕ) (p : Entries) (seen : Seen) (local : Local) (now : ℕ) (plan : Plan) where
  abbrev IsFor : List ℕ → ℕ × ℕ → Type 0
  IsFor c name = IsTimely g p seen local now plan.sends c name

  module _ (d : Drafted) (no_changes : d.changes ≡ []) (no_acks : d.acks ≡ []) (c : List ℕ) (a : Addr) (own : is_owned g seen c ≡ true) (at : address_of c local.bindings ≡ Some a) (name : ℕ × ℕ) where
    done-timely : is_served (session_of seen c).presence ≡ true → IsOfOneDone p (peer_at a c now) (session_of seen c) (seen.of c).pending plan.sends name → IsFor c name
    done-timely served (put, among, named, done) = (own, (put, among, named, inl (a, at, (served, done))))

    same-session : session_after (session_of seen c) d ≡ session_of seen c
    same-session = ap (λ (changes : List SessionOp). session_after (session_of seen c) (record d { changes = changes })) no_changes

    kept-timely : (f : Drafted) → plan.sends ≡ f.sends
        → Contains d.acks name ⊎ ((is_served (session_after (session_of seen c) d).presence ≡ true) × IsOfOneDone p (peer_at a c now) (session_after (session_of seen c) d) (seen.of c).pending f.sends name) → IsFor c name
    kept-timely f same (inl there) = absurd (none-there name (subst (λ (acks : List (ℕ × ℕ)). Contains acks name) no_acks there))
    kept-timely f same (inr done) =
        done-timely (ap (λ (s : Session). is_served s.presence) (sym same-session) ∙ done.0) (subst (λ (sends : List Send). IsOfOneDone p (peer_at a c now) (session_of seen c) (seen.of c).pending sends name) (sym same)
        (subst (λ (s : Session). IsOfOneDone p (peer_at a c now) s (seen.of c).pending f.sends name) same-session done.1))

  follow-timely : (d : Drafted) → d.changes ≡ [] → d.acks ≡ [] → (c : List ℕ) (a : Addr) → is_owned g seen c ≡ true → IsAt (address_of c local.bindings) (session_of seen c) (Retry a) → (follow : Follow)
      → plan_of g c seen (followed_by p (peer_at a c now) (session_of seen c) (seen.of c).pending d follow) ≡ Some plan
      → (e : List ℕ) (name : ℕ × ℕ) → is_acknowledged e plan.ops name ≡ true → IsFor e name
  follow-timely d no_changes no_acks c a own at follow is e name acked =
      let f : Drafted = followed_by p (peer_at a c now) (session_of seen c) (seen.of c).pending d follow in
      let w = plan-acks g c seen f plan is e name acked in
      subst (λ (x : List ℕ). IsFor x name) (sym w.0)
      (kept-timely d no_changes no_acks c a own at.0 name f (plan-sends g c seen f plan is) (follows-spend p (peer_at a c now) (session_of seen c) (seen.of c).pending d follow
      (to-served (session_after (session_of seen c) d) follow (ap (λ (s : Session). is_served s.presence) (same-session d no_changes no_acks c a own at.0 name) ∙ at.1)) name w.1))

  expired-timely : (d : Drafted) → d.acks ≡ [] → (c : List ℕ) → is_owned g seen c ≡ true → (name : ℕ × ℕ)
      → Contains d.acks name ⊎ IsOfOneExpired now (seen.of c).pending (address_of c local.bindings) (seen.of c).session name → IsFor c name
  expired-timely d no_acks c own name (inl there) = absurd (none-there name (subst (λ (acks : List (ℕ × ℕ)). Contains acks name) no_acks there))
  expired-timely d no_acks c own name (inr (put, among, named, past, free)) = (own, (put, among, named, inr (past, free)))

  expiry-timely : (d : Drafted) → d.acks ≡ [] → (c : List ℕ) → is_owned g seen c ≡ true → plan_due g p seen local now d c Expiry ≡ Some plan
      → (e : List ℕ) (name : ℕ × ℕ) → is_acknowledged e plan.ops name ≡ true → IsFor e name
  expiry-timely d no_acks c own is e name acked =
      let w = plan-acks g c seen (expire_all seen local now c d) plan is e name acked in
      subst (λ (x : List ℕ). IsFor x name) (sym w.0) (expired-timely d no_acks c own name (only-past seen local now c d name w.1))

  loss-acks : (d : Drafted) → d.acks ≡ [] → (c : List ℕ) → plan_due g p seen local now d c Loss ≡ Some plan → (e : List ℕ) (name : ℕ × ℕ) → is_acknowledged e plan.ops name ≡ true → ⊥
  loss-acks d no_acks c is e name acked =
      none-there name (subst (λ (acks : List (ℕ × ℕ)). Contains acks name) no_acks (plan-acks g c seen (lost seen c (session_of seen c) d) plan is e name acked).1)

  module _ (d : Drafted) (no_changes : d.changes ≡ []) (no_acks : d.acks ≡ []) where
    due-timely : (c : List ℕ) (due : Due) → is_owned g seen c ≡ true → IsAt (address_of c local.bindings) (session_of seen c) due → plan_due g p seen local now d c due ≡ Some plan
        → (e : List ℕ) (name : ℕ × ℕ) → is_acknowledged e plan.ops name ≡ true → IsFor e name
    due-timely c Expiry own at is e name acked = expiry-timely d no_acks c own is e name acked
    due-timely c Loss own at is e name acked = absurd (loss-acks d no_acks c is e name acked)
    due-timely c (Retry a) own at is e name acked = follow-timely (moved (Retried c now) d) no_changes no_acks c a own at follows.Resend is e name acked
    due-timely c (Delivery a) own at is e name acked = follow-timely d no_changes no_acks c a own at follows.Delivery is e name acked

    if_due-timely : (found : Option (List ℕ × Due)) → IfSome found (IsDueAt g seen local now) → plan_if_due g p seen local now d found ≡ Some plan
        → (e : List ℕ) (name : ℕ × ℕ) → is_acknowledged e plan.ops name ≡ true → IsFor e name
    if_due-timely None h is e name acked = absurd (without-acks d plan is e name acked)
    if_due-timely (Some found) h is e name acked = due-timely found.0 found.1 h.0 h.1 is e name acked

  either-way : (b : Bool) (x y : Option Plan) (Q : Type 0) → (x ≡ Some plan → Q) → (y ≡ Some plan → Q) → (if b then x else y) ≡ Some plan → Q
  either-way true x y Q h k is = h is
  either-way false x y Q h k is = k is

pub tick-timely : (g lifetime advertise : ℕ) (field : List Addr) (p : Entries) (seen : Seen) (local : Local) (now : ℕ) (plan : Plan) (c : List ℕ) (name : ℕ × ℕ)
    → tick g lifetime advertise field p seen local now ≡ Some plan → is_acknowledged c plan.ops name ≡ true → IsTimely g p seen local now plan.sends c name
tick-timely g lifetime advertise field p seen local now plan c name is acked =
    let d : Drafted = lasting (expires_at lifetime now) (begin_tick g seen local now) in
    either-way g p seen local now plan (may_advertise advertise field now local.advertised)
    (Some (plan_without (advertised g advertise field now d))) (plan_if_due g p seen local now d (first_due g seen local now seen.all))
    (IsTimely g p seen local now plan.sends c name)
    (λ told. absurd (without-acks (advertised g advertise field now d) plan told c name acked))
    (λ due. if_due-timely g p seen local now plan d (cleaned-keeps (λ (e : Drafted). e.changes) (λ change e. refl) g seen local now) (cleaned-keeps (λ (e : Drafted). e.acks) (λ change e. refl) g seen local now) (first_due g seen local now seen.all) (first-at g seen local now seen.all) due c name acked) is

-- ---- a tick that takes a client for lost

-- what cannot be true is false
not-true : (b : Bool) → (b ≡ true → ⊥) → b ≡ false
not-true true h = absurd (h refl)
not-true false h = refl

pub loss-quiet : (g lifetime advertise : ℕ) (field : List Addr) (p : Entries) (seen : Seen) (local : Local) (now : ℕ) (plan : Plan) (lost_one c : List ℕ) (name : ℕ × ℕ)
    → tick g lifetime advertise field p seen local now ≡ Some plan → first_due g seen local now seen.all ≡ Some (lost_one, Loss) → is_acknowledged c plan.ops name ≡ false
loss-quiet g lifetime advertise field p seen local now plan lost_one c name is loss =
    let d : Drafted = lasting (expires_at lifetime now) (begin_tick g seen local now) in
    not-true (is_acknowledged c plan.ops name) (λ acked.
    either-way g p seen local now plan (may_advertise advertise field now local.advertised)
    (Some (plan_without (advertised g advertise field now d))) (plan_if_due g p seen local now d (first_due g seen local now seen.all)) ⊥
    (λ told. without-acks (advertised g advertise field now d) plan told c name acked)
    (λ due. loss-acks g p seen local now plan d (cleaned-keeps (λ (e : Drafted). e.acks) (λ change e. refl) g seen local now) lost_one
    (ap (plan_if_due g p seen local now d) (sym loss) ∙ due) c name acked) is)
