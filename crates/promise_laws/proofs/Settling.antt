-- Each operation of a step's plan carries over what the session has received, or the step accepts a PUBLISH with the id.
use Rattle.std.proofs.Common.{◌≡◌, ℕ, Bool, true, false, ◌⊎◌, nat_lt, if◌then◌else◌, List, [], ◌∷◌, ◌++◌, map, Option, Some, None, option_map, refl, sym, ap, ◌∙◌, subst, inl, inr}
use Rattle.std.specs.List.{AllByRecursion}
use Rattle.std.proofs.lemmas.Option.{same_Some}
use Rattle.std.proofs.lemmas.List.Elements.{All-from_recursion, All-contains}
use Rattle.sn_topic.specs.Table.{Entries}
use Rattle.sn_session.specs.declared.presence.Presence.TheVariants.{Lost}
use Rattle.sn_session.specs.declared.session.Session.{Session}
use Rattle.sn_session.specs.declared.change.SessionOp.{SessionOp}
use Rattle.sn_session.specs.declared.change.SessionOp.TheVariants.{Take, Presence}
use Rattle.sn_tables.specs.Received.{is_received}
use Rattle.sn_frame.specs.declared.frame.Frame.{Frame}
use Rattle.rep_op.specs.declared.op.Op.{Op}
use Rattle.rep_op.specs.declared.op.Op.TheVariants.{Session as OfSession, Put as OfPut, Ack, Retain as OfRetain}
use Rattle.sn_local.specs.declared.config.Addr.{Addr}
use Rattle.sn_local.specs.declared.local.LocalChange.TheVariants.{Heard, EndDialog}
use Rattle.sn_local.specs.Lifetimes.{expires_at}
use Rattle.sn_local.specs.Locals.{Local}
use Rattle.sn_local.specs.Seen.{Seen}
use Rattle.sn_plan.specs.declared.plan.Plan.{Plan}
use Rattle.sn_plan.specs.declared.row.Row.{Row}
use Rattle.sn_plan.specs.declared.row.Follow.TheVariants as follows
use Rattle.sn_plan.specs.Bound.{session_of}
use Rattle.sn_plan.specs.Drafts.{Drafted, nothing, lasting, moved}
use Rattle.sn_plan.specs.Numbering.{Written, another, taken_at, taken, counted, write, changes_written, start_of, ack_of, planned}
use Rattle.sn_plan.specs.Plans.{plan_of, plan_of_puts, plan_without}
use Rattle.sn_plan.specs.Rows.{row_of, row_lasting, plan_for}
use Rattle.sn_plan.proofs.Lists.{and_then-some, map-some, all-append, all-weaken, all-map}
use Rattle.sn_plan.proofs.Made.{for_nobody}
use Rattle.sn_exchange.specs.Following.{followed_for, deliver_next}
use Rattle.sn_deliver.specs.Steps.{row_for, step}
use Rattle.sn_tick.specs.declared.due.Due.{Due}
use Rattle.sn_tick.specs.declared.due.Due.TheVariants as dues
use Rattle.sn_tick.specs.Due.{first_due}
use Rattle.sn_tick.specs.Expiry.{expire_all}
use Rattle.sn_tick.specs.Ticking.{is_old, dialog_ended, dialogs_ended, needs_timer, timer_begun, begin_tick, may_advertise, advertised, published, lost, retry_row, plan_due, plan_if_due, tick}
use Rattle.row_laws.proofs.Planned.{IsNumbered, planned-parts, parts-more}
use Rattle.step_laws.proofs.Expiring.{expired-acked}
use Rattle.step_laws.proofs.Keeping.{fold_keeps}
use Rattle.promise_laws.proofs.Bringing.{HasOne, applied-brings}
use Rattle.promise_laws.proofs.Carrying.{IsNewPublish, IsCarried, Carried, CarriedFor, CarriedRow, carried-more, row-carried}
use Rattle.promise_laws.proofs.Following.{for-carried}

module _ (seen : Seen) (A : List ℕ → ℕ → Type 0) where
  -- a session operation brings no other id than those that were received, or are accepted
  abbrev pub IsSettled : Op → Type 0
  IsSettled (OfSession c stamp counter change) = IsCarried seen A c change
  IsSettled (OfPut c p) = Unit {0}
  IsSettled (Ack c origin first last) = Unit {0}
  IsSettled (OfRetain topic kept) = Unit {0}

  abbrev pub AreSettled : List Op → Type 0
  AreSettled ops = AllByRecursion IsSettled ops

  module _ (g : ℕ) (c : List ℕ) where
    -- the session so far has received no others, and so it is with what is written
    record Ready (w : Written) : Type 0 where
      session : IsCarried seen A c (Take w.session)
      ops : AreSettled w.ops

    another-ready : (change : SessionOp) (w : Written) → IsCarried seen A c change → Ready w → Ready (another c g change w)
    another-ready change w h r = record {
      session = λ id e. elim (applied-brings w.session change id e) [ inl new ↦ h id new | inr old ↦ r.session id old ];
      ops = all-append IsSettled w.ops _ r.ops (h, tt);
    }

    taken-gives : (session : Session) (w x : Written) → IsCarried seen A c (Take session) → Ready w → taken c g session w ≡ Some x → Ready x
    taken-gives session w x h r e =
        let m = map-some (taken_at c g session w) w.next x e in
        subst Ready m.2 (record { session = h; ops = all-append IsSettled w.ops _ r.ops (h, tt) })

    counted-gives : (change : SessionOp) (w x : Written) → IsCarried seen A c change → Ready w → counted c g change w ≡ Some x → Ready x
    counted-gives change w x h r e =
        elim (nat_lt w.counter 256) as (λ b. (if b then Some (another c g change w) else option_map (another c g change) (taken c g w.session w)) ≡ Some x → Ready x) [
          | true ↦ λ is. subst Ready (same_Some (another c g change w) x is) (another-ready change w h r)
          | false ↦ λ is.
              let m = map-some (another c g change) (taken c g w.session w) x is in
              subst Ready m.2 (another-ready change m.0 h (taken-gives w.session w m.0 r.session r m.1))
        ] e

    write-gives : (change : SessionOp) (w x : Written) → IsCarried seen A c change → Ready w → write c g change w ≡ Some x → Ready x
    unfolding write
    write-gives (Take session) w x h r e = taken-gives session w x h r e
    write-gives change w x h r e = counted-gives change w x h r e

    written-ready : (changes : List SessionOp) (w x : Written) → AllByRecursion (IsCarried seen A c) changes → Ready w → changes_written c g changes w ≡ Some x → Ready x
    written-ready [] w x all r e = subst Ready (same_Some w x e) r
    written-ready (change ∷ rest) w x all r e =
        let m = and_then-some (changes_written c g rest) (write c g change w) x e in
        written-ready rest m.0 x all.1 (write-gives change w m.0 all.0 r m.1) m.2

  numbered-settled : (g : ℕ) (seq clock : List ℕ → Option ℕ) (op : Op) → IsNumbered g seq clock op → IsSettled op
  numbered-settled g seq clock (OfSession c stamp counter change) h = absurd h
  numbered-settled g seq clock (OfPut c p) h = tt
  numbered-settled g seq clock (Ack c origin first last) h = tt
  numbered-settled g seq clock (OfRetain topic kept) h = tt

  module _ (g : ℕ) (plan : Plan) where
    of-settled : (c : List ℕ) (d : Drafted) → Carried seen A c d → plan_of g c seen d ≡ Some plan → AreSettled plan.ops
    of-settled c d h e =
        let parts = planned-parts g c (seen.of c) (seen.epoch c) (λ e. seen.seq e g) seen.clock d plan e in
        let before : List Op = parts.w.ops ++ map (ack_of c) d.acks in
        let b = parts-more g c (seen.of c) (seen.epoch c) (λ e. seen.seq e g) seen.clock d plan.ops parts in
        let ready = written-ready g c d.changes (start_of g (seen.of c) (seen.epoch c)) parts.w h (record { session = λ id is. inl is; ops = tt }) parts.is_written in
        subst AreSettled (sym b.1)
        (all-append IsSettled before b.0
        (all-append IsSettled parts.w.ops (map (ack_of c) d.acks) ready.ops (all-map IsSettled (ack_of c) (λ name. tt) d.acks))
        (all-weaken (IsNumbered g (λ e. seen.seq e g) seen.clock) IsSettled (numbered-settled g (λ e. seen.seq e g) seen.clock) b.0 b.2))

    puts-settled : (d : Drafted) → plan_of_puts g seen d ≡ Some plan → AreSettled plan.ops
    unfolding planned
    puts-settled d e = of-settled [] (for_nobody d) tt e

    for-settled : (d : Drafted) (client : Option (List ℕ)) → CarriedFor seen A client d → plan_for g seen d client ≡ Some plan → AreSettled plan.ops
    for-settled d None h e = puts-settled d e
    for-settled d (Some c) h e = of-settled c d h e

    next-settled : (predefined : Entries) (a : Addr) (now : ℕ) (row : Row) → CarriedRow seen A row → deliver_next g predefined seen a now row ≡ Some plan → AreSettled plan.ops
    next-settled predefined a now row h e =
        for-settled (followed_for predefined seen a now row.draft row.follow row.client) row.client (for-carried seen A predefined a now row.draft row.follow row.client h) e

  -- where the operations have one that brings an id
  one-settled : (c : List ℕ) (id : ℕ) (ops : List Op) → AreSettled ops → HasOne c id ops → (is_received id (session_of seen c).received ≡ true) ⊎ A c id
  one-settled c id ops all (stamp, counter, change, there, brings) =
      All-contains IsSettled ops (OfSession c stamp counter change) (All-from_recursion IsSettled ops all) there id brings

-- a moment brings no id
lasting-carried : (seen : Seen) (A : List ℕ → ℕ → Type 0) (client : Option (List ℕ)) (moment : ℕ) (d : Drafted) → CarriedFor seen A client d → CarriedFor seen A client (lasting moment d)
lasting-carried seen A None moment d h = tt
lasting-carried seen A (Some c) moment d h = h

-- ---- a frame

pub step-brings : (g lifetime : ℕ) (predefined : Entries) (seen : Seen) (local : Local) (a : Addr) (frame : Frame) (now : ℕ) (plan : Plan) → step g lifetime predefined seen local a frame now ≡ Some plan
    → (c : List ℕ) (id : ℕ) → HasOne c id plan.ops → (is_received id (session_of seen c).received ≡ true) ⊎ IsNewPublish predefined seen local a frame c id
unfolding step
step-brings g lifetime predefined seen local a frame now plan e c id h =
    let row : Row = row_for g predefined seen local a frame now in
    one-settled seen (IsNewPublish predefined seen local a frame) c id plan.ops
    (next-settled seen (IsNewPublish predefined seen local a frame) g plan predefined a now (row_lasting (expires_at lifetime now) row)
    (lasting-carried seen (IsNewPublish predefined seen local a frame) row.client (expires_at lifetime now) row.draft (row-carried g predefined seen local a frame now)) e) h

-- ---- a tick

-- it accepts no PUBLISH
abbrev Nobody : List ℕ → ℕ → Type 0
Nobody c id = ⊥

choose-changes : (b : Bool) (x d : Drafted) → x.changes ≡ d.changes → (if b then x else d).changes ≡ d.changes
choose-changes true x d e = e
choose-changes false x d e = refl

cleaned-changes : (g : ℕ) (seen : Seen) (local : Local) (now : ℕ) → (begin_tick g seen local now).changes ≡ []
cleaned-changes g seen local now =
    fold_keeps (timer_begun g seen local.timers now) (λ (d : Drafted). d.changes) (λ d c. choose-changes (needs_timer g local.timers c (seen.of c)) (moved (Heard c now) d) d refl) seen.all (dialogs_ended now local.dialogs nothing)
    ∙ fold_keeps (dialog_ended now) (λ (d : Drafted). d.changes) (λ d dialog. choose-changes (is_old now dialog) (moved (EndDialog dialog.request.address) d) d refl) local.dialogs nothing

expired-changes : (seen : Seen) (local : Local) (now : ℕ) (c : List ℕ) (d : Drafted) → (expire_all seen local now c d).changes ≡ d.changes
expired-changes seen local now c d = ap (λ (e : Drafted). e.changes) (expired-acked seen local now c d)

module _ (g : ℕ) (predefined : Entries) (seen : Seen) (local : Local) (now : ℕ) (plan : Plan) (d : Drafted) (none : d.changes ≡ []) where
  base : (c : List ℕ) → Carried seen Nobody c d
  base c = subst (λ (changes : List SessionOp). AllByRecursion (IsCarried seen Nobody c) changes) (sym none) tt

  due-settled : (c : List ℕ) (due : Due) → plan_due g predefined seen local now d c due ≡ Some plan → AreSettled seen Nobody plan.ops
  due-settled c dues.Expiry e =
      of-settled seen Nobody g plan c (expire_all seen local now c d)
      (subst (λ (changes : List SessionOp). AllByRecursion (IsCarried seen Nobody c) changes) (sym (expired-changes seen local now c d ∙ none)) tt) e
  due-settled c dues.Loss e =
      of-settled seen Nobody g plan c (lost seen c (session_of seen c) d)
      (carried-more seen Nobody c (Presence Lost (session_of seen c).duration) (published seen c (session_of seen c).will d) (λ id b. absurd b) (base c)) e
  due-settled c (dues.Retry a) e = next-settled seen Nobody g plan predefined a now (retry_row now d c) (base c) e
  due-settled c (dues.Delivery a) e = next-settled seen Nobody g plan predefined a now (row_of follows.Delivery c d) (base c) e

  without-settled : (e : Drafted) → Some (plan_without e) ≡ Some plan → AreSettled seen Nobody plan.ops
  without-settled e is = subst (λ (p : Plan). AreSettled seen Nobody p.ops) (same_Some (plan_without e) plan is) tt

  if_due-settled : (found : Option (List ℕ × Due)) → plan_if_due g predefined seen local now d found ≡ Some plan → AreSettled seen Nobody plan.ops
  if_due-settled None e = without-settled d e
  if_due-settled (Some found) e = due-settled found.0 found.1 e

  either-settled : (b : Bool) (told : Drafted) (found : Option (List ℕ × Due)) → (if b then Some (plan_without told) else plan_if_due g predefined seen local now d found) ≡ Some plan → AreSettled seen Nobody plan.ops
  either-settled true told found e = without-settled told e
  either-settled false told found e = if_due-settled found e

pub tick-brings : (g lifetime advertise : ℕ) (field : List Addr) (predefined : Entries) (seen : Seen) (local : Local) (now : ℕ) (plan : Plan) → tick g lifetime advertise field predefined seen local now ≡ Some plan
    → (c : List ℕ) (id : ℕ) → HasOne c id plan.ops → is_received id (session_of seen c).received ≡ true
tick-brings g lifetime advertise field predefined seen local now plan e c id h =
    let d : Drafted = lasting (expires_at lifetime now) (begin_tick g seen local now) in
    let settled = either-settled g predefined seen local now plan d (cleaned-changes g seen local now) (may_advertise advertise field now local.advertised)
    (advertised g advertise field now d) (first_due g seen local now seen.all) e in
    elim (one-settled seen Nobody c id plan.ops settled h) [ inl had ↦ had | inr none ↦ absurd none ]
