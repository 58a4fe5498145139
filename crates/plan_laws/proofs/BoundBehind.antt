-- After each step, each tick and each delta of another the bound clients are the gateway's, and up.
use Rattle.std.proofs.Common.{◌≡◌, ◌⊎◌, ℕ, Bool, true, false, not, nat_le, if◌then◌else◌, cond, List, [], ◌∷◌, ◌++◌, map, filter, fold, Option, Some, None, IfSome, is_some, unwrap_or, refl, sym, ap, ◌∙◌, subst, inl, inr, true≢false, eq-eqb, eqb-true}
use Rattle.std.specs.List.{AllByRecursion}
use Rattle.std.proofs.lemmas.List.Sums.{fold-append}
use Rattle.sn_topic.specs.Table.{Entries}
use Rattle.sn_tables.proofs.Ascending.{all_with}
use Rattle.sn_session.specs.declared.session.Session.{Session}
use Rattle.sn_session.specs.declared.change.SessionOp.{SessionOp}
use Rattle.sn_session.specs.declared.change.SessionOp.TheVariants.{Take, Presence as SetPresence}
use Rattle.sn_session.specs.Session.{empty_session, is_full, session_changed, applied}
use Rattle.sn_frame.specs.declared.frame.Frame.{Frame}
use Rattle.rep_op.specs.declared.op.Stamp.{Stamp}
use Rattle.rep_op.specs.declared.op.Op.{Op}
use Rattle.rep_op.specs.Orders.{name_of, stamp_cmp}
use Rattle.rep_op.specs.Sets.{Same, same_client, operation_at}
use Rattle.rep_model.specs.Views.{view, visible, gapless, session_made}
use Rattle.rep_model.proofs.Lookup.{or_else}
use Rattle.rep_model.proofs.Greatest.{has, same_greatest}
use Rattle.rep_model.proofs.Readers.{stamp_total, stamp_exact, same_client-true, operation_at_both, takes, has_take}
use Rattle.rep_model.proofs.Thin.{some_left, view-thin, thin-same}
use Rattle.sn_local.specs.declared.config.Addr.{Addr}
use Rattle.sn_local.specs.declared.local.Binding.{Binding}
use Rattle.sn_local.specs.declared.local.Timer.{Timer}
use Rattle.sn_local.specs.declared.local.LocalChange.{LocalChange}
use Rattle.sn_local.specs.declared.local.LocalChange.TheVariants.{Bind, Unbind, Heard, Retried, EndDialog, Advertised}
use Rattle.sn_local.specs.declared.local.WillDialog.{WillDialog}
use Rattle.sn_plan.specs.declared.plan.Plan.{Plan}
use Rattle.sn_plan.specs.declared.row.Row.{Row}
use Rattle.sn_plan.specs.declared.row.Follow.{Follow}
use Rattle.sn_plan.specs.declared.row.Follow.TheVariants as follows
use Rattle.sn_local.specs.Bindings.{same_address, binding_cmp, is_other_binding, bound, is_of_other, unbound, binding_change, bindings_after, client_at, address_of, is_stamp_of, is_owned, has_owned, owned_bindings}
use Rattle.sn_plan.specs.Bound.{session_of}
use Rattle.sn_plan.specs.Drafts.{Drafted, nothing, acked, lasting, moved}
use Rattle.sn_plan.specs.Flush.{stamp_of, IsFlush, HaveNoGap, session_with}
use Rattle.sn_local.specs.Lifetimes.{expires_at}
use Rattle.sn_local.specs.Locals.{Local, after_all, owned}
use Rattle.sn_plan.specs.Numbering.{planned, plan_with, rest_of, numbered, changes_written, start_of, ack_of}
use Rattle.sn_plan.specs.Others.{is_up, can_wake}
use Rattle.sn_plan.specs.Own.{AddsNothingOwn}
use Rattle.sn_local.specs.Seen.{Seen, seen_of}
use Rattle.sn_plan.specs.Plans.{plan_of, plan_of_puts, plan_without}
use Rattle.sn_plan.specs.Rows.{row_of, row_lasting, plan_for}
use Rattle.sn_local.proofs.Entries.{same_client-itself, visible-there}
use Rattle.row_laws.proofs.Known.{same-behind}
use Rattle.sn_plan.proofs.Lists.{and_then-some, map-some, all-append, all-weaken}
use Rattle.sn_plan.proofs.Made.{for_nobody}
use Rattle.row_laws.proofs.Outcomes.{written-shown, session-shown, unchanged-shown, others-shown}
use Rattle.row_laws.proofs.Reached.{history-own}
use Rattle.sn_tick.specs.declared.due.Due.{Due}
use Rattle.sn_tick.specs.declared.due.Due.TheVariants as dues
use Rattle.sn_tick.specs.Due.{elapsed, first_due}
use Rattle.sn_tick.specs.Expiry.{under_way, is_expired, expiry_acked, expire_all}
use Rattle.sn_exchange.specs.Following.{peer_at, followed_for, followed, deliver_next}
use Rattle.sn_deliver.specs.Steps.{row_for, step}
use Rattle.sn_tick.specs.Ticking.{dialog_ended, dialogs_ended, needs_timer, timer_begun, begin_tick, may_advertise, advertised_to, advertised, lost, plan_due, plan_if_due, tick}
use Rattle.plan_laws.specs.BoundUp.{IsClientUp, IsUp}
use Rattle.plan_laws.proofs.BoundDrafts.{KeepsUp, IsNoBind, BindsTo, BeginsAnew, IsViewUp, Stays, Comes, Goes, Fits, followed-fits}
use Rattle.plan_laws.proofs.BoundRows.{FitsFor, FitsRow, row-fits}

-- ---- lists of bindings

module _ (P : Binding → Type 0) where
  all-filtered : (test : Binding → Bool) (bindings : List Binding) → AllByRecursion P bindings → AllByRecursion (λ (b : Binding). P b × (test b ≡ true)) (filter test bindings)
  all-filtered test [] all = tt
  all-filtered test (x ∷ xs) all =
      elim (test x) as (λ b. test x ≡ b → AllByRecursion (λ (b : Binding). P b × (test b ≡ true)) (cond b (x ∷ filter test xs) (filter test xs))) [
        | true ↦ λ e. ((all.0, e), all-filtered test xs all.1)
        | false ↦ λ _. all-filtered test xs all.1
      ] refl

  all-kept : (test : Binding → Bool) (bindings : List Binding) → AllByRecursion P bindings → AllByRecursion P (filter test bindings)
  all-kept test bindings all = all-weaken (λ (b : Binding). P b × (test b ≡ true)) P (λ b h. h.0) (filter test bindings) (all-filtered test bindings all)

  -- a binding that is there after a new one is the new one, or was there
  all-bound : (a : Addr) (c : List ℕ) (bindings : List Binding) → P (record { address = a; client = c }) → AllByRecursion P bindings → AllByRecursion P (bound a c bindings)
  all-bound a c bindings new all =
      all_with binding_cmp P (record { address = a; client = c }) (filter (is_other_binding a c) bindings) new (all-kept (is_other_binding a c) bindings all)

  -- one that is there after the end of a client's binding was there, and is of another
  all-unbound : (c : List ℕ) (bindings : List Binding) → AllByRecursion P bindings → AllByRecursion (λ (b : Binding). P b × (is_of_other c b ≡ true)) (unbound c bindings)
  all-unbound c bindings all = all-filtered (is_of_other c) bindings all

  -- one that is left when a gateway has taken a delta was there, and its client is owned
  all-owned : (g : ℕ) (seen : Seen) (bindings : List Binding) → AllByRecursion P bindings → AllByRecursion (λ (b : Binding). P b × (has_owned g seen b ≡ true)) (owned_bindings g seen bindings)
  all-owned g seen bindings all = all-filtered (has_owned g seen) bindings all

  change-all : (bindings : List Binding) (change : LocalChange) → IsNoBind change → AllByRecursion P bindings → AllByRecursion P (binding_change bindings change)
  change-all bindings (Bind a e) none all = absurd none
  change-all bindings (Unbind e) none all =
      all-weaken (λ (b : Binding). P b × (is_of_other e b ≡ true)) P (λ b h. h.0) (unbound e bindings) (all-unbound e bindings all)
  change-all bindings change none all = all

  after-none : (changes : List LocalChange) (bindings : List Binding) → AllByRecursion IsNoBind changes → AllByRecursion P bindings → AllByRecursion P (bindings_after bindings changes)
  after-none [] bindings none all = all
  after-none (change ∷ rest) bindings none all = after-none rest (binding_change bindings change) none.1 (change-all bindings change none.0 all)

  module _ (c : List ℕ) (new : (a : Addr) → P (record { address = a; client = c })) where
    bind-all : (bindings : List Binding) (change : LocalChange) → BindsTo c change → AllByRecursion P bindings → AllByRecursion P (binding_change bindings change)
    bind-all bindings (Bind a e) to all = all-bound a e bindings (subst (λ (x : List ℕ). P (record { address = a; client = x })) (sym to) (new a)) all
    bind-all bindings (Unbind e) to all = change-all bindings (Unbind e) tt all
    bind-all bindings change to all = all

    after-binds : (changes : List LocalChange) (bindings : List Binding) → AllByRecursion (BindsTo c) changes → AllByRecursion P bindings → AllByRecursion P (bindings_after bindings changes)
    after-binds [] bindings to all = all
    after-binds (change ∷ rest) bindings to all = after-binds rest (binding_change bindings change) to.1 (bind-all bindings change to.0 all)

all-parts : (xs ys : List LocalChange) → AllByRecursion IsNoBind (xs ++ ys) → AllByRecursion IsNoBind xs × AllByRecursion IsNoBind ys
all-parts [] ys all = (tt, all)
all-parts (x ∷ xs) ys all = let r = all-parts xs ys all.1 in ((all.0, r.0), r.1)

of_another : (b : Bool) → not b ≡ true → b ≡ false
of_another true e = absurd (true≢false (sym e))
of_another false e = refl

other-client : (e c : List ℕ) → same_client e c ≡ false → ¬ (e ≡ c)
other-client e c f = λ same. true≢false (sym (same_client-itself e) ∙ ap (same_client e) same ∙ f)

-- ---- sessions

choose-up : (b : Bool) (x y : Session) → is_up x.presence ≡ true → is_up y.presence ≡ true → is_up (if◌then◌else◌ {A = Session} b x y).presence ≡ true
choose-up true x y h k = h
choose-up false x y h k = k

changed-up : (s : Session) (change : SessionOp) → KeepsUp change → is_up s.presence ≡ true → is_up (session_changed s change).presence ≡ true
changed-up s (Take t) keep up = keep
changed-up s (SetPresence state duration) keep up = keep
changed-up s change keep up = up

fold-up : (changes : List SessionOp) (s : Session) → AllByRecursion KeepsUp changes → is_up s.presence ≡ true → is_up (fold applied s changes).presence ≡ true
fold-up [] s keep up = up
fold-up (change ∷ rest) s keep up =
    fold-up rest (applied s change) keep.1 (choose-up (is_full s change) s (session_changed s change) up (changed-up s change keep.0 up))

-- also where it begins with a Take
begun-up : (changes : List SessionOp) (s : Session) → AllByRecursion KeepsUp changes → BeginsAnew changes → is_up (fold applied s changes).presence ≡ true
begun-up [] s keep anew = absurd anew
begun-up (Take t ∷ rest) s keep anew = fold-up rest t keep.1 keep.0
begun-up (change ∷ rest) s keep anew = absurd anew

or-empty : (o : Option Session) → can_wake o ≡ true → is_up (unwrap_or o empty_session).presence ≡ true
or-empty None e = refl
or-empty (Some s) e = e

abbrev is_begun : List SessionOp → Bool
is_begun [] = false
is_begun (change ∷ rest) = true

-- ---- a plan for a client

module _ (g : ℕ) (c : List ℕ) (S : List Op) (d : Drafted) (plan : Plan) (planned_so : plan_of g c (seen_of S) d ≡ Some plan)
    (flush : IsFlush g c S) (delta : List Op) (same : Same delta plan.ops) where
  view-same : (e : List ℕ) → view e (S ++ plan.ops) ≡ view e (S ++ delta)
  view-same e = sym (view-thin (S ++ delta) (S ++ plan.ops) (thin-same (S ++ delta) (S ++ plan.ops) (same-behind S plan.ops delta same)) e)

  other-up : (e : List ℕ) → ¬ (e ≡ c) → IsClientUp g S e → IsClientUp g (S ++ delta) e
  other-up e h up =
      let shown = others-shown g c S d plan planned_so e h in
      subst (IsViewUp g) (view-same e) (ap (is_stamp_of g) shown.0 ∙ up.0, ap can_wake shown.2 ∙ up.1)

  unchanged-up : d.changes ≡ [] → IsClientUp g S c → IsClientUp g (S ++ delta) c
  unchanged-up none up =
      let shown = unchanged-shown g c S d plan planned_so none in
      let made = session-shown g c S d plan planned_so flush in
      subst (IsViewUp g) (view-same c)
      (ap (is_stamp_of g) shown.0 ∙ up.0, ap can_wake (made ∙ ap (session_with (view c S).session) none) ∙ up.1)

  changed-is_up : (change : SessionOp) (rest : List SessionOp) → d.changes ≡ change ∷ rest
      → is_up (fold applied (unwrap_or (view c S).session empty_session) (change ∷ rest)).presence ≡ true → IsClientUp g (S ++ delta) c
  changed-is_up change rest is up =
      let shown = written-shown g c S d plan planned_so flush (λ none. true≢false (ap is_begun (sym is ∙ none))) in
      let made = session-shown g c S d plan planned_so flush in
      subst (IsViewUp g) (view-same c)
      (ap (is_stamp_of g) shown.2.stamp ∙ eq-eqb g g refl, ap can_wake (made ∙ ap (session_with (view c S).session) is) ∙ up)

  either-up : (changes : List SessionOp) → AllByRecursion KeepsUp changes → IsViewUp g (view c S) ⊎ BeginsAnew changes
      → is_up (fold applied (unwrap_or (view c S).session empty_session) changes).presence ≡ true
  either-up changes keep (inl was) = fold-up changes (unwrap_or (view c S).session empty_session) keep (or-empty (view c S).session was.1)
  either-up changes keep (inr anew) = begun-up changes (unwrap_or (view c S).session empty_session) keep anew

  was-so : IsViewUp g (view c S) ⊎ BeginsAnew [] → IsViewUp g (view c S)
  was-so (inl was) = was
  was-so (inr anew) = absurd anew

  own-up : AllByRecursion KeepsUp d.changes → IsViewUp g (view c S) ⊎ BeginsAnew d.changes → IsClientUp g (S ++ delta) c
  own-up = elim d.changes as (λ xs. d.changes ≡ xs → AllByRecursion KeepsUp xs → IsViewUp g (view c S) ⊎ BeginsAnew xs → IsClientUp g (S ++ delta) c) [
    | [] ↦ λ none keep either. unchanged-up none (was-so either)
    | change ∷ rest ↦ λ is keep either. changed-is_up change rest is (either-up (change ∷ rest) keep either)
  ] refl

  stays-up : AllByRecursion KeepsUp d.changes → (e : List ℕ) → IsClientUp g S e → IsClientUp g (S ++ delta) e
  stays-up keep e up =
      elim (same_client e c) as (λ b. same_client e c ≡ b → IsClientUp g (S ++ delta) e) [
        | true ↦ λ t.
            let is : e ≡ c = same_client-true e c t in
            subst (IsClientUp g (S ++ delta)) (sym is) (own-up keep (inl (subst (IsClientUp g S) is up)))
        | false ↦ λ f. other-up e (other-client e c f) up
      ] refl

  abbrev Before : Binding → Type 0
  Before b = IsClientUp g S b.client

  abbrev After : Binding → Type 0
  After b = IsClientUp g (S ++ delta) b.client

  goes-up : (bindings : List Binding) → AllByRecursion Before bindings → Goes c d → AllByRecursion After (bindings_after bindings d.local)
  goes-up bindings all h =
      let xs : List LocalChange = h.1.0 in
      let ys : List LocalChange = h.1.1 in
      let none = all-parts xs (Unbind c ∷ ys) (subst (AllByRecursion IsNoBind) h.1.2 h.0) in
      let left : List Binding = bindings_after bindings xs in
      let first : AllByRecursion (λ (b : Binding). Before b × (is_of_other c b ≡ true)) (unbound c left) = all-unbound Before c left (after-none Before xs bindings none.0 all) in
      let then_up : AllByRecursion After (unbound c left) =
      all-weaken (λ (b : Binding). Before b × (is_of_other c b ≡ true)) After (λ b k. other-up b.client (other-client b.client c (of_another (same_client b.client c) k.1)) k.0) (unbound c left) first in
      subst (λ (l : List LocalChange). AllByRecursion After (bindings_after bindings l)) (sym h.1.2)
      (subst (AllByRecursion After) (sym (fold-append binding_change bindings xs (Unbind c ∷ ys))) (after-none After ys (unbound c left) none.1.1 then_up))

  is-up : (bindings : List Binding) → AllByRecursion Before bindings → Stays d ⊎ (Comes g c (view c S) d ⊎ Goes c d) → AllByRecursion After (bindings_after bindings d.local)
  is-up bindings all (inl s) = after-none After d.local bindings s.1 (all-weaken Before After (λ b up. stays-up s.0 b.client up) bindings all)
  is-up bindings all (inr (inl s)) =
      after-binds After c (λ a. own-up s.0 s.2) d.local bindings s.1 (all-weaken Before After (λ b up. stays-up s.0 b.client up) bindings all)
  is-up bindings all (inr (inr s)) = goes-up bindings all s

  plan-local : plan.local ≡ d.local
  unfolding planned
  plan-local =
      let seen : Seen = seen_of S in
      let m = and_then-some (rest_of g c (λ e. seen.seq e g) seen.clock d) (changes_written c g d.changes (start_of g (seen.of c) (seen.epoch c))) plan planned_so in
      let n = map-some (plan_with d) (numbered g c (λ e. seen.seq e g) seen.clock d (m.0.ops ++ map (ack_of c) d.acks)) plan m.2 in
      ap (λ (p : Plan). p.local) (sym n.2)

  draft-up : (local : Local) → IsUp g S local → Fits g c (view c S) d → IsUp g (S ++ delta) (after_all local plan.local)
  draft-up local all h =
      subst (λ (l : List LocalChange). AllByRecursion After (bindings_after local.bindings l)) (sym plan-local) (is-up local.bindings all h.is)

-- ---- a plan for a client, or for nobody

module _ (g : ℕ) (S : List Op) (flush : HaveNoGap g S) (local : Local) (up : IsUp g S local) (plan : Plan) (delta : List Op) (same : Same delta plan.ops) where
  abbrev IsUpBehind : Type 0
  IsUpBehind = IsUp g (S ++ delta) (after_all local plan.local)

  puts-up : (d : Drafted) → AllByRecursion IsNoBind d.local → plan_of_puts g (seen_of S) d ≡ Some plan → IsUpBehind
  unfolding planned
  puts-up d none e =
      draft-up g [] S (for_nobody d) plan e (flush []) delta same local up
      (record { is = inl (tt, none) })

  without-up : (d : Drafted) → AllByRecursion IsNoBind d.local → Some (plan_without d) ≡ Some plan → IsUpBehind
  unfolding planned
  without-up d none e =
      draft-up g [] S (record { changes = []; acks = []; handed = []; retain = None; puts = []; expires = d.expires; sends = d.sends; local = d.local }) plan e (flush []) delta same local up
      (record { is = inl (tt, none) })

  for-up : (d : Drafted) (client : Option (List ℕ)) → FitsFor g S client d → plan_for g (seen_of S) d client ≡ Some plan → IsUpBehind
  for-up d None h e = puts-up d h e
  for-up d (Some c) h e = draft-up g c S d plan e (flush c) delta same local up h

  module _ (predefined : Entries) (a : Addr) (now : ℕ) where
    following-fits : (d : Drafted) (follow : Follow) (client : Option (List ℕ)) → FitsFor g S client d → FitsFor g S client (followed_for predefined (seen_of S) a now d follow client)
    following-fits d follow None h = h
    following-fits d follow (Some c) h =
        followed-fits g c (view c S) predefined (peer_at a c now) (session_of (seen_of S) c) (view c S).pending d follow h

    -- a moment changes no session and binds nobody
    lasting-fits : (moment : ℕ) (d : Drafted) (client : Option (List ℕ)) → FitsFor g S client d → FitsFor g S client (lasting moment d)
    lasting-fits moment d None h = h
    lasting-fits moment d (Some c) h = record { is = h.is }

    next-up : (row : Row) → FitsRow g S row → deliver_next g predefined (seen_of S) a now row ≡ Some plan → IsUpBehind
    next-up row h e =
        for-up (followed predefined (seen_of S) a now row).draft row.client (following-fits row.draft row.follow row.client h) e

  pub step-up : (lifetime : ℕ) (predefined : Entries) (a : Addr) (frame : Frame) (now : ℕ) → step g lifetime predefined (seen_of S) local a frame now ≡ Some plan → IsUpBehind
  unfolding step
  step-up lifetime predefined a frame now e =
      let row : Row = row_for g predefined (seen_of S) local a frame now in
      next-up predefined a now (row_lasting (expires_at lifetime now) row)
      (lasting-fits predefined a now (expires_at lifetime now) row.draft row.client (row-fits g S predefined local a frame now)) e

  -- ---- a tick

  moved-stays : (change : LocalChange) (d : Drafted) → IsNoBind change → Stays d → Stays (moved change d)
  moved-stays change d none s = (s.0, all-append IsNoBind d.local (change ∷ []) s.1 (none, tt))

  choose-stays : (b : Bool) (x y : Drafted) → Stays x → Stays y → Stays (if b then x else y)
  choose-stays true x y h k = h
  choose-stays false x y h k = k

  fold-stays : {B : Type 0} (f : Drafted → B → Drafted) → ((d : Drafted) (b : B) → Stays d → Stays (f d b)) → (bs : List B) (d : Drafted) → Stays d → Stays (fold f d bs)
  fold-stays f keeps [] d h = h
  fold-stays f keeps (b ∷ bs) d h = fold-stays f keeps bs (f d b) (keeps d b h)

  ended-stays : (now : ℕ) (d : Drafted) (dialog : WillDialog) → Stays d → Stays (dialog_ended now d dialog)
  ended-stays now d dialog h =
      choose-stays (nat_le 60 (elapsed now dialog.begun)) (moved (EndDialog dialog.request.address) d) d (moved-stays (EndDialog dialog.request.address) d tt h) h

  begun-stays : (timers : List Timer) (now : ℕ) (d : Drafted) (c : List ℕ) → Stays d → Stays (timer_begun g (seen_of S) timers now d c)
  begun-stays timers now d c h =
      choose-stays (needs_timer g timers c (view c S)) (moved (Heard c now) d) d (moved-stays (Heard c now) d tt h) h

  cleaned-stays : (now : ℕ) → Stays (begin_tick g (seen_of S) local now)
  cleaned-stays now =
      fold-stays (timer_begun g (seen_of S) local.timers now) (begun-stays local.timers now) (seen_of S).all (dialogs_ended now local.dialogs nothing)
      (fold-stays (dialog_ended now) (ended-stays now) local.dialogs nothing (tt, tt))

  advertised-stays : (advertise : ℕ) (field : List Addr) (now : ℕ) (d : Drafted) → Stays d → Stays (advertised g advertise field now d)
  advertised-stays advertise field now d h =
      moved-stays (Advertised now) (fold (advertised_to g advertise) d field) tt (fold-stays (advertised_to g advertise) (λ e a k. k) field d h)

  expired-stays : (now : ℕ) (c : List ℕ) (d : Drafted) → Stays d → Stays (expire_all (seen_of S) local now c d)
  expired-stays now c d h =
      let name : Option (ℕ × ℕ) = under_way (view c S).pending (address_of c local.bindings) (view c S).session in
      fold-stays (expiry_acked now name) (λ e put k. choose-stays (is_expired now name put) (acked (name_of put) e) e k k) (view c S).pending d h

  module _ (predefined : Entries) (now : ℕ) (d : Drafted) (h : Stays d) where
    lost-fits : (c : List ℕ) (s : Session) → Fits g c (view c S) (lost (seen_of S) c s d)
    lost-fits c s = record { is = inr (inr (all-append IsNoBind d.local (Unbind c ∷ []) h.1 (tt, tt), (d.local, [], refl))) }

    due-up : (c : List ℕ) (due : Due) → plan_due g predefined (seen_of S) local now d c due ≡ Some plan → IsUpBehind
    due-up c dues.Expiry e = for-up (expire_all (seen_of S) local now c d) (Some c) (record { is = inl (expired-stays now c d h) }) e
    due-up c dues.Loss e = for-up (lost (seen_of S) c (session_of (seen_of S) c) d) (Some c) (lost-fits c (session_of (seen_of S) c)) e
    due-up c (dues.Retry a) e =
        next-up predefined a now (row_of follows.Resend c (moved (Retried c now) d)) (record { is = inl (moved-stays (Retried c now) d tt h) }) e
    due-up c (dues.Delivery a) e = next-up predefined a now (row_of follows.Delivery c d) (record { is = inl h }) e

    if_due-up : (found : Option (List ℕ × Due)) → plan_if_due g predefined (seen_of S) local now d found ≡ Some plan → IsUpBehind
    if_due-up None e = without-up d h.1 e
    if_due-up (Some found) e = due-up found.0 found.1 e

  either-way : (b : Bool) (x y : Option Plan) → (x ≡ Some plan → IsUpBehind) → (y ≡ Some plan → IsUpBehind) → (if b then x else y) ≡ Some plan → IsUpBehind
  either-way true x y h m e = h e
  either-way false x y h m e = m e

  pub tick-up : (lifetime : ℕ) (predefined : Entries) (advertise : ℕ) (field : List Addr) (now : ℕ) → tick g lifetime advertise field predefined (seen_of S) local now ≡ Some plan → IsUpBehind
  tick-up lifetime predefined advertise field now e =
      let d : Drafted = lasting (expires_at lifetime now) (begin_tick g (seen_of S) local now) in
      let h : Stays d = cleaned-stays now in
      either-way (may_advertise advertise field now local.advertised) (Some (plan_without (advertised g advertise field now d)))
      (plan_if_due g predefined (seen_of S) local now d (first_due g (seen_of S) local now (seen_of S).all))
      (λ is. without-up (advertised g advertise field now d) (advertised-stays advertise field now d h).1 is)
      (λ is. if_due-up predefined now d h (first_due g (seen_of S) local now (seen_of S).all) is) e

-- ---- a delta of another

known : {X : Type 0} (a b : Option X) → ((x : X) → b ≡ Some x → a ≡ Some x) → or_else a b ≡ a
known (Some x) b f = refl
known None None f = refl
known None (Some y) f = sym (f y refl)

module _ (g : ℕ) (c : List ℕ) (S D : List Op) (none : AddsNothingOwn g c S D) where
  own-same : (epoch k : ℕ) → operation_at c (S ++ D) (stamp_of epoch g, k) ≡ operation_at c S (stamp_of epoch g, k)
  own-same epoch k = operation_at_both c S D (stamp_of epoch g, k) ∙ known (operation_at c S (stamp_of epoch g, k)) (operation_at c D (stamp_of epoch g, k)) (none epoch k)

  -- where the gateway's own stamp is the visible one, it was before
  seen-before : (epoch : ℕ) → visible c (S ++ D) ≡ Some (stamp_of epoch g) → visible c S ≡ visible c (S ++ D)
  seen-before epoch e = same_greatest stamp_cmp stamp_total stamp_exact (takes c S) (takes c (S ++ D))
      (λ s h. has_take c (S ++ D) s ∙ ap is_some (operation_at_both c S D (s, 0)) ∙ some_left (operation_at c S (s, 0)) (operation_at c D (s, 0)) (sym (has_take c S s) ∙ h))
      (subst (λ v. IfSome v (λ s. has stamp_cmp s (takes c S) ≡ true)) (sym e)
      (has_take c S (stamp_of epoch g) ∙ ap is_some (sym (own-same epoch 0)) ∙ visible-there c (S ++ D) (stamp_of epoch g) e))

  same-session : (epoch : ℕ) → visible c (S ++ D) ≡ Some (stamp_of epoch g) → (view c (S ++ D)).session ≡ (view c S).session
  same-session epoch e = ap session_made
      (history-own c (S ++ D) (stamp_of epoch g) e
      ∙ ap (λ (at : ℕ → Option SessionOp). gapless at 256 0) (λ i k. own-same epoch k i)
      ∙ sym (history-own c S (stamp_of epoch g) (seen-before epoch e ∙ e)))

  own-session : (stamp : Option Stamp) → visible c (S ++ D) ≡ stamp → is_stamp_of g stamp ≡ true → (view c (S ++ D)).session ≡ (view c S).session
  own-session None e own = absurd (true≢false (sym own))
  own-session (Some stamp) e own =
      let gateway : stamp.gateway ≡ g = eqb-true stamp.gateway g own in
      let is : stamp ≡ stamp_of stamp.epoch g = λ i. record { epoch = stamp.epoch; gateway = gateway i } in
      same-session stamp.epoch (e ∙ ap Some is)

  taken-client : IsClientUp g S c → is_owned g (seen_of (S ++ D)) c ≡ true → IsClientUp g (S ++ D) c
  taken-client up own = (own, ap can_wake (own-session (visible c (S ++ D)) refl own) ∙ up.1)

pub taken-up : (g : ℕ) (S D : List Op) (local : Local) → IsUp g S local → ((c : List ℕ) → AddsNothingOwn g c S D) → IsUp g (S ++ D) (owned g (seen_of (S ++ D)) local)
taken-up g S D local up none =
    let after : Seen = seen_of (S ++ D) in
    all-weaken (λ (b : Binding). IsClientUp g S b.client × (has_owned g after b ≡ true)) (λ (b : Binding). IsClientUp g (S ++ D) b.client)
    (λ b h. taken-client g b.client S D (none b.client) h.0 h.1) (owned_bindings g after local.bindings)
    (all-owned (λ (b : Binding). IsClientUp g S b.client) g after local.bindings up)

-- equal sets are alike
pub equal-up : (g : ℕ) (A B : List Op) (local : Local) → Same A B → IsUp g A local → IsUp g B local
equal-up g A B local same up =
    all-weaken (λ (b : Binding). IsClientUp g A b.client) (λ (b : Binding). IsClientUp g B b.client)
    (λ b h. subst (IsViewUp g) (view-thin A B (thin-same A B same) b.client) h) local.bindings up

-- ---- what a frame finds

choose-found : (P : List ℕ → Type 0) (b : Bool) (c : List ℕ) (o : Option (List ℕ)) → P c → IfSome o P → IfSome (if b then Some c else o) P
choose-found P true c o h k = h
choose-found P false c o h k = k

found-up : (g : ℕ) (S : List Op) (a : Addr) (bindings : List Binding) → AllByRecursion (λ (b : Binding). IsClientUp g S b.client) bindings → IfSome (client_at a bindings) (IsClientUp g S)
found-up g S a [] all = tt
found-up g S a (b ∷ rest) all = choose-found (IsClientUp g S) (same_address b.address a) b.client (client_at a rest) all.0 (found-up g S a rest all.1)

session-there : (o : Option Session) → can_wake o ≡ true → (s : Session) × (o ≡ Some s) × (is_up s.presence ≡ true)
session-there None e = absurd (true≢false (sym e))
session-there (Some s) e = (s, refl, e)

pub finds-up : (g : ℕ) (S : List Op) (local : Local) (a : Addr) (c : List ℕ) → IsUp g S local → client_at a local.bindings ≡ Some c
    → (s : Session) × ((view c S).session ≡ Some s) × (is_up s.presence ≡ true)
finds-up g S local a c up e =
    let one : IsClientUp g S c = subst (λ o. IfSome o (IsClientUp g S)) e (found-up g S a local.bindings up) in
    session-there (view c S).session one.1
