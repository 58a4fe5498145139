-- A client is lost, or there is one more try or Delivery: what is left to do is less.
use Rattle.std.proofs.Common.{◌≡◌, ℕ, ◌<◌, ◌≤◌, Bool, true, false, ◌&&◌, if◌then◌else◌, is_some, List, [], ◌∷◌, ◌++◌, filter, map, fold, Option, Some, None, unwrap_or, refl, sym, ap, ◌∙◌, subst, true≢false, le_of_eq, arith}
use Rattle.std.specs.Option.{option_map}
use Rattle.std.specs.List.{AllByRecursion, cons_option}
use Rattle.std.proofs.lemmas.Bool.{and_from}
use Rattle.sn_topic.specs.Table.{Entries}
use Rattle.sn_session.specs.declared.presence.Presence.TheVariants.{Lost}
use Rattle.sn_session.specs.declared.session.Session.{Session}
use Rattle.sn_session.specs.declared.will.Will.{Will}
use Rattle.sn_session.specs.declared.change.SessionOp.{SessionOp}
use Rattle.sn_session.specs.declared.change.SessionOp.TheVariants.{Presence}
use Rattle.sn_session.specs.Session.{applied, empty_session}
use Rattle.rep_op.specs.declared.op.Op.{Op}
use Rattle.rep_op.specs.declared.op.Put.{Put}
use Rattle.rep_op.specs.Sets.{same_client, Same}
use Rattle.rep_model.specs.declared.view.ClientView.{ClientView}
use Rattle.rep_model.specs.Views.{view, clients, is_named}
use Rattle.rep_model.proofs.Readers.{same_client-true}
use Rattle.rep_model.proofs.Joins.{all-moved}
use Rattle.rep_model.proofs.Named.{clients-named}
use Rattle.sn_local.specs.declared.config.Addr.{Addr}
use Rattle.sn_plan.specs.declared.draft.NewPut.{NewPut}
use Rattle.sn_local.specs.declared.local.Timer.{Timer}
use Rattle.sn_local.specs.declared.local.LocalChange.{LocalChange}
use Rattle.sn_local.specs.declared.local.LocalChange.TheVariants.{Unbind, Retried}
use Rattle.sn_plan.specs.declared.plan.Plan.{Plan}
use Rattle.sn_plan.specs.declared.row.Follow.TheVariants as follows
use Rattle.sn_local.specs.Bindings.{is_stamp_of, address_of}
use Rattle.sn_local.specs.Timers.{timer_of, timers_after}
use Rattle.sn_plan.specs.Bound.{session_of}
use Rattle.sn_plan.specs.Drafts.{Drafted, moved}
use Rattle.sn_plan.specs.Flush.{IsFlush, session_with}
use Rattle.sn_local.specs.Locals.{Local, after_all}
use Rattle.sn_plan.specs.Numbering.{planned, plan_with, rest_of, numbered, changes_written, start_of, ack_of}
use Rattle.sn_plan.specs.Others.{is_up, can_wake}
use Rattle.sn_local.specs.Seen.{Seen, seen_of}
use Rattle.sn_plan.specs.Plans.{plan_of}
use Rattle.sn_local.proofs.Entries.{same_client-itself}
use Rattle.sn_plan.proofs.Lists.{and_then-some, map-some}
use Rattle.row_laws.proofs.Outcomes.{session-shown, others-shown}
use Rattle.sn_tick.specs.declared.due.Due.{Due}
use Rattle.sn_tick.specs.declared.due.Due.TheVariants.{Expiry, Loss, Retry, Delivery}
use Rattle.sn_exchange.specs.Exchanges.{left}
use Rattle.sn_publish.specs.Recipients.{qos_for, message_for, puts_among, is_another}
use Rattle.sn_tick.specs.Expiry.{has_expired, expire_all}
use Rattle.sn_tick.specs.Due.{due_session, due_with}
use Rattle.sn_tick.specs.Ticking.{will_puts, lost}
use Rattle.sn_exchange.specs.Following.{peer_at}
use Rattle.step_laws.specs.Laws.{due_after, due_draft}
use Rattle.step_laws.proofs.Behind.{plan-left, plan-others}
use Rattle.sn_tick.proofs.Calm.{first_of, either_none, none_some, and_false}
use Rattle.step_laws.proofs.Clients.{IsForNamed, plan-clients}
use Rattle.step_laws.proofs.Counting.{IsAmong, among-contains}
use Rattle.step_laws.proofs.Drafting.{filter_all, followed_by_puts, followed_by_handed}
use Rattle.step_laws.proofs.Expiring.{expired-acked, settled-all, rests-all, never-expiry}
use Rattle.step_laws.proofs.Locally.{IsClean, Anyone, IsAnother, delivery-kept, retry-kept}
use Rattle.step_laws.proofs.Lowering.{due_else, expires_of, IsDue, is-due, IsPast, is-past, else-same, past-same, weight_of, done-weighs, expired-weighs, is_up_in, weight_in, work, lost-lowers, done-lowers, view-behind, clients-behind}
use Rattle.step_laws.proofs.Pending.{pending-apart}
use Rattle.step_laws.proofs.Remaining.{left-none}
use Rattle.step_laws.proofs.Settling.{tick-settles}
use Rattle.step_laws.proofs.Timing.{AreKept, due-alike, still_told}

-- the local changes of a plan are those of its draft
plan-local : (g : ℕ) (c : List ℕ) (seen : Seen) (d : Drafted) (plan : Plan) → plan_of g c seen d ≡ Some plan → plan.local ≡ d.local
unfolding planned
plan-local g c seen d plan e =
    let m = and_then-some (rest_of g c (λ e. seen.seq e g) seen.clock d) (changes_written c g d.changes (start_of g (seen.of c) (seen.epoch c))) plan e in
    let n = map-some (plan_with d) (numbered g c (λ e. seen.seq e g) seen.clock d (m.0.ops ++ map (ack_of c) d.acks)) plan m.2 in
    ap (λ (p : Plan). p.local) (sym n.2)

-- ---- the messages of a will are for clients that the set names

module _ (S : List Op) (topic : List ℕ) (qos : ℕ) (body : List ℕ) where
  for_named : (c : List ℕ) (rest : List NewPut) (q : Option ℕ) → is_named c S ≡ true → AllByRecursion (IsForNamed S) rest
      → AllByRecursion (IsForNamed S) (cons_option (option_map (message_for topic body c) q) rest)
  for_named c rest None there all = all
  for_named c rest (Some q) there all = (there, all)

  among_named : (cs : List (List ℕ)) → AllByRecursion (λ c. is_named c S ≡ true) cs → AllByRecursion (IsForNamed S) (puts_among (seen_of S) cs topic qos body)
  among_named [] all = tt
  among_named (c ∷ rest) all = for_named c (puts_among (seen_of S) rest topic qos body) (qos_for topic qos (view c S)) all.0 (among_named rest all.1)

all_named : (S : List Op) → AllByRecursion (λ c. is_named c S ≡ true) (clients S)
all_named S = all-moved (λ c. is_named c S ≡ true) (clients S) (λ c h. (clients-named c S).1 h)

will_named : (S : List Op) (c : List ℕ) (will : Option Will) → AllByRecursion (IsForNamed S) (will_puts (seen_of S) c will)
will_named S c None = tt
will_named S c (Some will) =
    among_named S will.topic will.qos will.message (filter (is_another c) (clients S)) (filter_all (λ c. is_named c S ≡ true) (is_another c) (clients S) (all_named S))

-- ---- what a client weighs

less_is : (m n : ℕ) → m < n → m ≤ n
less_is m n h = omega arith

less_done : (due before past then_past : Bool) → due ≡ false → before ≡ true → weight_of due then_past < weight_of before past
less_done due before past then_past e f =
    subst (λ b. weight_of b then_past < weight_of before past) (sym e)
    (subst (λ b. weight_of false then_past < weight_of b past) (sym f) (done-weighs past then_past))

less_expired : (due before past then_past : Bool) → then_past ≡ false → past ≡ true → (due ≡ true → before ≡ true) → weight_of due then_past < weight_of before past
less_expired due before past then_past e f h =
    subst (λ b. weight_of due b < weight_of before past) (sym e)
    (subst (λ b. weight_of due false < weight_of before b) (sym f) (expired-weighs due before h))

-- a reason that is there
some_reason : (o : Option Due) → is_some o ≡ true → (reason : Due) × (o ≡ Some reason)
some_reason None e = absurd (true≢false (sym e))
some_reason (Some reason) e = (reason, refl)

-- ---- sessions after a plan

changed_session : (s : Session) (changes : List SessionOp) → session_with (Some s) changes ≡ Some (fold applied s changes)
changed_session s [] = refl
changed_session s (change ∷ rest) = refl

by_client : (P : List ℕ → Type 0) (x c : List ℕ) → (x ≡ c → P x) → (¬ (x ≡ c) → P x) → P x
by_client P x c h k =
    elim (same_client x c) as (λ b. same_client x c ≡ b → P x) [
      | true ↦ λ e. h (same_client-true x c e)
      | false ↦ λ e. k (λ is. true≢false (sym (same_client-itself c) ∙ ap (λ y. same_client y c) (sym is) ∙ e))
    ] refl

module _ (g advertise : ℕ) (field : List Addr) (now : ℕ) (c : List ℕ) (S : List Op) (local : Local) (e : Drafted) (plan : Plan) (delta : List Op)
    (is_planned : plan_of g c (seen_of S) e ≡ Some plan) (same : Same delta plan.ops) where
  abbrev behind : List Op
  behind = S ++ delta

  stamp_stays : (x : List ℕ) → ¬ (x ≡ c) → (view x behind).stamp ≡ (view x S).stamp
  stamp_stays x h = ap (λ (v : ClientView). v.stamp) (view-behind S plan.ops delta same x) ∙ (others-shown g c S e plan is_planned x h).0

  session_stays : (x : List ℕ) → ¬ (x ≡ c) → (view x behind).session ≡ (view x S).session
  session_stays x h = ap (λ (v : ClientView). v.session) (view-behind S plan.ops delta same x) ∙ (others-shown g c S e plan is_planned x h).2

  session_made : IsFlush g c S → (s : Session) → (view c S).session ≡ Some s → (view c behind).session ≡ Some (fold applied s e.changes)
  session_made flush s is =
      ap (λ (v : ClientView). v.session) (view-behind S plan.ops delta same c)
      ∙ session-shown g c S e plan is_planned flush
      ∙ ap (λ o. session_with o e.changes) is
      ∙ changed_session s e.changes

  -- no client comes up
  none_up : is_up_in g advertise field now S c ≡ true → (x : List ℕ) → is_up_in g advertise field now behind x ≡ true → is_up_in g advertise field now S x ≡ true
  none_up was x h =
      by_client (λ x. is_up_in g advertise field now behind x ≡ true → is_up_in g advertise field now S x ≡ true) x c
      (λ is _. ap (is_up_in g advertise field now S) is ∙ was)
      (λ other up. sym (ap can_wake (session_stays x other)) ∙ up) h

  clients_same : IsAmong c (clients S) → AllByRecursion (IsForNamed S) e.puts → clients behind ≡ clients S
  clients_same among all =
      clients-behind S plan.ops delta same
      ∙ plan-clients g c S (seen_of S) e plan is_planned ((clients-named c S).1 (among-contains c (clients S) among)) all

  was_up : (s : Session) → (view c S).session ≡ Some s → is_up s.presence ≡ true → is_up_in g advertise field now S c ≡ true
  was_up s is up = ap can_wake is ∙ up

  -- where nothing is handed and without messages: what waits for others
  pending_stays : e.handed ≡ [] → e.puts ≡ [] → (x : List ℕ) → ¬ (x ≡ c) → (view x behind).pending ≡ (view x S).pending
  pending_stays bare none x h = ap (λ (v : ClientView). v.pending) (view-behind S plan.ops delta same x) ∙ plan-others g c S e plan is_planned bare none x h

  pending_made : e.handed ≡ [] → e.puts ≡ [] → (view c behind).pending ≡ left e.acks (view c S).pending
  pending_made bare none = ap (λ (v : ClientView). v.pending) (view-behind S plan.ops delta same c) ∙ plan-left g c S e plan is_planned bare none

  -- what is left to do with another client is what it was
  others_weigh : e.handed ≡ [] → e.puts ≡ [] → AreKept now local (IsAnother c) e.local → (y : List ℕ) → ¬ (y ≡ c)
      → weight_in g advertise field now behind (after_all local e.local) y ≡ weight_in g advertise field now S local y
  others_weigh bare none kept y other =
      λ i. weight_of
      (is_some (else-same g now y (view y S) (view y behind) local (after_all local e.local) (stamp_stays y other) (pending_stays bare none y other) (session_stays y other) kept.bindings (kept.timers y other) i))
      (past-same g now y (view y S) (view y behind) local (after_all local e.local) (stamp_stays y other) (pending_stays bare none y other) (session_stays y other) kept.bindings i)

  -- so where less is left to do with the client, no more is with any
  none_more : e.handed ≡ [] → e.puts ≡ [] → AreKept now local (IsAnother c) e.local
      → weight_in g advertise field now behind (after_all local e.local) c < weight_in g advertise field now S local c
      → (y : List ℕ) → weight_in g advertise field now behind (after_all local e.local) y ≤ weight_in g advertise field now S local y
  none_more bare none kept less y =
      by_client (λ x. weight_in g advertise field now behind (after_all local e.local) x ≤ weight_in g advertise field now S local x) y c
      (λ is. subst (λ x. weight_in g advertise field now behind (after_all local e.local) x ≤ weight_in g advertise field now S local x) (sym is)
      (less_is (weight_in g advertise field now behind (after_all local e.local) c) (weight_in g advertise field now S local c) less))
      (λ other. le_of_eq (others_weigh bare none kept y other))

  -- something is done with the client, and with no other
  done_with : IsFlush g c S → IsAmong c (clients S) → (reason : Due) → IsDue g now local c (view c S) reason → e.handed ≡ [] → e.puts ≡ [] → AreKept now local (IsAnother c) e.local
      → ((b : Option Addr) → due_after now c (session_of (seen_of S) c) (view c S).pending local.timers b e ≡ None)
      → work g advertise field now behind (after_all local e.local) < work g advertise field now S local
  done_with flush among reason due bare none kept settled =
      let M : Local = after_all local e.local in
      let x : Session = due.session in
      let rest : due_session now (view c behind).pending (timer_of c M.timers) (address_of c M.bindings) (view c behind).session ≡ None =
      (λ i. due_session now (pending_made bare none i) (timer_of c M.timers) (address_of c M.bindings) (session_made flush x due.is i))
      ∙ ap (λ (o : Option Session). due_session now (left e.acks (view c S).pending) (timer_of c M.timers) (address_of c M.bindings) (Some (fold applied (unwrap_or o empty_session) e.changes))) (sym due.is)
      ∙ settled (address_of c M.bindings) in
      let was : due_else g local now c (view c S) ≡ Some reason =
      ap (λ b. if b then due_session now (view c S).pending (timer_of c local.timers) (address_of c local.bindings) (view c S).session else None) due.owned
      ∙ ap (due_session now (view c S).pending (timer_of c local.timers) (address_of c local.bindings)) due.is ∙ due.due in
      let gone : due_else g M now c (view c behind) ≡ None =
      either_none (is_stamp_of g (view c behind).stamp) (due_session now (view c behind).pending (timer_of c M.timers) (address_of c M.bindings) (view c behind).session) rest in
      let less : weight_in g advertise field now behind M c < weight_in g advertise field now S local c =
      less_done (is_some (due_else g M now c (view c behind))) (is_some (due_else g local now c (view c S))) (expires_of g local now c (view c S)) (expires_of g M now c (view c behind))
      (ap is_some gone) (ap is_some was) in
      done-lowers g advertise field now S behind local M (clients_same among (subst (AllByRecursion (IsForNamed S)) (sym none) tt)) (none_up (was_up x due.is due.up))
      c among (none_more bare none kept less) less kept.advertised

  -- messages of the client expire, and nothing else is done
  session_kept : IsFlush g c S → e.changes ≡ [] → (view c behind).session ≡ (view c S).session
  session_kept flush unchanged =
      ap (λ (v : ClientView). v.session) (view-behind S plan.ops delta same c)
      ∙ session-shown g c S e plan is_planned flush
      ∙ ap (session_with (view c S).session) unchanged

  none_up_yet : IsFlush g c S → e.changes ≡ [] → (x : List ℕ) → is_up_in g advertise field now behind x ≡ true → is_up_in g advertise field now S x ≡ true
  none_up_yet flush unchanged x h =
      by_client (λ x. is_up_in g advertise field now behind x ≡ true → is_up_in g advertise field now S x ≡ true) x c
      (λ is up. ap (is_up_in g advertise field now S) is ∙ sym (ap can_wake (session_kept flush unchanged)) ∙ sym (ap (is_up_in g advertise field now behind) is) ∙ up)
      (λ other up. sym (ap can_wake (session_stays x other)) ∙ up) h

  -- what is due with it by its session then was due before
  due_before : IsFlush g c S → IsPast g now local c (view c S) → e.changes ≡ [] → e.handed ≡ [] → e.puts ≡ [] → AreKept now local Anyone e.local
      → ((reason : Due) → due_session now (left e.acks (view c S).pending) (timer_of c local.timers) (address_of c local.bindings) (view c S).session ≡ Some reason
      → due_session now (view c S).pending (timer_of c local.timers) (address_of c local.bindings) (view c S).session ≡ Some reason)
      → is_some (due_else g (after_all local e.local) now c (view c behind)) ≡ true → is_some (due_else g local now c (view c S)) ≡ true
  due_before flush past unchanged bare none kept rests is =
      let M : Local = after_all local e.local in
      let found = some_reason (due_else g M now c (view c behind)) is in
      let then_due : due_session now (view c behind).pending (timer_of c M.timers) (address_of c M.bindings) (view c behind).session ≡ Some found.0 =
      (first_of (is_stamp_of g (view c behind).stamp) (due_session now (view c behind).pending (timer_of c M.timers) (address_of c M.bindings) (view c behind).session) None (Some found.0) (none_some found.0) found.1).1 in
      let moved_on : due_session now (view c behind).pending (timer_of c M.timers) (address_of c M.bindings) (view c behind).session
      ≡ due_session now (left e.acks (view c S).pending) (timer_of c local.timers) (address_of c local.bindings) (view c S).session =
      (λ i. due_session now (pending_made bare none i) (timer_of c M.timers) (address_of c (kept.bindings i)) (session_kept flush unchanged i))
      ∙ due-alike now (left e.acks (view c S).pending) (timer_of c local.timers) (timer_of c M.timers) (address_of c local.bindings) (view c S).session (kept.timers c tt) in
      ap (λ b. is_some (if b then due_session now (view c S).pending (timer_of c local.timers) (address_of c local.bindings) (view c S).session else None)) past.owned
      ∙ ap is_some (rests found.0 (sym moved_on ∙ then_due))

  expired_with : IsFlush g c S → IsAmong c (clients S) → IsPast g now local c (view c S) → e.changes ≡ [] → e.handed ≡ [] → e.puts ≡ [] → AreKept now local Anyone e.local
      → has_expired now (left e.acks (view c S).pending) (address_of c local.bindings) (view c S).session ≡ false
      → ((reason : Due) → due_session now (left e.acks (view c S).pending) (timer_of c local.timers) (address_of c local.bindings) (view c S).session ≡ Some reason
      → due_session now (view c S).pending (timer_of c local.timers) (address_of c local.bindings) (view c S).session ≡ Some reason)
      → work g advertise field now behind (after_all local e.local) < work g advertise field now S local
  expired_with flush among past unchanged bare none kept settled rests =
      let M : Local = after_all local e.local in
      let others : AreKept now local (IsAnother c) e.local = record { bindings = kept.bindings; advertised = kept.advertised; timers = λ x is. kept.timers x tt } in
      let gone : expires_of g M now c (view c behind) ≡ false =
      (λ i. is_stamp_of g (view c behind).stamp && has_expired now (pending_made bare none i) (address_of c (kept.bindings i)) (session_kept flush unchanged i))
      ∙ ap (λ b. is_stamp_of g (view c behind).stamp && b) settled ∙ and_false (is_stamp_of g (view c behind).stamp) in
      let was : expires_of g local now c (view c S) ≡ true =
      and_from (is_stamp_of g (view c S).stamp) (has_expired now (view c S).pending (address_of c local.bindings) (view c S).session) past.owned past.past in
      let less : weight_in g advertise field now behind M c < weight_in g advertise field now S local c =
      less_expired (is_some (due_else g M now c (view c behind))) (is_some (due_else g local now c (view c S))) (expires_of g local now c (view c S)) (expires_of g M now c (view c behind))
      gone was (due_before flush past unchanged bare none kept rests) in
      done-lowers g advertise field now S behind local M (clients_same among (subst (AllByRecursion (IsForNamed S)) (sym none) tt)) (none_up_yet flush unchanged)
      c among (none_more bare none others less) less kept.advertised

  -- the client is lost
  lost_with : IsFlush g c S → IsAmong c (clients S) → (s : Session) (duration : ℕ) → (view c S).session ≡ Some s → is_up s.presence ≡ true
      → e.changes ≡ Presence Lost duration ∷ [] → AllByRecursion (IsForNamed S) e.puts → (after_all local e.local).advertised ≡ local.advertised
      → work g advertise field now behind (after_all local e.local) < work g advertise field now S local
  lost_with flush among s duration is up changes all told =
      lost-lowers g advertise field now S behind local (after_all local e.local) (clients_same among all) (none_up (was_up s is up)) c among (was_up s is up)
      (ap can_wake (session_made flush s is) ∙ ap (λ (xs : List SessionOp). can_wake (Some (fold applied s xs))) changes)
      told

-- ---- what a tick does with a client

module _ (g advertise : ℕ) (field : List Addr) (predefined : Entries) (now : ℕ) (S : List Op) (local : Local) (d : Drafted) (clean : IsClean now local d)
    (c : List ℕ) (among : IsAmong c (clients S)) (flush : IsFlush g c S) where
  -- what was due is due after what a tick does first
  due_yet : (reason : Due) → (due : IsDue g now local c (view c S) reason)
      → due_after now c (session_of (seen_of S) c) (view c S).pending local.timers (address_of c local.bindings) d ≡ Some reason
  due_yet reason due =
      let waiting = (view c S).pending in
      let a : Option Addr = address_of c local.bindings in
      let timer : Option Timer = timer_of c (timers_after local.timers d.local) in
      (λ i. due_session now (left (clean.acks i) waiting) timer a (Some (fold applied (unwrap_or (due.is i) empty_session) (clean.changes i))))
      ∙ ap (λ (xs : List Put). due_session now xs timer a (Some due.session)) (left-none waiting)
      ∙ due-alike now waiting (timer_of c local.timers) timer a (Some due.session) (clean.kept.timers c tt)
      ∙ due.due

  settled : (reason : Due) → IsDue g now local c (view c S) reason → (b : Option Addr)
      → due_after now c (session_of (seen_of S) c) (view c S).pending local.timers b (due_draft predefined (seen_of S) now c d reason) ≡ None
  settled reason due b =
      tick-settles predefined (seen_of S) now c local.timers (address_of c local.bindings) b d reason (pending-apart c S) clean.changes clean.acks (due_yet reason due)

  retry_puts : (a : Addr) → (due_draft predefined (seen_of S) now c d (Retry a)).puts ≡ []
  retry_puts a =
      followed_by_puts predefined (peer_at a c now) (session_of (seen_of S) c) (view c S).pending (moved (Retried c now) d) follows.Resend ∙ clean.puts

  retry_handed : (a : Addr) → (due_draft predefined (seen_of S) now c d (Retry a)).handed ≡ []
  retry_handed a =
      followed_by_handed predefined (peer_at a c now) (session_of (seen_of S) c) (view c S).pending (moved (Retried c now) d) follows.Resend ∙ clean.handed

  delivery_puts : (a : Addr) → (due_draft predefined (seen_of S) now c d (Delivery a)).puts ≡ []
  delivery_puts a = followed_by_puts predefined (peer_at a c now) (session_of (seen_of S) c) (view c S).pending d follows.Delivery ∙ clean.puts

  delivery_handed : (a : Addr) → (due_draft predefined (seen_of S) now c d (Delivery a)).handed ≡ []
  delivery_handed a = followed_by_handed predefined (peer_at a c now) (session_of (seen_of S) c) (view c S).pending d follows.Delivery ∙ clean.handed

  lowered : (plan : Plan) (delta : List Op) → Same delta plan.ops → (reason : Due) → IsDue g now local c (view c S) reason
      → plan_of g c (seen_of S) (due_draft predefined (seen_of S) now c d reason) ≡ Some plan
      → work g advertise field now (S ++ delta) (after_all local (due_draft predefined (seen_of S) now c d reason).local) < work g advertise field now S local
  lowered plan delta same Expiry due e =
      absurd (never-expiry now (view c S).pending (timer_of c local.timers) (address_of c local.bindings) (Some due.session) due.due)
  lowered plan delta same Loss due e =
      let s : Session = session_of (seen_of S) c in
      lost_with g advertise field now c S local (lost (seen_of S) c s d) plan delta e same flush among due.session s.duration due.is due.up
      (ap (λ (xs : List SessionOp). xs ++ Presence Lost s.duration ∷ []) clean.changes)
      (subst (λ (puts : List NewPut). AllByRecursion (IsForNamed S) (puts ++ will_puts (seen_of S) c s.will)) (sym clean.puts) (will_named S c s.will))
      (still_told local.advertised d.local (Unbind c) (λ o. refl) clean.kept.advertised)
  lowered plan delta same (Retry a) due e =
      done_with g advertise field now c S local (due_draft predefined (seen_of S) now c d (Retry a)) plan delta e same flush among (Retry a) due (retry_handed a) (retry_puts a)
      (retry-kept predefined (seen_of S) a now c local d clean.kept) (settled (Retry a) due)
  lowered plan delta same (Delivery a) due e =
      done_with g advertise field now c S local (due_draft predefined (seen_of S) now c d (Delivery a)) plan delta e same flush among (Delivery a) due (delivery_handed a) (delivery_puts a)
      (delivery-kept predefined (seen_of S) a now c local d clean.kept) (settled (Delivery a) due)

  -- so a tick that does what is due with the client leaves less to do
  pub due-lowers : (plan : Plan) (delta : List Op) → Same delta plan.ops → (reason : Due) → ¬ (Some Expiry ≡ Some reason) → due_with g (seen_of S) local now c ≡ Some reason
      → plan_of g c (seen_of S) (due_draft predefined (seen_of S) now c d reason) ≡ Some plan
      → work g advertise field now (S ++ delta) (after_all local plan.local) < work g advertise field now S local
  due-lowers plan delta same reason other due e =
      subst (λ (changes : List LocalChange). work g advertise field now (S ++ delta) (after_all local changes) < work g advertise field now S local)
      (sym (plan-local g c (seen_of S) (due_draft predefined (seen_of S) now c d reason) plan e))
      (lowered plan delta same reason (is-due g now local c (view c S) reason other due) e)

  -- and so does one by which messages of the client expire
  pub expired-lowers : (plan : Plan) (delta : List Op) → Same delta plan.ops → due_with g (seen_of S) local now c ≡ Some Expiry
      → plan_of g c (seen_of S) (expire_all (seen_of S) local now c d) ≡ Some plan
      → work g advertise field now (S ++ delta) (after_all local plan.local) < work g advertise field now S local
  expired-lowers plan delta same due e =
      let is = expired-acked (seen_of S) local now c d in
      subst (λ (changes : List LocalChange). work g advertise field now (S ++ delta) (after_all local changes) < work g advertise field now S local)
      (sym (plan-local g c (seen_of S) (expire_all (seen_of S) local now c d) plan e))
      (expired_with g advertise field now c S local (expire_all (seen_of S) local now c d) plan delta e same flush among (is-past g now local c (view c S) due)
      (ap (λ (x : Drafted). x.changes) is ∙ clean.changes) (ap (λ (x : Drafted). x.handed) is ∙ clean.handed) (ap (λ (x : Drafted). x.puts) is ∙ clean.puts)
      (subst (AreKept now local Anyone) (sym (ap (λ (x : Drafted). x.local) is)) clean.kept)
      (settled-all (seen_of S) local now c d clean.acks)
      (λ reason. rests-all (seen_of S) local now c d (timer_of c local.timers) reason clean.acks))
