-- How much a gateway has left to do at a moment, and what makes it less.
use Rattle.std.proofs.Common.{◌≡◌, ℕ, ◌+◌, ◌*◌, ◌<◌, ◌≤◌, Bool, true, false, ◌&&◌, if◌then◌else◌, is_some, List, [], ◌∷◌, ◌++◌, length, Option, Some, None, IfSome, refl, sym, ap, ◌∙◌, subst, true≢false, inl, inr, arith, le_of_eq}
use Rattle.std.proofs.lemmas.Bool.{and_parts}
use Rattle.sn_session.specs.declared.presence.Presence.{Presence}
use Rattle.sn_session.specs.declared.presence.Presence.TheVariants.{Active, Asleep, Awake, Disconnected, Lost}
use Rattle.sn_session.specs.declared.session.Session.{Session}
use Rattle.rep_op.specs.declared.op.Put.{Put}
use Rattle.rep_op.specs.declared.op.Op.{Op}
use Rattle.rep_op.specs.Sets.{Same}
use Rattle.rep_model.specs.declared.view.ClientView.{ClientView}
use Rattle.rep_model.specs.Views.{view, clients}
use Rattle.rep_model.proofs.Thin.{thin-same, view-thin}
use Rattle.rep_model.proofs.Named.{clients-thin}
use Rattle.sn_local.specs.declared.config.Addr.{Addr}
use Rattle.sn_local.specs.declared.local.Timer.{Timer}
use Rattle.sn_local.specs.Bindings.{is_stamp_of, address_of}
use Rattle.sn_local.specs.Timers.{timer_of}
use Rattle.sn_local.specs.Locals.{Local}
use Rattle.sn_plan.specs.Others.{is_up, can_wake}
use Rattle.sn_local.specs.Seen.{Seen}
use Rattle.row_laws.proofs.Known.{same-behind}
use Rattle.sn_tick.specs.declared.due.Due.{Due}
use Rattle.sn_tick.specs.declared.due.Due.TheVariants.{Expiry, Loss}
use Rattle.sn_exchange.specs.Exchanges.{open_exchange, is_served}
use Rattle.sn_tick.specs.Expiry.{has_expired}
use Rattle.sn_tick.specs.Due.{is_silent, is_overdue, due_by, due_at, due_session, expiry_or_due, due_view, due_with, or_later, first_due}
use Rattle.sn_tick.specs.Ticking.{may_advertise}
use Rattle.sn_tick.proofs.Calm.{first_of, second_of, none_some}
use Rattle.step_laws.proofs.Expiring.{never-expiry}
use Rattle.step_laws.proofs.Counting.{count, IsAmong, count-most, count-fewer, count-whole, weigh, weigh-most, weigh-less, weigh-whole, less_up, less_due, less_time, no_more, all_left_to_do, below_three}
use Rattle.step_laws.proofs.Timing.{Alike, due-alike}

-- ---- with which clients something is due

served_up : (p : Presence) → is_served p ≡ true → is_up p ≡ true
served_up Active e = refl
served_up Asleep e = absurd (true≢false (sym e))
served_up Awake e = refl
served_up Disconnected e = e
served_up Lost e = e

module _ (now : ℕ) (s : Session) (pending : List Put) (reason : Due) where
  overdue_up : (o : Option Timer) → is_overdue now s o ≡ true → is_up s.presence ≡ true
  overdue_up None e = absurd (true≢false (sym e))
  overdue_up (Some t) e = (and_parts (is_up s.presence) (is_silent now s t) e).0

  at_up : (o : Option Timer) (a : Option Addr) → due_at now s pending o a ≡ Some reason → is_up s.presence ≡ true
  at_up o None e = absurd (none_some reason e)
  at_up o (Some a) e =
      served_up s.presence (first_of (is_served s.presence) (due_by now s pending a o (open_exchange s [] pending)) None (Some reason) (none_some reason) e).0

  -- by its session something is due only with a client that is Active, Asleep or Awake
  due_up : (o : Option Timer) (a : Option Addr) → due_session now pending o a (Some s) ≡ Some reason → is_up s.presence ≡ true
  due_up o a e =
      elim (is_overdue now s o) as (λ b. is_overdue now s o ≡ b → (if b then Some Loss else due_at now s pending o a) ≡ Some reason → is_up s.presence ≡ true) [
        | true ↦ λ is _. overdue_up o is
        | false ↦ λ _ is. at_up o a is
      ] refl e

-- what is due with a client by its session, if the gateway owns it
abbrev pub due_else : ℕ → Local → ℕ → List ℕ → ClientView → Option Due
due_else g local now c v =
    if is_stamp_of g v.stamp then due_session now v.pending (timer_of c local.timers) (address_of c local.bindings) v.session else None

-- something of a client expires, and the gateway owns it
abbrev pub expires_of : ℕ → Local → ℕ → List ℕ → ClientView → Bool
expires_of g local now c v = is_stamp_of g v.stamp && has_expired now v.pending (address_of c local.bindings) v.session

-- what is known of a client with which something is due by its session
pub record IsDue (g : ℕ) (now : ℕ) (local : Local) (c : List ℕ) (v : ClientView) (reason : Due) : Type 0 where
  pub owned : is_stamp_of g v.stamp ≡ true
  pub session : Session
  pub is : v.session ≡ Some session
  pub up : is_up session.presence ≡ true
  pub due : due_session now v.pending (timer_of c local.timers) (address_of c local.bindings) (Some session) ≡ Some reason

session_due : (g now : ℕ) (local : Local) (c : List ℕ) (v : ClientView) (reason : Due) (session : Option Session) → is_stamp_of g v.stamp ≡ true → v.session ≡ session
    → due_session now v.pending (timer_of c local.timers) (address_of c local.bindings) session ≡ Some reason → IsDue g now local c v reason
session_due g now local c v reason None owned is due = absurd (none_some reason due)
session_due g now local c v reason (Some s) owned is due = record {
  owned = owned;
  session = s;
  is = is;
  up = due_up now s v.pending reason (timer_of c local.timers) (address_of c local.bindings) due;
  due = due;
}

pub is-due : (g now : ℕ) (local : Local) (c : List ℕ) (v : ClientView) (reason : Due) → ¬ (Some Expiry ≡ Some reason) → due_view g local now c v ≡ Some reason → IsDue g now local c v reason
is-due g now local c v reason other e =
    let found = first_of (is_stamp_of g v.stamp) (expiry_or_due now v.pending (timer_of c local.timers) (address_of c local.bindings) v.session) None (Some reason) (none_some reason) e in
    let later = second_of (has_expired now v.pending (address_of c local.bindings) v.session) (Some Expiry) (due_session now v.pending (timer_of c local.timers) (address_of c local.bindings) v.session) (Some reason) other found.1 in
    session_due g now local c v reason v.session found.0 refl later.1

-- what is known of a client of which something expires
pub record IsPast (g : ℕ) (now : ℕ) (local : Local) (c : List ℕ) (v : ClientView) : Type 0 where
  pub owned : is_stamp_of g v.stamp ≡ true
  pub past : has_expired now v.pending (address_of c local.bindings) v.session ≡ true

past_of : (past : Bool) (o : Option Due) → ¬ (o ≡ Some Expiry) → (if past then Some Expiry else o) ≡ Some Expiry → past ≡ true
past_of true o never e = refl
past_of false o never e = absurd (never e)

pub is-past : (g now : ℕ) (local : Local) (c : List ℕ) (v : ClientView) → due_view g local now c v ≡ Some Expiry → IsPast g now local c v
is-past g now local c v e =
    let found = first_of (is_stamp_of g v.stamp) (expiry_or_due now v.pending (timer_of c local.timers) (address_of c local.bindings) v.session) None (Some Expiry) (none_some Expiry) e in
    record {
      owned = found.0;
      past = past_of (has_expired now v.pending (address_of c local.bindings) v.session) (due_session now v.pending (timer_of c local.timers) (address_of c local.bindings) v.session)
          (never-expiry now v.pending (timer_of c local.timers) (address_of c local.bindings) v.session) found.1;
    }

-- views and local states that are alike for a client: the same is due
pub due-same : (g now : ℕ) (c : List ℕ) (v w : ClientView) (local after : Local) → w.stamp ≡ v.stamp → w.pending ≡ v.pending → w.session ≡ v.session
    → after.bindings ≡ local.bindings → Alike now (timer_of c local.timers) (timer_of c after.timers)
    → due_view g after now c w ≡ due_view g local now c v
due-same g now c v w local after stamp pending session bindings alike =
    (λ i. if is_stamp_of g (stamp i) then expiry_or_due now (pending i) (timer_of c after.timers) (address_of c (bindings i)) (session i) else None)
    ∙ ap (λ (o : Option Due). if is_stamp_of g v.stamp then (if has_expired now v.pending (address_of c local.bindings) v.session then Some Expiry else o) else None)
    (due-alike now v.pending (timer_of c local.timers) (timer_of c after.timers) (address_of c local.bindings) v.session alike)

-- and so by the session alone
pub else-same : (g now : ℕ) (c : List ℕ) (v w : ClientView) (local after : Local) → w.stamp ≡ v.stamp → w.pending ≡ v.pending → w.session ≡ v.session
    → after.bindings ≡ local.bindings → Alike now (timer_of c local.timers) (timer_of c after.timers)
    → due_else g after now c w ≡ due_else g local now c v
else-same g now c v w local after stamp pending session bindings alike =
    (λ i. if is_stamp_of g (stamp i) then due_session now (pending i) (timer_of c after.timers) (address_of c (bindings i)) (session i) else None)
    ∙ ap (λ (o : Option Due). if is_stamp_of g v.stamp then o else None)
    (due-alike now v.pending (timer_of c local.timers) (timer_of c after.timers) (address_of c local.bindings) v.session alike)

-- and the same expires
pub past-same : (g now : ℕ) (c : List ℕ) (v w : ClientView) (local after : Local) → w.stamp ≡ v.stamp → w.pending ≡ v.pending → w.session ≡ v.session
    → after.bindings ≡ local.bindings → expires_of g after now c w ≡ expires_of g local now c v
past-same g now c v w local after stamp pending session bindings =
    λ i. is_stamp_of g (stamp i) && has_expired now (pending i) (address_of c (bindings i)) (session i)

module _ (g : ℕ) (seen : Seen) (local : Local) (now : ℕ) where
  abbrev IsFound : List (List ℕ) → List ℕ × Due → Type 0
  IsFound cs found = IsAmong found.0 cs × (due_with g seen local now found.0 ≡ Some found.1)

  found_later : (c : List ℕ) (cs : List (List ℕ)) (o : Option (List ℕ × Due)) → IfSome o (IsFound cs) → IfSome o (IsFound (c ∷ cs))
  found_later c cs None h = tt
  found_later c cs (Some found) h = (inr h.0, h.1)

  -- the first client that is due is among the clients, and due
  pub first-found : (cs : List (List ℕ)) → IfSome (first_due g seen local now cs) (IsFound cs)
  first-found [] = tt
  first-found (c ∷ rest) =
      elim (due_with g seen local now c) as (λ o. due_with g seen local now c ≡ o → IfSome (or_later (first_due g seen local now rest) c o) (IsFound (c ∷ rest))) [
        | None ↦ λ _. found_later c rest (first_due g seen local now rest) (first-found rest)
        | Some reason ↦ λ e. (inl refl, e)
      ] refl

pub first-same : (g now : ℕ) (seen then_seen : Seen) (local after : Local) → ((c : List ℕ) → due_with g then_seen after now c ≡ due_with g seen local now c)
    → (cs : List (List ℕ)) → first_due g then_seen after now cs ≡ first_due g seen local now cs
first-same g now seen then_seen local after same [] = refl
first-same g now seen then_seen local after same (c ∷ rest) =
    λ i. or_later (first-same g now seen then_seen local after same rest i) c (same c i)

-- ---- what is left to do

fewer_times : (a b : Bool) → a ≡ true → b ≡ false → (if b then 1 else 0) < (if a then 1 else 0)
fewer_times true true e f = absurd (true≢false f)
fewer_times true false e f = omega arith
fewer_times false b e f = absurd (true≢false (sym e))

-- what a client weighs: two if something is due with it by its session, and one if something of it expires
abbrev pub weight_of : Bool → Bool → ℕ
weight_of due past = (if due then 2 else 0) + (if past then 1 else 0)

pub three-at-most : (due past : Bool) → weight_of due past ≤ 3
three-at-most true true = omega arith
three-at-most true false = omega arith
three-at-most false true = omega arith
three-at-most false false = omega arith

-- what was due by the session is not due any more, whatever expires then
pub done-weighs : (before past : Bool) → weight_of false past < weight_of true before
done-weighs true true = omega arith
done-weighs true false = omega arith
done-weighs false true = omega arith
done-weighs false false = omega arith

-- what expired does not any more, and nothing else is due but what was
pub expired-weighs : (due before : Bool) → (due ≡ true → before ≡ true) → weight_of due false < weight_of before true
expired-weighs true true h = omega arith
expired-weighs true false h = absurd (true≢false (sym (h refl)))
expired-weighs false true h = omega arith
expired-weighs false false h = omega arith

pub weighs-due : (due past : Bool) → due ≡ true → 0 < weight_of due past
weighs-due true true e = omega arith
weighs-due true false e = omega arith
weighs-due false past e = absurd (true≢false (sym e))

pub weighs-past : (due past : Bool) → past ≡ true → 0 < weight_of due past
weighs-past true true e = omega arith
weighs-past false true e = omega arith
weighs-past due false e = absurd (true≢false (sym e))

module _ (g advertise : ℕ) (field : List Addr) (now : ℕ) where
  abbrev pub is_up_in : List Op → List ℕ → Bool
  is_up_in S c = can_wake (view c S).session

  -- what is left to do with a client at this moment
  abbrev pub weight_in : List Op → Local → List ℕ → ℕ
  weight_in S local c = weight_of (is_some (due_else g local now c (view c S))) (expires_of g local now c (view c S))

  abbrev pub times : Local → ℕ
  times local = if may_advertise advertise field now local.advertised then 1 else 0

  abbrev pub work_over : List (List ℕ) → List Op → Local → ℕ
  work_over cs S local = count (is_up_in S) cs * (3 * (length cs + 1)) + weigh (weight_in S local) cs + times local

  -- each client can still be lost, and make something due with every other; with some of them something is due; and it may be time
  -- for ADVERTISE
  abbrev pub work : List Op → Local → ℕ
  work S local = work_over (clients S) S local

  one_at_most : (b : Bool) → (if b then 1 else 0) ≤ 1
  one_at_most true = omega arith
  one_at_most false = omega arith

  few_weigh : (S : List Op) (local : Local) (cs : List (List ℕ)) → weigh (weight_in S local) cs ≤ 3 * length cs
  few_weigh S local cs =
      weigh-whole (weight_in S local) (λ c. three-at-most (is_some (due_else g local now c (view c S))) (expires_of g local now c (view c S))) cs

  pub work-whole : (S : List Op) (local : Local) → work S local ≤ 3 * ((length (clients S) + 1) * (length (clients S) + 1))
  work-whole S local =
      all_left_to_do (length (clients S)) (count (is_up_in S) (clients S)) (weigh (weight_in S local) (clients S)) (times local)
      (count-whole (is_up_in S) (clients S)) (few_weigh S local (clients S)) (one_at_most (may_advertise advertise field now local.advertised))

  module _ (S after : List Op) (local then_local : Local) (same : clients after ≡ clients S) (up : (x : List ℕ) → is_up_in after x ≡ true → is_up_in S x ≡ true) where
    over : work after then_local ≡ work_over (clients S) after then_local
    over = ap (λ cs. work_over cs after then_local) same

    times_same : then_local.advertised ≡ local.advertised → times then_local ≤ times local
    times_same e = le_of_eq (ap (λ last. if may_advertise advertise field now last then 1 else 0) e)

    -- a client was up and is not any more
    pub lost-lowers : (c : List ℕ) → IsAmong c (clients S) → is_up_in S c ≡ true → is_up_in after c ≡ false → then_local.advertised ≡ local.advertised
        → work after then_local < work S local
    lost-lowers c among was is told =
        subst (λ n. n < work S local) (sym over)
        (less_up (3 * (length (clients S) + 1)) (count (is_up_in S) (clients S)) (count (is_up_in after) (clients S)) (weigh (weight_in S local) (clients S)) (weigh (weight_in after then_local) (clients S))
        (times local) (times then_local)
        (count-fewer (is_up_in S) (is_up_in after) up c was is (clients S) among)
        (below_three (length (clients S)) (weigh (weight_in after then_local) (clients S)) (few_weigh after then_local (clients S))) (times_same told))

    -- less is left to do with a client, and no more with any
    pub done-lowers : (c : List ℕ) → IsAmong c (clients S) → ((x : List ℕ) → weight_in after then_local x ≤ weight_in S local x)
        → weight_in after then_local c < weight_in S local c → then_local.advertised ≡ local.advertised
        → work after then_local < work S local
    done-lowers c among due less told =
        subst (λ n. n < work S local) (sym over)
        (less_due (3 * (length (clients S) + 1)) (count (is_up_in S) (clients S)) (count (is_up_in after) (clients S)) (weigh (weight_in S local) (clients S)) (weigh (weight_in after then_local) (clients S))
        (times local) (times then_local)
        (count-most (is_up_in S) (is_up_in after) up (clients S)) (weigh-less (weight_in S local) (weight_in after then_local) due c less (clients S) among) (times_same told))

    -- it was time for ADVERTISE and is not any more
    pub told-lowers : ((x : List ℕ) → weight_in after then_local x ≤ weight_in S local x)
        → may_advertise advertise field now local.advertised ≡ true → may_advertise advertise field now then_local.advertised ≡ false
        → work after then_local < work S local
    told-lowers due was is =
        subst (λ n. n < work S local) (sym over)
        (less_time (3 * (length (clients S) + 1)) (count (is_up_in S) (clients S)) (count (is_up_in after) (clients S)) (weigh (weight_in S local) (clients S)) (weigh (weight_in after then_local) (clients S))
        (times local) (times then_local)
        (count-most (is_up_in S) (is_up_in after) up (clients S)) (weigh-most (weight_in S local) (weight_in after then_local) due (clients S))
        (fewer_times (may_advertise advertise field now local.advertised) (may_advertise advertise field now then_local.advertised) was is))

    -- nothing more is due
    pub rests-lowers : ((x : List ℕ) → weight_in after then_local x ≤ weight_in S local x) → then_local.advertised ≡ local.advertised
        → work after then_local ≤ work S local
    rests-lowers due told =
        subst (λ n. n ≤ work S local) (sym over)
        (no_more (3 * (length (clients S) + 1)) (count (is_up_in S) (clients S)) (count (is_up_in after) (clients S)) (weigh (weight_in S local) (clients S)) (weigh (weight_in after then_local) (clients S))
        (times local) (times then_local)
        (count-most (is_up_in S) (is_up_in after) up (clients S)) (weigh-most (weight_in S local) (weight_in after then_local) due (clients S)) (times_same told))

-- ---- a set with equal operations after it

pub view-behind : (S ops delta : List Op) → Same delta ops → (c : List ℕ) → view c (S ++ delta) ≡ view c (S ++ ops)
view-behind S ops delta same c = view-thin (S ++ delta) (S ++ ops) (thin-same (S ++ delta) (S ++ ops) (same-behind S ops delta same)) c

pub clients-behind : (S ops delta : List Op) → Same delta ops → clients (S ++ delta) ≡ clients (S ++ ops)
clients-behind S ops delta same = clients-thin (S ++ delta) (S ++ ops) (thin-same (S ++ delta) (S ++ ops) (same-behind S ops delta same))
