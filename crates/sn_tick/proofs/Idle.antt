-- What a tick makes that has nothing to do, and for how long it has nothing to do.
use Rattle.std.proofs.Common.{◌≡◌, ℕ, ◌≤◌, ◌-◌, Bool, true, false, ◌&&◌, ◌||◌, not, if◌then◌else◌, nat_le, nat_lt, List, [], ◌∷◌, fold, length, Option, Some, None, is_some, refl, sym, ap, ◌∙◌, arith, true≢false}
use Rattle.std.specs.List.{list_any}
use Rattle.std.proofs.lemmas.Bool.{and_parts, and_from}
use Rattle.std.proofs.lemmas.Bool.Decides.{nat_tests}
use Rattle.sn_topic.specs.Table.{Entries}
use Rattle.sn_session.specs.declared.session.Session.{Session}
use Rattle.sn_session.specs.declared.outbound.Outbound.{Outbound}
use Rattle.rep_op.specs.declared.op.Put.{Put}
use Rattle.rep_model.specs.Moments.{is_past}
use Rattle.sn_local.specs.declared.config.Addr.{Addr}
use Rattle.sn_local.specs.declared.local.Timer.{Timer}
use Rattle.sn_local.specs.declared.local.WillDialog.{WillDialog}
use Rattle.sn_local.specs.declared.local.LocalChange.TheVariants.{Heard, EndDialog}
use Rattle.sn_plan.specs.declared.plan.Plan.{Plan}
use Rattle.sn_plan.specs.Drafts.{Drafted, nothing, lasting, moved}
use Rattle.sn_local.specs.Lifetimes.{expires_at}
use Rattle.sn_local.specs.Bindings.{address_of, is_stamp_of}
use Rattle.sn_local.specs.Timers.{timer_of}
use Rattle.sn_local.specs.Locals.{Local}
use Rattle.sn_plan.specs.Others.{is_up}
use Rattle.sn_local.specs.Seen.{Seen}
use Rattle.sn_plan.specs.Plans.{plan_without}
use Rattle.rep_model.specs.declared.view.ClientView.{ClientView}
use Rattle.sn_tick.specs.declared.due.Due.{Due}
use Rattle.sn_tick.specs.declared.due.Due.TheVariants.{Expiry, Loss, Retry}
use Rattle.sn_exchange.specs.Exchanges.{open_exchange, is_served}
use Rattle.sn_tick.specs.Expiry.{under_way, is_under_way, is_expired, is_far_after, is_left_behind, is_stretched, has_expired}
use Rattle.sn_tick.specs.Due.{patience, is_overdue, due_exchange, due_by, due_at, due_session, expiry_or_due, due_view, due_with, or_later, first_due}
use Rattle.sn_tick.specs.Ticking.{is_old, needs_timer, timer_begun, timers_begun, dialog_ended, dialogs_ended, begin_tick, is_long_ago, may_advertise, advertised, plan_if_due, plan_one_thing, tick}
use Rattle.sn_tick.specs.Rest.{asks, is_idle}
use Rattle.sn_tick.proofs.Calm.{some_none}

-- ---- tests

is_not : (b : Bool) → not b ≡ true → b ≡ false
is_not true h = sym h
is_not false h = refl

or_false : (a b : Bool) → (a || b) ≡ false → (a ≡ false) × (b ≡ false)
or_false true b h = absurd (true≢false h)
or_false false b h = (refl, h)

neither : (a b : Bool) → a ≡ false → b ≡ false → (a || b) ≡ false
neither true b h k = absurd (true≢false h)
neither false b h k = k

and_less : (a x y : Bool) → (x ≡ false → y ≡ false) → (a && x) ≡ false → (a && y) ≡ false
and_less true x y f h = f h
and_less false x y f h = refl

is_none : {X : Type 0} (o : Option X) → is_some o ≡ false → o ≡ None
is_none None h = refl
is_none (Some x) h = absurd (true≢false h)

none_is : {X : Type 0} (o : Option X) → o ≡ None → is_some o ≡ false
none_is o h = ap is_some h

-- a list of which nothing passes a test, folded by what changes nothing where the test fails
fold_same : {A B : Type 0} (f : B → A → B) (p : A → Bool) (b : B) (xs : List A) → ((x : A) → p x ≡ false → f b x ≡ b) → list_any p xs ≡ false → fold f b xs ≡ b
fold_same f p b [] h none = refl
fold_same f p b (x ∷ xs) h none =
    let parts = or_false (p x) (list_any p xs) none in
    ap (λ c. fold f c xs) (h x parts.0) ∙ fold_same f p b xs h parts.1

any_less : {A : Type 0} (p q : A → Bool) (xs : List A) → ((x : A) → p x ≡ false → q x ≡ false) → list_any p xs ≡ false → list_any q xs ≡ false
any_less p q [] h none = refl
any_less p q (x ∷ xs) h none =
    let parts = or_false (p x) (list_any p xs) none in
    neither (q x) (list_any q xs) (h x parts.0) (any_less p q xs h parts.1)

-- ---- a tick that has nothing to do

module _ (g lifetime advertise : ℕ) (field : List Addr) (predefined : Entries) (seen : Seen) (local : Local) (now : ℕ) where
  first_none : (cs : List (List ℕ)) → list_any (asks g seen local now) cs ≡ false → first_due g seen local now cs ≡ None
  first_none [] h = refl
  first_none (c ∷ cs) h =
      let parts = or_false (asks g seen local now c) (list_any (asks g seen local now) cs) h in
      let due = or_false (needs_timer g local.timers c (seen.of c)) (is_some (due_with g seen local now c)) parts.0 in
      ap (or_later (first_due g seen local now cs) c) (is_none (due_with g seen local now c) due.1) ∙ first_none cs parts.1

  pub idle_tick : is_idle g advertise field seen local now ≡ true → tick g lifetime advertise field predefined seen local now ≡ Some (plan_without nothing)
  idle_tick h =
      let parts = and_parts (not (may_advertise advertise field now local.advertised)) (not (list_any (is_old now) local.dialogs) && not (list_any (asks g seen local now) seen.all)) h in
      let more = and_parts (not (list_any (is_old now) local.dialogs)) (not (list_any (asks g seen local now) seen.all)) parts.1 in
      let told : may_advertise advertise field now local.advertised ≡ false = is_not (may_advertise advertise field now local.advertised) parts.0 in
      let young : list_any (is_old now) local.dialogs ≡ false = is_not (list_any (is_old now) local.dialogs) more.0 in
      let none : list_any (asks g seen local now) seen.all ≡ false = is_not (list_any (asks g seen local now) seen.all) more.1 in
      let dialogs : dialogs_ended now local.dialogs nothing ≡ nothing =
      fold_same (dialog_ended now) (is_old now) nothing local.dialogs (λ d young. ap (λ b. if b then moved (EndDialog d.request.address) nothing else nothing) young) young in
      let timers : timers_begun g seen local.timers now seen.all nothing ≡ nothing =
      fold_same (timer_begun g seen local.timers now) (asks g seen local now) nothing seen.all
      (λ c quiet. ap (λ b. if b then moved (Heard c now) nothing else nothing) (or_false (needs_timer g local.timers c (seen.of c)) (is_some (due_with g seen local now c)) quiet).0) none in
      let clean : begin_tick g seen local now ≡ nothing = ap (timers_begun g seen local.timers now seen.all) dialogs ∙ timers in
      let first : Drafted = lasting (expires_at lifetime now) nothing in
      ap (λ (d : Drafted). plan_one_thing g advertise field predefined seen local now (lasting (expires_at lifetime now) d)) clean
      ∙ ap (λ b. if b then Some (plan_without (advertised g advertise field now first)) else plan_if_due g predefined seen local now first (first_due g seen local now seen.all)) told
      ∙ ap (plan_if_due g predefined seen local now first) (first_none seen.all none)

-- ---- and before

module _ (n m : ℕ) (before : n ≤ m) where
  sooner : (k since : ℕ) → nat_le k (m - since) ≡ false → nat_le k (n - since) ≡ false
  sooner k since h = grind (arith, nat_tests, before)

  told_before : (advertise : ℕ) (field : List Addr) (last : Option ℕ) → may_advertise advertise field m last ≡ false → may_advertise advertise field n last ≡ false
  told_before advertise field None h = h
  told_before advertise field (Some last) h =
      and_less (nat_lt 0 advertise && nat_lt 0 (length field)) (nat_le advertise (m - last)) (nat_le advertise (n - last)) (sooner advertise last) h

  heard_before : (s : Session) (timer : Option Timer) → is_overdue m s timer ≡ false → is_overdue n s timer ≡ false
  heard_before s None h = refl
  heard_before s (Some t) h =
      and_less (is_up s.presence) (nat_lt 0 s.duration && nat_le (patience s.duration) (m - t.heard)) (nat_lt 0 s.duration && nat_le (patience s.duration) (n - t.heard))
      (and_less (nat_lt 0 s.duration) (nat_le (patience s.duration) (m - t.heard)) (nat_le (patience s.duration) (n - t.heard)) (sooner (patience s.duration) t.heard)) h

  -- a choice that is nothing was not taken
  not_taken : {X : Type 0} (b c : Bool) (x y : X) → (if b then (if c then Some x else Some y) else None) ≡ None → b ≡ false
  not_taken true true x y h = absurd (some_none x h)
  not_taken true false x y h = absurd (some_none y h)
  not_taken false c x y h = refl

  exchange_before : (a : Addr) (timer : Option Timer) → due_exchange m a timer ≡ None → due_exchange n a timer ≡ None
  exchange_before a None h = refl
  exchange_before a (Some t) h =
      ap (λ b. if b then (if nat_le 4 t.tries then Some Loss else Some (Retry a)) else None)
      (sooner 10 t.sent (not_taken (nat_le 10 (m - t.sent)) (nat_le 4 t.tries) Loss (Retry a) h))

  by_before : (s : Session) (pending : List Put) (a : Addr) (timer : Option Timer) (x : Option Outbound) → due_by m s pending a timer x ≡ None → due_by n s pending a timer x ≡ None
  by_before s pending a timer None h = h
  by_before s pending a timer (Some x) h = exchange_before a timer h

  if_less : {X : Type 0} (b : Bool) (x y : Option X) → (x ≡ None → y ≡ None) → (if b then x else None) ≡ None → (if b then y else None) ≡ None
  if_less true x y f h = f h
  if_less false x y f h = refl

  at_before : (s : Session) (pending : List Put) (timer : Option Timer) (a : Option Addr) → due_at m s pending timer a ≡ None → due_at n s pending timer a ≡ None
  at_before s pending timer None h = refl
  at_before s pending timer (Some a) h =
      if_less (is_served s.presence) (due_by m s pending a timer (open_exchange s [] pending)) (due_by n s pending a timer (open_exchange s [] pending))
      (by_before s pending a timer (open_exchange s [] pending)) h

  both_less : {X : Type 0} (b c : Bool) (z : X) (x y : Option X) → (b ≡ false → c ≡ false) → (x ≡ None → y ≡ None) → (if b then Some z else x) ≡ None → (if c then Some z else y) ≡ None
  both_less true c z x y f k h = absurd (some_none z h)
  both_less false c z x y f k h = ap (λ d. if d then Some z else y) (f refl) ∙ k h

  session_before : (pending : List Put) (timer : Option Timer) (a : Option Addr) (session : Option Session) → due_session m pending timer a session ≡ None → due_session n pending timer a session ≡ None
  session_before pending timer a None h = refl
  session_before pending timer a (Some s) h =
      both_less (is_overdue m s timer) (is_overdue n s timer) Loss (due_at m s pending timer a) (due_at n s pending timer a) (heard_before s timer) (at_before s pending timer a) h

  not_there : (e : ℕ) → nat_le e m ≡ false → nat_le e n ≡ false
  not_there e h = grind (arith, nat_tests, before)

  left_less : (x y z : Bool) → (x ≡ false → y ≡ false) → (x && z) ≡ false → (y && z) ≡ false
  left_less true y true f h = absurd (true≢false h)
  left_less true true false f h = refl
  left_less true false false f h = refl
  left_less false y z f h = ap (λ b. b && z) (f refl)

  -- what has expired at a moment has expired at each later one
  expired_less : (name : Option (ℕ × ℕ)) (put : Put) → is_expired m name put ≡ false → is_expired n name put ≡ false
  expired_less name put h =
      left_less (is_past m put) (is_past n put) (not (is_under_way name put))
      (and_less (nat_lt 0 put.expires) (nat_le put.expires m) (nat_le put.expires n) (not_there put.expires)) h

  behind_less : (late early far : Bool) → (late ≡ false → early ≡ false) → (not early && far) ≡ false → (not late && far) ≡ false
  behind_less true early far f h = refl
  behind_less false true far f h = absurd (true≢false (f refl))
  behind_less false false far f h = h

  -- what stays at a moment, far before another one, stayed at each earlier one
  stretched_less : (name : Option (ℕ × ℕ)) (pending : List Put) → is_stretched n name pending ≡ false → is_stretched m name pending ≡ false
  stretched_less name pending h =
      any_less (is_left_behind n name pending) (is_left_behind m name pending) pending
      (λ first. behind_less (is_expired m name first) (is_expired n name first) (list_any (is_far_after first) pending) (expired_less name first)) h

  expires_less : (late early then_far now_far : Bool) → (late ≡ false → early ≡ false) → (now_far ≡ false → then_far ≡ false)
      → (late && not then_far) ≡ false → (early && not now_far) ≡ false
  expires_less late false then_far now_far f k h = refl
  expires_less false true then_far now_far f k h = absurd (true≢false (f refl))
  expires_less true true then_far true f k h = refl
  expires_less true true true false f k h = absurd (true≢false (k refl))
  expires_less true true false false f k h = absurd (true≢false h)

  expired_before : (pending : List Put) (a : Option Addr) (session : Option Session) → has_expired m pending a session ≡ false → has_expired n pending a session ≡ false
  expired_before pending a session h =
      let name = under_way pending a session in
      expires_less (list_any (is_expired m name) pending) (list_any (is_expired n name) pending) (is_stretched m name pending) (is_stretched n name pending)
      (any_less (is_expired m name) (is_expired n name) pending (expired_less name)) (stretched_less name pending) h

  or_before : (pending : List Put) (timer : Option Timer) (a : Option Addr) (session : Option Session) → expiry_or_due m pending timer a session ≡ None → expiry_or_due n pending timer a session ≡ None
  or_before pending timer a session h =
      both_less (has_expired m pending a session) (has_expired n pending a session) Expiry (due_session m pending timer a session) (due_session n pending timer a session)
      (expired_before pending a session) (session_before pending timer a session) h

  view_before : (g : ℕ) (local : Local) (c : List ℕ) (v : ClientView) → due_view g local m c v ≡ None → due_view g local n c v ≡ None
  view_before g local c v h =
      if_less (is_stamp_of g v.stamp) (expiry_or_due m v.pending (timer_of c local.timers) (address_of c local.bindings) v.session) (expiry_or_due n v.pending (timer_of c local.timers) (address_of c local.bindings) v.session)
      (or_before v.pending (timer_of c local.timers) (address_of c local.bindings) v.session) h

  asks_before : (g : ℕ) (seen : Seen) (local : Local) (c : List ℕ) → asks g seen local m c ≡ false → asks g seen local n c ≡ false
  asks_before g seen local c h =
      let parts = or_false (needs_timer g local.timers c (seen.of c)) (is_some (due_with g seen local m c)) h in
      neither (needs_timer g local.timers c (seen.of c)) (is_some (due_with g seen local n c)) parts.0
      (none_is (due_with g seen local n c) (view_before g local c (seen.of c) (is_none (due_with g seen local m c) parts.1)))

  negate : (a b : Bool) → (a ≡ false → b ≡ false) → not a ≡ true → not b ≡ true
  negate a b f h = ap not (f (is_not a h))

  pub idle_before : (g advertise : ℕ) (field : List Addr) (seen : Seen) (local : Local) → is_idle g advertise field seen local m ≡ true → is_idle g advertise field seen local n ≡ true
  idle_before g advertise field seen local h =
      let parts = and_parts (not (may_advertise advertise field m local.advertised)) (not (list_any (is_old m) local.dialogs) && not (list_any (asks g seen local m) seen.all)) h in
      let more = and_parts (not (list_any (is_old m) local.dialogs)) (not (list_any (asks g seen local m) seen.all)) parts.1 in
      and_from (not (may_advertise advertise field n local.advertised)) (not (list_any (is_old n) local.dialogs) && not (list_any (asks g seen local n) seen.all))
      (negate (may_advertise advertise field m local.advertised) (may_advertise advertise field n local.advertised) (told_before advertise field local.advertised) parts.0)
      (and_from (not (list_any (is_old n) local.dialogs)) (not (list_any (asks g seen local n) seen.all))
      (negate (list_any (is_old m) local.dialogs) (list_any (is_old n) local.dialogs) (any_less (is_old m) (is_old n) local.dialogs (λ d. sooner 60 d.begun)) more.0)
      (negate (list_any (asks g seen local m) seen.all) (list_any (asks g seen local n) seen.all) (any_less (asks g seen local m) (asks g seen local n) seen.all (asks_before g seen local)) more.1))
