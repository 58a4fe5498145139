-- What an expiry acknowledges, and what it leaves.
use Rattle.std.proofs.Common.{◌≡◌, ℕ, ◌⊎◌, ◌==◌, ◌≤◌, Bool, true, false, ◌&&◌, ◌||◌, not, cond, if◌then◌else◌, nat_lt, nat_le, List, [], ◌∷◌, ◌++◌, filter, map, fold, length, Option, Some, None, Contains, refl, sym, ap, ◌∙◌, true≢false, inl, inr, append_assoc, append-nil, arith, eqb-true}
use Rattle.std.specs.Option.{option_map}
use Rattle.std.specs.List.{list_any, AllByRecursion}
use Rattle.std.proofs.lemmas.Bool.{and_parts, or_left, or_right}
use Rattle.std.proofs.lemmas.Bool.Decides.{nat_tests}
use Rattle.std.proofs.lemmas.List.Folds.{list_any_at}
use Rattle.std.proofs.lemmas.List.Elements.{Contains-push, Contains-push_cases, Contains-append_left, Contains-append_right}
use Rattle.sn_session.specs.declared.outbound.Outbound.{Outbound as Exchange}
use Rattle.sn_session.specs.declared.outbound.Phase.{Phase}
use Rattle.sn_session.specs.declared.outbound.Phase.TheVariants.{Registering, Published, Released}
use Rattle.sn_session.specs.declared.session.Session.{Session}
use Rattle.rep_op.specs.declared.op.Put.{Put}
use Rattle.rep_op.specs.Orders.{name_of}
use Rattle.rep_model.specs.Moments.{is_past}
use Rattle.sn_local.specs.declared.config.Addr.{Addr}
use Rattle.sn_local.specs.declared.local.Timer.{Timer}
use Rattle.sn_local.specs.Seen.{Seen}
use Rattle.sn_local.specs.Bindings.{address_of}
use Rattle.sn_local.specs.Locals.{Local}
use Rattle.sn_plan.specs.Drafts.{Drafted, acked, acked_all}
use Rattle.sn_plan.proofs.Lists.{all-weaken}
use Rattle.sn_exchange.specs.Exchanges.{same_name, is_done, is_left, left, put_named, message_of, is_open_in, if_open, open_exchange, is_served, is_awake}
use Rattle.sn_tick.specs.declared.due.Due.{Due}
use Rattle.sn_tick.specs.declared.due.Due.TheVariants.{Expiry, Loss, Retry, Delivery}
use Rattle.sn_tick.specs.Expiry.{under_way, is_under_way, is_expired, is_far_after, is_left_behind, is_stretched, any_expires, has_expired, expiry_acked, expiries_acked, expire_all}
use Rattle.sn_tick.specs.Due.{elapsed, is_overdue, due_exchange, due_by, due_at, due_session}
use Rattle.sn_tick.proofs.Calm.{none_some}
use Rattle.step_laws.specs.Laws.{IsOfOneExpired, ExpirySettles}
use Rattle.step_laws.proofs.Counting.{count-whole}
use Rattle.step_laws.proofs.Remaining.{same_name-itself}

-- ---- tests

both_not : (a b : Bool) → a ≡ false → b ≡ false → (a || b) ≡ false
both_not true b e f = absurd (true≢false e)
both_not false b e f = f

is_not : (b : Bool) → not b ≡ true → b ≡ false
is_not true h = sym h
is_not false h = refl

-- ---- names

pub same_name-is : (a b : ℕ × ℕ) → same_name a b ≡ true → a ≡ b
same_name-is a b e =
    let parts = and_parts (a.0 == b.0) (a.1 == b.1) e in
    let seq : a.0 ≡ b.0 = eqb-true a.0 b.0 parts.0 in
    let origin : a.1 ≡ b.1 = eqb-true a.1 b.1 parts.1 in
    λ i. (seq i, origin i)

swapped : (a b : ℕ × ℕ) → same_name b a ≡ false → same_name a b ≡ false
swapped a b h =
    elim (same_name a b) as (λ t. same_name a b ≡ t → t ≡ false) [
      | true ↦ λ e. absurd (true≢false (sym (ap (same_name b) (same_name-is a b e) ∙ same_name-itself b) ∙ h))
      | false ↦ λ _. refl
    ] refl

-- ---- what is acknowledged

-- the names of the messages that have expired
abbrev pub names_of : ℕ → Option (ℕ × ℕ) → List Put → List (ℕ × ℕ)
names_of now name pending = map name_of (filter (is_expired now name) pending)

module _ (now : ℕ) (name : Option (ℕ × ℕ)) where
  acked_one : (put : Put) (rest xs : List Put) (d : Drafted) (b : Bool)
      → fold (expiry_acked now name) (acked (name_of put) d) rest ≡ acked_all (map name_of xs) (acked (name_of put) d)
      → fold (expiry_acked now name) d rest ≡ acked_all (map name_of xs) d
      → fold (expiry_acked now name) (if b then acked (name_of put) d else d) rest ≡ acked_all (map name_of (cond b (put ∷ xs) xs)) d
  acked_one put rest xs d true h k = h ∙ ap (λ (acks : List (ℕ × ℕ)). record d { acks = acks }) (append_assoc d.acks (name_of put ∷ []) (map name_of xs))
  acked_one put rest xs d false h k = k

  -- an expiry is the acknowledgements of the messages that expire, and nothing else
  pub all-acked : (pending : List Put) (d : Drafted) → expiries_acked now name pending d ≡ acked_all (names_of now name pending) d
  all-acked [] d = sym (ap (λ (acks : List (ℕ × ℕ)). record d { acks = acks }) (append-nil d.acks))
  all-acked (put ∷ rest) d =
      acked_one put rest (filter (is_expired now name) rest) d (is_expired now name put) (all-acked rest (acked (name_of put) d)) (all-acked rest d)

  -- ---- each that expires is acknowledged

  more_done : (b : Bool) (put : Put) (xs : List Put) (n : ℕ × ℕ) → is_done (map name_of xs) n ≡ true → is_done (map name_of (cond b (put ∷ xs) xs)) n ≡ true
  more_done true put xs n h = or_right (same_name (name_of put) n) (is_done (map name_of xs) n) h
  more_done false put xs n h = h

  here_done : (b : Bool) (put : Put) (xs : List Put) → b ≡ true → is_done (map name_of (cond b (put ∷ xs) xs)) (name_of put) ≡ true
  here_done true put xs e = or_left (same_name (name_of put) (name_of put)) (is_done (map name_of xs) (name_of put)) (same_name-itself (name_of put))
  here_done false put xs e = absurd (true≢false (sym e))

  abbrev IsDoneBy : List (ℕ × ℕ) → Put → Type 0
  IsDoneBy names put = is_expired now name put ≡ true → is_done names (name_of put) ≡ true

  all_done : (pending : List Put) → AllByRecursion (IsDoneBy (names_of now name pending)) pending
  all_done [] = tt
  all_done (put ∷ rest) = (
    here_done (is_expired now name put) put (filter (is_expired now name) rest),
    all-weaken (IsDoneBy (names_of now name rest)) (IsDoneBy (names_of now name (put ∷ rest)))
        (λ other h e. more_done (is_expired now name put) put (filter (is_expired now name) rest) (name_of other) (h e)) rest (all_done rest),
  )

  -- one that is not acknowledged does not expire
  one_stays : (expires done : Bool) → (expires ≡ true → done ≡ true) → done ≡ false → expires ≡ false
  one_stays true done h e = absurd (true≢false (sym (h refl) ∙ e))
  one_stays false done h e = refl

  stays_over : (done : Bool) (put : Put) (xs : List Put) → (done ≡ false → is_expired now name put ≡ false) → list_any (is_expired now name) xs ≡ false
      → list_any (is_expired now name) (cond (not done) (put ∷ xs) xs) ≡ false
  stays_over true put xs h rest = rest
  stays_over false put xs h rest = both_not (is_expired now name put) (list_any (is_expired now name) xs) (h refl) rest

  none_left : (names : List (ℕ × ℕ)) (pending : List Put) → AllByRecursion (IsDoneBy names) pending → list_any (is_expired now name) (left names pending) ≡ false
  none_left names [] all = refl
  none_left names (put ∷ rest) all =
      stays_over (is_done names (name_of put)) put (left names rest) (one_stays (is_expired now name put) (is_done names (name_of put)) all.0) (none_left names rest all.1)

  pub none-expires : (pending : List Put) → list_any (is_expired now name) (left (names_of now name pending) pending) ≡ false
  none-expires pending = none_left (names_of now name pending) pending (all_done pending)

  -- ---- and none else

  abbrev IsOne : List Put → ℕ × ℕ → Type 0
  IsOne pending n = (put : Put) × Contains pending put × (n ≡ name_of put) × (is_expired now name put ≡ true)

  at_head : (put : Put) (rest : List Put) → Contains (put ∷ rest) put
  at_head put rest = Contains-append_left (put ∷ []) rest put (Contains-push [] put)

  deeper : (put : Put) (rest : List Put) (n : ℕ × ℕ) → IsOne rest n → IsOne (put ∷ rest) n
  deeper put rest n (other, among, is, expires) = (other, Contains-append_right (put ∷ []) rest other among, is, expires)

  one_of : (put : Put) (rest : List Put) (d : Drafted) (n : ℕ × ℕ) (b : Bool) → is_expired now name put ≡ b
      → Contains (if b then acked (name_of put) d else d).acks n → Contains d.acks n ⊎ IsOne (put ∷ rest) n
  one_of put rest d n false e there = inl there
  one_of put rest d n true e there =
      elim (Contains-push_cases d.acks (name_of put) n there) [
        | inl old ↦ inl old
        | inr is ↦ inr (put, at_head put rest, sym is, e)
      ]

  pub only-expired : (pending : List Put) (d : Drafted) (n : ℕ × ℕ) → Contains (expiries_acked now name pending d).acks n → Contains d.acks n ⊎ IsOne pending n
  only-expired [] d n there = inl there
  only-expired (put ∷ rest) d n there =
      elim (only-expired rest (expiry_acked now name d put) n there) [
        | inl before ↦ one_of put rest d n (is_expired now name put) refl before
        | inr later ↦ inr (deeper put rest n later)
      ]

-- ---- the exchange that is open stays open

named_cons : (n : ℕ × ℕ) (put : Put) (xs ys : List Put) (t d e : Bool) → same_name (name_of put) n ≡ t → (t ≡ true → e ≡ d)
    → put_named n xs ≡ (if d then None else put_named n ys)
    → put_named n (cond (not e) (put ∷ xs) xs) ≡ (if d then None else put_named n (put ∷ ys))
named_cons n put xs ys true true true is same h = h
named_cons n put xs ys true true false is same h = absurd (true≢false (sym (same refl)))
named_cons n put xs ys true false true is same h = absurd (true≢false (same refl))
named_cons n put xs ys true false false is same h =
    ap (λ b. cond b (Some put) (put_named n xs)) is ∙ sym (ap (λ b. cond b (Some put) (put_named n ys)) is)
named_cons n put xs ys false true true is same h = h
named_cons n put xs ys false true false is same h = ap (λ b. cond b (Some put) (put_named n xs)) is ∙ h
named_cons n put xs ys false false true is same h = h ∙ sym (ap (λ b. cond b (Some put) (put_named n ys)) is)
named_cons n put xs ys false false false is same h =
    ap (λ b. cond b (Some put) (put_named n xs)) is ∙ h ∙ sym (ap (λ b. cond b (Some put) (put_named n ys)) is)

none_either : {X : Type 0} (b : Bool) → None ≡ (if◌then◌else◌ {A = Option X} b None None)
none_either true = refl
none_either false = refl

-- what is found among the messages that are left
pub named-left : (n : ℕ × ℕ) (names : List (ℕ × ℕ)) (pending : List Put) → put_named n (left names pending) ≡ (if is_done names n then None else put_named n pending)
named-left n names [] = none_either (is_done names n)
named-left n names (put ∷ rest) =
    named_cons n put (left names rest) rest (same_name (name_of put) n) (is_done names n) (is_done names (name_of put)) refl
    (λ e. ap (is_done names) (same_name-is (name_of put) n e)) (named-left n names rest)

module _ (s : Session) (pending : List Put) (names : List (ℕ × ℕ)) where
  closed_none : (phase : Phase) (put : Option Put) → is_open_in s phase put ≡ false → is_open_in s phase None ≡ false
  closed_none Registering put h = refl
  closed_none Published put h = refl
  closed_none Released put h = h

  open_by : (phase : Phase) (n : ℕ × ℕ) (done there : Bool) → is_done names n ≡ done → is_open_in s phase (put_named n pending) ≡ there → (there ≡ true → done ≡ false)
      → is_open_in s phase (put_named n (left names pending)) ≡ is_open_in s phase (put_named n pending)
  open_by phase n false there is opens h =
      ap (is_open_in s phase) (named-left n names pending ∙ ap (λ b. if b then None else put_named n pending) is)
  open_by phase n true true is opens h = absurd (true≢false (h refl))
  open_by phase n true false is opens h =
      ap (is_open_in s phase) (named-left n names pending ∙ ap (λ b. if b then None else put_named n pending) is)
      ∙ closed_none phase (put_named n pending) opens ∙ sym opens

  stays_at : (o : Option Exchange) → ((x : Exchange) → if_open s [] pending o ≡ Some x → is_done names (message_of x) ≡ false)
      → if_open s [] (left names pending) o ≡ if_open s [] pending o
  stays_at None h = refl
  stays_at (Some x) h =
      ap (λ b. if b then Some x else None)
      (open_by x.phase (message_of x) (is_done names (message_of x)) (is_open_in s x.phase (put_named (message_of x) pending)) refl refl
      (λ opens. h x (ap (λ b. if b then Some x else None) opens)))

  pub exchange-stays : ((x : Exchange) → open_exchange s [] pending ≡ Some x → is_done names (message_of x) ≡ false)
      → open_exchange s [] (left names pending) ≡ open_exchange s [] pending
  exchange-stays h = stays_at s.outbound h

-- the message of the exchange is not among those that expire
not_done_one : (n : ℕ × ℕ) (put : Put) (xs : List Put) (b : Bool) → (b ≡ true → same_name (name_of put) n ≡ false) → is_done (map name_of xs) n ≡ false
    → is_done (map name_of (cond b (put ∷ xs) xs)) n ≡ false
not_done_one n put xs true f h = both_not (same_name (name_of put) n) (is_done (map name_of xs) n) (f refl) h
not_done_one n put xs false f h = h

not_done : (now : ℕ) (n : ℕ × ℕ) (pending : List Put) → is_done (names_of now (Some n) pending) n ≡ false
not_done now n [] = refl
not_done now n (put ∷ rest) =
    not_done_one n put (filter (is_expired now (Some n)) rest) (is_expired now (Some n) put)
    (λ e. swapped (name_of put) n (is_not (same_name n (name_of put)) (and_parts (is_past now put) (not (same_name n (name_of put))) e).1))
    (not_done now n rest)

module _ (now : ℕ) (pending : List Put) (s : Session) where
  open_stays : open_exchange s [] (left (names_of now (option_map message_of (open_exchange s [] pending)) pending) pending) ≡ open_exchange s [] pending
  open_stays =
      exchange-stays s pending (names_of now (option_map message_of (open_exchange s [] pending)) pending)
      (λ x shown. ap (λ (o : Option Exchange). is_done (names_of now (option_map message_of o) pending) (message_of x)) shown ∙ not_done now (message_of x) pending)

  in_stays : (served : Bool)
      → (if served then option_map message_of (open_exchange s [] (left (names_of now (if served then option_map message_of (open_exchange s [] pending) else None) pending) pending)) else None)
      ≡ (if served then option_map message_of (open_exchange s [] pending) else None)
  in_stays true = ap (option_map message_of) open_stays
  in_stays false = refl

  served_stays : (served : Bool) → served ≡ true
      → open_exchange s [] (left (names_of now (if served then option_map message_of (open_exchange s [] pending) else None) pending) pending) ≡ open_exchange s [] pending
  served_stays true e = open_stays
  served_stays false e = absurd (true≢false (sym e))

-- the client is in the middle of what it was in the middle of
pub way-stays : (now : ℕ) (pending : List Put) (a : Option Addr) (session : Option Session)
    → under_way (left (names_of now (under_way pending a session) pending) pending) a session ≡ under_way pending a session
way-stays now pending None session = refl
way-stays now pending (Some a) None = refl
way-stays now pending (Some a) (Some s) = in_stays now pending s (is_served s.presence)

-- nothing of the client expires any more
pub expiry-settled : (now : ℕ) (pending : List Put) (a : Option Addr) (session : Option Session)
    → has_expired now (left (names_of now (under_way pending a session) pending) pending) a session ≡ false
expiry-settled now pending a session =
    let name = under_way pending a session in
    let rest = left (names_of now name pending) pending in
    ap (λ (n : Option (ℕ × ℕ)). any_expires now n rest) (way-stays now pending a session)
    ∙ ap (λ b. b && not (is_stretched now name rest)) (none-expires now name pending)

-- ---- what else is due was due

more_there : (m n : ℕ) → m ≤ n → nat_lt 0 m ≡ true → nat_lt 0 n ≡ true
more_there m n h k = grind (arith, nat_tests, h, k)

delivery_more : (awake fewer some : Bool) (a : Addr) (reason : Due) → (fewer ≡ true → some ≡ true) → (if awake || fewer then Some (Delivery a) else None) ≡ Some reason
    → (if awake || some then Some (Delivery a) else None) ≡ Some reason
delivery_more true fewer some a reason h e = e
delivery_more false true some a reason h e = ap (λ b. if b then Some (Delivery a) else None) (h refl) ∙ e
delivery_more false false some a reason h e = absurd (none_some reason e)

module _ (now : ℕ) (s : Session) (pending : List Put) (names : List (ℕ × ℕ)) (timer : Option Timer) (reason : Due) where
  by_rests : (a : Addr) (x : Option Exchange) → due_by now s (left names pending) a timer x ≡ Some reason → due_by now s pending a timer x ≡ Some reason
  by_rests a None e =
      delivery_more (is_awake s.presence) (nat_lt 0 (length (left names pending))) (nat_lt 0 (length pending)) a reason
      (more_there (length (left names pending)) (length pending) (count-whole (is_left names) pending)) e
  by_rests a (Some x) e = e

  served_rests : (a : Addr) (served : Bool) → (served ≡ true → open_exchange s [] (left names pending) ≡ open_exchange s [] pending)
      → (if served then due_by now s (left names pending) a timer (open_exchange s [] (left names pending)) else None) ≡ Some reason
      → (if served then due_by now s pending a timer (open_exchange s [] pending) else None) ≡ Some reason
  served_rests a true same e =
      by_rests a (open_exchange s [] pending) (sym (ap (due_by now s (left names pending) a timer) (same refl)) ∙ e)
  served_rests a false same e = e

  overdue_rests : (overdue : Bool) (x y : Option Due) → (x ≡ Some reason → y ≡ Some reason) → (if overdue then Some Loss else x) ≡ Some reason → (if overdue then Some Loss else y) ≡ Some reason
  overdue_rests true x y h e = e
  overdue_rests false x y h e = h e

at_rests : (now : ℕ) (s : Session) (pending : List Put) (timer : Option Timer) (reason : Due) (a : Option Addr)
    → due_at now s (left (names_of now (under_way pending a (Some s)) pending) pending) timer a ≡ Some reason → due_at now s pending timer a ≡ Some reason
at_rests now s pending timer reason None e = e
at_rests now s pending timer reason (Some a) e =
    served_rests now s pending (names_of now (under_way pending (Some a) (Some s)) pending) timer reason a (is_served s.presence)
    (served_stays now pending s (is_served s.presence)) e

pub expiry-rests : (now : ℕ) (pending : List Put) (timer : Option Timer) (reason : Due) (a : Option Addr) (session : Option Session)
    → due_session now (left (names_of now (under_way pending a session) pending) pending) timer a session ≡ Some reason → due_session now pending timer a session ≡ Some reason
expiry-rests now pending timer reason a None e = e
expiry-rests now pending timer reason a (Some s) e =
    let names = names_of now (under_way pending a (Some s)) pending in
    overdue_rests now s pending names timer reason (is_overdue now s timer) (due_at now s (left names pending) timer a) (due_at now s pending timer a)
    (at_rests now s pending timer reason a) e

-- ---- the session gives no expiry

no_expiry_again : (a : Addr) (late last : Bool) → ¬ ((if late then (if last then Some Loss else Some (Retry a)) else None) ≡ Some Expiry)
no_expiry_again a true true e = cc
no_expiry_again a true false e = cc
no_expiry_again a false last e = cc

no_expiry_exchange : (now : ℕ) (a : Addr) (timer : Option Timer) → ¬ (due_exchange now a timer ≡ Some Expiry)
no_expiry_exchange now a None e = cc
no_expiry_exchange now a (Some t) e = no_expiry_again a (nat_le 10 (elapsed now t.sent)) (nat_le 4 t.tries) e

no_expiry_delivery : (a : Addr) (b : Bool) → ¬ ((if b then Some (Delivery a) else None) ≡ Some Expiry)
no_expiry_delivery a true e = cc
no_expiry_delivery a false e = cc

no_expiry_by : (now : ℕ) (s : Session) (pending : List Put) (a : Addr) (timer : Option Timer) (x : Option Exchange) → ¬ (due_by now s pending a timer x ≡ Some Expiry)
no_expiry_by now s pending a timer None e = no_expiry_delivery a (is_awake s.presence || nat_lt 0 (length pending)) e
no_expiry_by now s pending a timer (Some x) e = no_expiry_exchange now a timer e

no_expiry_if : (b : Bool) (o : Option Due) → ¬ (o ≡ Some Expiry) → ¬ ((if b then o else None) ≡ Some Expiry)
no_expiry_if true o h e = h e
no_expiry_if false o h e = none_some Expiry e

no_expiry_at : (now : ℕ) (s : Session) (pending : List Put) (timer : Option Timer) (a : Option Addr) → ¬ (due_at now s pending timer a ≡ Some Expiry)
no_expiry_at now s pending timer None e = none_some Expiry e
no_expiry_at now s pending timer (Some a) e =
    no_expiry_if (is_served s.presence) (due_by now s pending a timer (open_exchange s [] pending)) (no_expiry_by now s pending a timer (open_exchange s [] pending)) e

no_expiry_else : (b : Bool) (o : Option Due) → ¬ (o ≡ Some Expiry) → ¬ ((if b then Some Loss else o) ≡ Some Expiry)
no_expiry_else true o h e = cc
no_expiry_else false o h e = h e

pub never-expiry : (now : ℕ) (pending : List Put) (timer : Option Timer) (a : Option Addr) (session : Option Session) → ¬ (due_session now pending timer a session ≡ Some Expiry)
never-expiry now pending timer a None e = none_some Expiry e
never-expiry now pending timer a (Some s) e = no_expiry_else (is_overdue now s timer) (due_at now s pending timer a) (no_expiry_at now s pending timer a) e

-- ---- the law

-- an expiry acknowledges the messages of the client that expire, and does nothing else
pub expired-acked : (seen : Seen) (local : Local) (now : ℕ) (c : List ℕ) (d : Drafted)
    → expire_all seen local now c d ≡ acked_all (names_of now (under_way (seen.of c).pending (address_of c local.bindings) (seen.of c).session) (seen.of c).pending) d
expired-acked seen local now c d = all-acked now (under_way (seen.of c).pending (address_of c local.bindings) (seen.of c).session) (seen.of c).pending d

pub expired-acks : (seen : Seen) (local : Local) (now : ℕ) (c : List ℕ) (d : Drafted) → d.acks ≡ []
    → (expire_all seen local now c d).acks ≡ names_of now (under_way (seen.of c).pending (address_of c local.bindings) (seen.of c).session) (seen.of c).pending
expired-acks seen local now c d none =
    ap (λ (e : Drafted). e.acks) (expired-acked seen local now c d)
    ∙ ap (λ (acks : List (ℕ × ℕ)). acks ++ names_of now (under_way (seen.of c).pending (address_of c local.bindings) (seen.of c).session) (seen.of c).pending) none

only_of : (now : ℕ) (pending : List Put) (a : Option Addr) (session : Option Session) (acks : List (ℕ × ℕ)) (n : ℕ × ℕ)
    → Contains acks n ⊎ IsOne now (under_way pending a session) pending n → Contains acks n ⊎ IsOfOneExpired now pending a session n
only_of now pending a session acks n (inl old) = inl old
only_of now pending a session acks n (inr (put, among, is, expires)) =
    let parts = and_parts (is_past now put) (not (is_under_way (under_way pending a session) put)) expires in
    inr (put, among, is, parts.0, is_not (is_under_way (under_way pending a session) put) parts.1)

pub only-past : (seen : Seen) (local : Local) (now : ℕ) (c : List ℕ) (d : Drafted) (n : ℕ × ℕ) → Contains (expire_all seen local now c d).acks n
    → Contains d.acks n ⊎ IsOfOneExpired now (seen.of c).pending (address_of c local.bindings) (seen.of c).session n
only-past seen local now c d n there =
    only_of now (seen.of c).pending (address_of c local.bindings) (seen.of c).session d.acks n
    (only-expired now (under_way (seen.of c).pending (address_of c local.bindings) (seen.of c).session) (seen.of c).pending d n there)

pub settled-all : (seen : Seen) (local : Local) (now : ℕ) (c : List ℕ) (d : Drafted) → d.acks ≡ []
    → has_expired now (left (expire_all seen local now c d).acks (seen.of c).pending) (address_of c local.bindings) (seen.of c).session ≡ false
settled-all seen local now c d none =
    ap (λ (acks : List (ℕ × ℕ)). has_expired now (left acks (seen.of c).pending) (address_of c local.bindings) (seen.of c).session) (expired-acks seen local now c d none)
    ∙ expiry-settled now (seen.of c).pending (address_of c local.bindings) (seen.of c).session

pub rests-all : (seen : Seen) (local : Local) (now : ℕ) (c : List ℕ) (d : Drafted) (timer : Option Timer) (reason : Due) → d.acks ≡ []
    → due_session now (left (expire_all seen local now c d).acks (seen.of c).pending) timer (address_of c local.bindings) (seen.of c).session ≡ Some reason
    → due_session now (seen.of c).pending timer (address_of c local.bindings) (seen.of c).session ≡ Some reason
rests-all seen local now c d timer reason none e =
    expiry-rests now (seen.of c).pending timer reason (address_of c local.bindings) (seen.of c).session
    (sym (ap (λ (acks : List (ℕ × ℕ)). due_session now (left acks (seen.of c).pending) timer (address_of c local.bindings) (seen.of c).session) (expired-acks seen local now c d none)) ∙ e)

-- ---- none is far after one that stays

any_some : {A : Type 0} (p : A → Bool) (xs : List A) (x : A) → Contains xs x → p x ≡ true → list_any p xs ≡ true
any_some p xs x there e = list_any_at p xs there.0 x there.1 (ap p there.2 ∙ e)

none_of : {A : Type 0} (p : A → Bool) (xs : List A) (x : A) → Contains xs x → list_any p xs ≡ false → p x ≡ false
none_of p xs x there none =
    is_not (p x) (no_other (p x) (λ some. true≢false (sym (any_some p xs x there some) ∙ none)))
  where
    no_other : (b : Bool) → ¬ (b ≡ true) → not b ≡ true
    no_other true h = absurd (h refl)
    no_other false h = refl

-- if messages expire, one that another one is far after has expired as well
goes-too : (now : ℕ) (name : Option (ℕ × ℕ)) (pending : List Put) (first put : Put) → any_expires now name pending ≡ true → Contains pending first → Contains pending put
    → is_far_after first put ≡ true → is_expired now name first ≡ true
goes-too now name pending first put expires there among far =
    expired_by (is_expired now name first) (list_any (is_far_after first) pending)
    (none_of (is_left_behind now name pending) pending first there
    (is_not (is_stretched now name pending) (and_parts (list_any (is_expired now name) pending) (not (is_stretched now name pending)) expires).1))
    (any_some (is_far_after first) pending put among far)
  where
    expired_by : (expired far : Bool) → (not expired && far) ≡ false → far ≡ true → expired ≡ true
    expired_by true far h k = refl
    expired_by false far h k = absurd (true≢false (sym k ∙ h))

pub expiry-settles : ExpirySettles
expiry-settles = record {
  near = λ seen local now c first put expires there among far.
      goes-too now (under_way (seen.of c).pending (address_of c local.bindings) (seen.of c).session) (seen.of c).pending first put expires there among far;
  only = only-past;
  unchanged = λ seen local now c d. ap (λ (e : Drafted). e.changes) (expired-acked seen local now c d);
  silent = λ seen local now c d. ap (λ (e : Drafted). e.sends) (expired-acked seen local now c d);
  settled = settled-all;
  rests = rests-all;
}
