-- If nothing is due with a client at one address, nothing is due at any, and without one. If no moment is there, nothing expires.
use Rattle.std.proofs.Common.{◌≡◌, ℕ, ◌-◌, ◌&&◌, ◌||◌, Bool, true, false, not, if◌then◌else◌, nat_le, nat_lt, List, [], ◌∷◌, length, Option, Some, None, is_some, refl, ap, ◌∙◌, true≢false}
use Rattle.std.specs.List.{list_any}
use Rattle.std.proofs.lemmas.Bool.{or_parts}
use Rattle.sn_session.specs.declared.session.Session.{Session}
use Rattle.sn_session.specs.declared.outbound.Outbound.{Outbound}
use Rattle.rep_op.specs.declared.op.Put.{Put}
use Rattle.rep_model.specs.Moments.{is_past}
use Rattle.sn_local.specs.declared.config.Addr.{Addr}
use Rattle.sn_local.specs.declared.local.Timer.{Timer}
use Rattle.sn_tick.specs.declared.due.Due.TheVariants.{Expiry, Loss, Retry, Delivery}
use Rattle.sn_exchange.specs.Exchanges.{open_exchange, is_served, is_awake}
use Rattle.sn_tick.specs.Expiry.{under_way, is_under_way, is_expired, is_stretched}
use Rattle.sn_tick.specs.Due.{is_overdue, due_exchange, due_by, due_at, due_session, expiry_or_due}
use Rattle.sn_tick.proofs.Calm.{some_none}

-- what is nothing by the test
pub none_there : {X : Type 0} (o : Option X) (b : Bool) → is_some o ≡ not b → b ≡ true → o ≡ None
none_there None b e is = refl
none_there (Some x) b e is = absurd (true≢false (e ∙ ap not is))

-- two choices by one test, of which one is nothing
if_none : {X : Type 0} (b : Bool) (x y : Option X) → (x ≡ None → y ≡ None) → (if b then x else None) ≡ None → (if b then y else None) ≡ None
if_none true x y f e = f e
if_none false x y f e = refl

-- a choice of two things is one of them
never_none : {X : Type 0} (b : Bool) (x y : X) → ¬ ((if b then Some x else Some y) ≡ None)
never_none true x y e = some_none x e
never_none false x y e = some_none y e

else_none : {X : Type 0} (b : Bool) (z : X) (x y : Option X) → (x ≡ None → y ≡ None) → (if b then Some z else x) ≡ None → (if b then Some z else y) ≡ None
else_none true z x y f e = absurd (some_none z e)
else_none false z x y f e = f e

module _ (now : ℕ) (pending : List Put) (a b : Addr) where
  same_exchange : (timer : Option Timer) → due_exchange now a timer ≡ None → due_exchange now b timer ≡ None
  same_exchange None e = refl
  same_exchange (Some t) e =
      if_none (nat_le 10 (now - t.sent)) (if nat_le 4 t.tries then Some Loss else Some (Retry a)) (if nat_le 4 t.tries then Some Loss else Some (Retry b))
      (λ is. absurd (never_none (nat_le 4 t.tries) Loss (Retry a) is)) e

  same_by : (s : Session) (timer : Option Timer) (x : Option Outbound) → due_by now s pending a timer x ≡ None → due_by now s pending b timer x ≡ None
  same_by s timer None e =
      if_none (is_awake s.presence || nat_lt 0 (length pending)) (Some (Delivery a)) (Some (Delivery b)) (λ is. absurd (some_none (Delivery a) is)) e
  same_by s timer (Some x) e = same_exchange timer e

module _ (now : ℕ) (pending : List Put) (timer : Option Timer) (a : Addr) where
  same_at : (s : Session) (o : Option Addr) → due_at now s pending timer (Some a) ≡ None → due_at now s pending timer o ≡ None
  same_at s None e = refl
  same_at s (Some b) e =
      if_none (is_served s.presence) (due_by now s pending a timer (open_exchange s [] pending)) (due_by now s pending b timer (open_exchange s [] pending))
      (same_by now pending a b s timer (open_exchange s [] pending)) e

  pub at_rest : (session : Option Session) → due_session now pending timer (Some a) session ≡ None → (o : Option Addr) → due_session now pending timer o session ≡ None
  at_rest None e o = refl
  at_rest (Some s) e o = else_none (is_overdue now s timer) Loss (due_at now s pending timer (Some a)) (due_at now s pending timer o) (same_at s o) e

-- ---- expiries

both_not : (a b : Bool) → a ≡ false → b ≡ false → (a || b) ≡ false
both_not true b e f = absurd (true≢false e)
both_not false b e f = f

-- if no moment is there, nothing has expired
pub none_expires : (now : ℕ) (name : Option (ℕ × ℕ)) (pending : List Put) → list_any (is_past now) pending ≡ false → list_any (is_expired now name) pending ≡ false
none_expires now name [] h = refl
none_expires now name (put ∷ rest) h =
    let parts = or_parts (is_past now put) (list_any (is_past now) rest) h in
    both_not (is_expired now name put) (list_any (is_expired now name) rest) (ap (λ b. b && not (is_under_way name put)) parts.0) (none_expires now name rest parts.1)

pub all_quiet : (now : ℕ) (pending : List Put) (timer : Option Timer) (a : Option Addr) (session : Option Session) → list_any (is_past now) pending ≡ false
    → due_session now pending timer a session ≡ None → expiry_or_due now pending timer a session ≡ None
all_quiet now pending timer a session none rest =
    let name = under_way pending a session in
    ap (λ b. if b && not (is_stretched now name pending) then Some Expiry else due_session now pending timer a session) (none_expires now name pending none) ∙ rest
