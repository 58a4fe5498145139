-- Moments before which messages have none.
use Rattle.std.proofs.Common.{◌≡◌, ℕ, ◌<◌, ◌≤◌, Bool, true, false, ◌&&◌, ◌||◌, not, if◌then◌else◌, nat_lt, nat_le, List, [], ◌∷◌, refl, sym, ap, ◌∙◌, subst, true≢false, arith, le_trans, leb-true, le-leb}
use Rattle.std.specs.List.{list_any}
use Rattle.std.proofs.lemmas.Bool.{and_parts}
use Rattle.std.proofs.lemmas.Bool.Decides.{nat_tests}
use Rattle.rep_op.specs.declared.op.Put.{Put}
use Rattle.rep_model.specs.Moments.{is_past, AllLast}
use Rattle.rep_model.specs.inner.Moments.{sooner, soonest_of}

-- ---- tests

neither : (a b : Bool) → a ≡ false → b ≡ false → (a || b) ≡ false
neither true b e f = absurd (true≢false e)
neither false b e f = f

below : (e m : ℕ) → nat_lt e m ≡ true → e ≤ m
below e m h = grind (arith, nat_tests, h)

above : (e m : ℕ) → nat_lt e m ≡ false → nat_le m e ≡ true
above e m h = grind (arith, nat_tests, h)

later : (e m now : ℕ) → now < m → nat_le m e ≡ true → nat_le e now ≡ false
later e m now h k = grind (arith, nat_tests, h, k)

itself : (e : ℕ) → nat_le e e ≡ true
itself e = le-leb e e (omega arith)

-- ---- messages that last until a moment last until each before it

less_lasts : (m n e : ℕ) → n ≤ m → (not (nat_lt 0 e) || nat_le m e) ≡ true → (not (nat_lt 0 e) || nat_le n e) ≡ true
less_lasts m n e less h =
    elim (nat_lt 0 e) as (λ b. (not b || nat_le m e) ≡ true → (not b || nat_le n e) ≡ true) [
      | true ↦ λ late. le-leb n e (le_trans less (leb-true m e late))
      | false ↦ λ _. refl
    ] h

pub lasts-less : (m n : ℕ) (puts : List Put) → n ≤ m → AllLast m puts → AllLast n puts
lasts-less m n [] less all = tt
lasts-less m n (put ∷ rest) less all = (less_lasts m n put.expires less all.0, lasts-less m n rest less all.1)

-- ---- the least moment

at_most : (b : Bool) (e m : ℕ) → (b ≡ true → e ≤ m) → (if b then e else m) ≤ m
at_most true e m h = h refl
at_most false e m h = omega arith

sooner_less : (m : ℕ) (put : Put) → sooner m put ≤ m
sooner_less m put =
    at_most (nat_lt 0 put.expires && nat_lt put.expires m) put.expires m
    (λ is. below put.expires m (and_parts (nat_lt 0 put.expires) (nat_lt put.expires m) is).1)

pub soonest-less : (puts : List Put) (m : ℕ) → soonest_of m puts ≤ m
soonest-less [] m = omega arith
soonest-less (put ∷ rest) m = le_trans (soonest-less rest (sooner m put)) (sooner_less m put)

within : (e m : ℕ) → nat_le (if nat_lt e m then e else m) e ≡ true
within e m =
    elim (nat_lt e m) as (λ c. nat_lt e m ≡ c → nat_le (if c then e else m) e ≡ true) [
      | true ↦ λ _. itself e
      | false ↦ λ is. above e m is
    ] refl

sooner_lasts : (m e : ℕ) → (not (nat_lt 0 e) || nat_le (if nat_lt 0 e && nat_lt e m then e else m) e) ≡ true
sooner_lasts m e =
    elim (nat_lt 0 e) as (λ b. (not b || nat_le (if b && nat_lt e m then e else m) e) ≡ true) [
      | true ↦ within e m
      | false ↦ refl
    ]

pub soonest-lasts : (puts : List Put) (m : ℕ) → AllLast (soonest_of m puts) puts
soonest-lasts [] m = tt
soonest-lasts (put ∷ rest) m = (
  less_lasts (sooner m put) (soonest_of (sooner m put) rest) put.expires (soonest-less rest (sooner m put)) (sooner_lasts m put.expires),
  soonest-lasts rest (sooner m put),
)

-- ---- as it is found

pub found : (puts slice : List Put) (moment soonest : ℕ) → slice ≡ puts → soonest ≡ soonest_of moment slice → AllLast soonest puts
found puts slice moment soonest same is = subst (λ n. AllLast n puts) (sym (is ∙ ap (soonest_of moment) same)) (soonest-lasts puts moment)

pub found_before : (puts slice : List Put) (moment soonest : ℕ) → AllLast moment puts → soonest ≡ soonest_of moment slice → AllLast soonest puts
found_before puts slice moment soonest all is =
    subst (λ n. AllLast n puts) (sym is) (lasts-less moment (soonest_of moment slice) puts (soonest-less slice moment) all)

-- ---- before it nothing is past

not_past : (now m e : ℕ) → now < m → (not (nat_lt 0 e) || nat_le m e) ≡ true → (nat_lt 0 e && nat_le e now) ≡ false
not_past now m e before h =
    elim (nat_lt 0 e) as (λ b. (not b || nat_le m e) ≡ true → (b && nat_le e now) ≡ false) [
      | true ↦ λ late. later e m now before late
      | false ↦ λ _. refl
    ] h

pub none-past : (now m : ℕ) (puts : List Put) → now < m → AllLast m puts → list_any (is_past now) puts ≡ false
none-past now m [] before all = refl
none-past now m (put ∷ rest) before all =
    neither (is_past now put) (list_any (is_past now) rest) (not_past now m put.expires before all.0) (none-past now m rest before all.1)
