-- Entries in the order of their names: where one stands, and where one more goes.
use Rattle.std.proofs.Common.{◌≡◌, ℕ, zero, suc, ◌+◌, ◌-◌, Bool, true, false, not, cond, ◌&&◌, nat_lt, List, [], ◌∷◌, ◌++◌, length, take, drop, filter, count_by, get_or, slice_get, Option, Some, None, T, refl, sym, ap, ◌∙◌, subst, arith, true≢false, Ordering, Less, Equal, Greater, is_eq, nat_cmp}
use Rattle.std.proofs.lemmas.Bool.Decides.{nat_tests}
use Rattle.std.specs.Cmp.{IsTotalOrder}
use Rattle.std.specs.List.{AllByRecursion, insert}
use Rattle.std.proofs.lemmas.List.{length-drop, take_all}
use Rattle.std.proofs.lemmas.List.Sums.{sum_by-cons}
use Rattle.std.specs.Map.{keys_of}
use Rattle.std.specs.Ordering.{is_lt, ordering_reverse, ordering_then}
use Rattle.std.specs.FinMap.{find, put, is_sorted}
use Rattle.std.specs.FinMap.Entries.{below_all, by_order}
use Rattle.sn_session.specs.declared.change.SessionOp.{SessionOp}
use Rattle.sn_tables.specs.inner.Tables.{AllAbove, IsFoundAt, IsGap}
use Rattle.sn_tables.proofs.Ascending.{Ascends}
use Rattle.rep_op.specs.declared.op.Stamp.{Stamp}
use Rattle.rep_op.specs.Orders.{stamp_cmp, operation_cmp}
use Rattle.rep_model.specs.Keep.{is_below}
use Rattle.rep_model.proofs.Lookup.{or_else, find_both}
use Rattle.rep_shared.specs.Steps.{waits}

first : (a b : Bool) → T (a && b) → T a
first true b p = tt
first false b p = p

second : (a b : Bool) → T (a && b) → T b
second true b p = p
second false b p = absurd p

less : (r : Ordering) → T (is_lt r) → r ≡ Less
less Less p = refl
less Equal p = absurd p
less Greater p = absurd p

pub less_is : (r : Ordering) → is_lt r ≡ true → r ≡ Less
less_is Less e = refl
less_is Equal e = absurd (true≢false (sym e))
less_is Greater e = absurd (true≢false (sym e))

none_right : {X : Type 0} (a b : Option X) → or_else a b ≡ None → b ≡ None
none_right None b e = e
none_right (Some x) b e = some_none e
  where
    some_none : {P : Type 0} → Some x ≡ None → P
    some_none h = cc

reversed : {K : Type 0} (R : K → K → Ordering) → IsTotalOrder R → (q k : K) (r : Ordering) → R k q ≡ r → R q k ≡ ordering_reverse r
reversed R total q k r e = total.antisymm q k ∙ ap ordering_reverse e

module _ {K X : Type 0} (R : K → K → Ordering) where
  all_less : (k : K) (es : List (K × X)) → T (below_all R k es) → AllByRecursion (λ (e : K × X). R k e.0 ≡ Less) es
  all_less k [] h = tt
  all_less k (e ∷ es) h = (less (R k e.0) (first (is_lt (R k e.0)) (below_all R k es) h), all_less k es (second (is_lt (R k e.0)) (below_all R k es) h))

  pub ascends : (es : List (K × X)) → T (is_sorted R es) → Ascends (λ (x y : K × X). R x.0 y.0) es
  ascends [] h = tt
  ascends (e ∷ es) h = (all_less e.0 es (first (below_all R e.0 es) (is_sorted R es) h), ascends es (second (below_all R e.0 es) (is_sorted R es) h))

  -- what comes after others in order is in order
  pub sorted_behind : (xs ys : List (K × X)) → T (is_sorted R (xs ++ ys)) → T (is_sorted R ys)
  sorted_behind [] ys h = h
  sorted_behind (x ∷ xs) ys h = sorted_behind xs ys (second (below_all R x.0 (xs ++ ys)) (is_sorted R (xs ++ ys)) h)

  -- nothing of that name is among all, so nothing among the last of them
  pub none_behind : (q : K) (xs ys : List (K × X)) → find R q (xs ++ ys) ≡ None → find R q ys ≡ None
  none_behind q xs ys h = none_right (find R q xs) (find R q ys) (sym (find_both R q xs ys) ∙ h)

  module _ (total : IsTotalOrder R) (q : K) where
    none_above : (es : List (K × X)) → AllAbove (λ (e : K × X). R e.0 q) es → find R q es ≡ None
    none_above [] h = refl
    none_above (e ∷ es) h = ap (λ r. cond (is_eq r) (Some e.1) (find R q es)) (reversed R total q e.0 Greater h.0) ∙ none_above es h.1

    pub found_gap : (es : List (K × X)) (i : ℕ) → IsGap (λ (e : K × X). R e.0 q) es i → find R q es ≡ None
    found_gap es zero h = none_above es h
    found_gap [] (suc i) h = absurd h
    found_gap (e ∷ es) (suc i) h = ap (λ r. cond (is_eq r) (Some e.1) (find R q es)) (reversed R total q e.0 Less h.0) ∙ found_gap es i h.1

    pub found_at : (es : List (K × X)) (i : ℕ) (d : K × X) → IsFoundAt (λ (e : K × X). R e.0 q) es i → find R q es ≡ Some (get_or es i d).1
    found_at [] i d h = absurd h
    found_at (e ∷ es) zero d h = ap (λ r. cond (is_eq r) (Some e.1) (find R q es)) (reversed R total q e.0 Equal h.0)
    found_at (e ∷ es) (suc i) d h = ap (λ r. cond (is_eq r) (Some e.1) (find R q es)) (reversed R total q e.0 Less h.0) ∙ found_at es i d h.1

    -- an entry goes to the gap for it
    pub put_gap : (v : X) (es : List (K × X)) (i : ℕ) → IsGap (λ (e : K × X). R e.0 q) es i → insert es i (q, v) ≡ put R q v es
    put_gap v [] zero h = refl
    put_gap v (e ∷ es) zero h = sym (ap (λ r. by_order r ((q, v) ∷ e ∷ es) ((e.0, v) ∷ es) (e ∷ put R q v es)) (reversed R total q e.0 Greater h.0))
    put_gap v [] (suc i) h = absurd h
    put_gap v (e ∷ es) (suc i) h =
        ap (λ rest. e ∷ rest) (put_gap v es i h.1)
        ∙ sym (ap (λ r. by_order r ((q, v) ∷ e ∷ es) ((e.0, v) ∷ es) (e ∷ put R q v es)) (reversed R total q e.0 Less h.0))

    -- where it comes after the first of them, these stay as they are
    pub put_behind : (v : X) (es more : List (K × X)) → AllByRecursion (λ (e : K × X). R e.0 q ≡ Less) es → put R q v (es ++ more) ≡ es ++ put R q v more
    put_behind v [] more h = refl
    put_behind v (e ∷ es) more h =
        ap (λ r. by_order r ((q, v) ∷ e ∷ es ++ more) ((e.0, v) ∷ es ++ more) (e ∷ put R q v (es ++ more))) (reversed R total q e.0 Less h.0)
        ∙ ap (λ rest. e ∷ rest) (put_behind v es more h.1)

    -- where it comes after the last of those in order, it comes after all
    pub behind_last : (es : List (K × X)) (k : ℕ) (last : K × X) → Ascends (λ (x y : K × X). R x.0 y.0) es → length es ≡ suc k → slice_get es k ≡ Some last → R last.0 q ≡ Less → AllByRecursion (λ (e : K × X). R e.0 q ≡ Less) es
    behind_last [] k last h long is less = tt
    behind_last (e ∷ []) zero last h long is less = (subst (λ (x : K × X). R x.0 q ≡ Less) (sym (same is)) less, tt)
      where
        same : Some e ≡ Some last → e ≡ last
        same p = cc
    behind_last (e ∷ []) (suc k) last h long is less = absurd (no_more k long)
      where
        no_more : (k : ℕ) → 1 ≡ suc (suc k) → ⊥
        no_more k e = omega (arith, e)
    behind_last (e ∷ f ∷ es) zero last h long is less = absurd (no_less (length es) long)
      where
        no_less : (m : ℕ) → suc (suc m) ≡ 1 → ⊥
        no_less m e = omega (arith, e)
    behind_last (e ∷ f ∷ es) (suc k) last h long is less =
        let rest = behind_last (f ∷ es) k last h.1 (omega (arith, long)) is less in
        (total.trans e.0 f.0 q h.0.0 rest.0, rest)

is_there : {E : Type 0} (xs : List E) (x : E) → slice_get (x ∷ xs) (length xs) ≡ None → ⊥
is_there [] x p = some_none p
  where
    some_none : {Q : Type 0} → Some x ≡ None → Q
    some_none q = cc
is_there (y ∷ xs) x p = is_there xs y p

-- where none is the last there is none
pub none_last : {E : Type 0} (P : E → Type 0) (es : List E) → slice_get es (length es - 1) ≡ None → AllByRecursion P es
none_last P [] h = tt
none_last P (e ∷ []) h = some_none h
  where
    some_none : {Q : Type 0} → Some e ≡ None → Q
    some_none p = cc
none_last P (e ∷ f ∷ es) h = absurd (is_there (f ∷ es) e (ap (slice_get (e ∷ f ∷ es)) (one_less (length es)) ∙ h))
  where
    one_less : (m : ℕ) → suc m ≡ suc (suc m) - 1
    one_less m = omega arith

pub behind_all : {K X : Type 0} (R : K → K → Ordering) (total : IsTotalOrder R) (q : K) (es : List (K × X)) (last : K × X) → T (is_sorted R es) → slice_get es (length es - 1) ≡ Some last → is_lt (R last.0 q) ≡ true → AllByRecursion (λ (e : K × X). R e.0 q ≡ Less) es
behind_all R total q [] last h is less = tt
behind_all R total q (e ∷ es) last h is less = behind_last R total q (e ∷ es) (length es) last (ascends R (e ∷ es) h) refl (ap (slice_get (e ∷ es)) (one_less (length es)) ∙ is) (less_is (R last.0 q) less)
  where
    one_less : (m : ℕ) → m ≡ suc m - 1
    one_less m = omega arith

-- ---- those that wait

not_before : (k prefix : ℕ) (r : Ordering) → nat_cmp k prefix ≡ r → nat_lt k prefix ≡ is_lt r
not_before k prefix r e = sym (lt_cmp k prefix) ∙ ap is_lt e
  where
    lt_cmp : (a b : ℕ) → is_lt (nat_cmp a b) ≡ nat_lt a b
    lt_cmp a b = grind (arith, nat_tests)

-- a name waits where it does not come before the place of the first that is wanting
waits_as : (seen : Stamp) (prefix : ℕ) (name : Stamp × ℕ) → waits (Some seen) prefix name ≡ not (is_lt (operation_cmp name (seen, prefix)))
waits_as seen prefix name =
    elim (stamp_cmp name.0 seen) as (λ r. (not (is_lt r) && not (is_eq r && nat_lt name.1 prefix)) ≡ not (is_lt (ordering_then r (nat_cmp name.1 prefix)))) [
      | Less ↦ refl
      | Equal ↦ ap not (not_before name.1 prefix (nat_cmp name.1 prefix) refl)
      | Greater ↦ refl
    ]

module _ (seen : Stamp) (prefix : ℕ) where
  abbrev sought : (Stamp × ℕ) × SessionOp → Ordering
  sought e = operation_cmp e.0 (seen, prefix)

  here : (e : (Stamp × ℕ) × SessionOp) (r : Ordering) → sought e ≡ r → waits (Some seen) prefix e.0 ≡ not (is_lt r)
  here e r is = waits_as seen prefix e.0 ∙ ap (λ r. not (is_lt r)) is

  counted : (b : Bool) (e : (Stamp × ℕ) × SessionOp) (es : List ((Stamp × ℕ) × SessionOp)) → waits (Some seen) prefix e.0 ≡ b → count_by (waits (Some seen) prefix) (keys_of (e ∷ es)) ≡ cond b 1 0 + count_by (waits (Some seen) prefix) (keys_of es)
  counted b e es w = sum_by-cons (λ (n : Stamp × ℕ). cond (waits (Some seen) prefix n) 1 0) e.0 (keys_of es) ∙ ap (λ b. cond b 1 0 + count_by (waits (Some seen) prefix) (keys_of es)) w

  wait_above : (es : List ((Stamp × ℕ) × SessionOp)) → AllAbove sought es → count_by (waits (Some seen) prefix) (keys_of es) ≡ length es
  wait_above [] h = refl
  wait_above (e ∷ es) h = let rest = wait_above es h.1 in let one = counted true e es (here e Greater h.0) in omega (arith, rest, one)

  pub wait_gap : (es : List ((Stamp × ℕ) × SessionOp)) (i : ℕ) → IsGap sought es i → count_by (waits (Some seen) prefix) (keys_of es) ≡ length es - i
  wait_gap es zero h = let all = wait_above es h in omega (arith, all)
  wait_gap [] (suc i) h = absurd h
  wait_gap (e ∷ es) (suc i) h = let rest = wait_gap es i h.1 in let none = counted false e es (here e Less h.0) in omega (arith, rest, none)

  pub wait_at : (es : List ((Stamp × ℕ) × SessionOp)) (i : ℕ) → IsFoundAt sought es i → count_by (waits (Some seen) prefix) (keys_of es) ≡ length es - i
  wait_at [] i h = absurd h
  wait_at (e ∷ es) zero h = let rest = wait_above es h.1 in let one = counted true e es (here e Equal h.0) in omega (arith, rest, one)
  wait_at (e ∷ es) (suc i) h = let rest = wait_at es i h.1 in let none = counted false e es (here e Less h.0) in omega (arith, rest, none)

-- all wait where no Take is there
pub wait_none : (prefix : ℕ) (es : List ((Stamp × ℕ) × SessionOp)) → count_by (waits None prefix) (keys_of es) ≡ length es
wait_none prefix [] = refl
wait_none prefix (e ∷ es) = let rest = wait_none prefix es in let one = sum_by-cons (λ (n : Stamp × ℕ). cond (waits None prefix n) 1 0) e.0 (keys_of es) in omega (arith, rest, one)

count_both : {A : Type 0} (test : A → Bool) (xs ys : List A) → count_by test (xs ++ ys) ≡ count_by test xs + count_by test ys
count_both test [] ys = let z : count_by test [] ≡ 0 = refl in omega (arith, z)
count_both test (x ∷ xs) ys =
    let rest = count_both test xs ys in
    let all = sum_by-cons (λ y. cond (test y) 1 0) x (xs ++ ys) in
    let one = sum_by-cons (λ y. cond (test y) 1 0) x xs in
    omega (arith, rest, all, one)

keys_both : (xs ys : List ((Stamp × ℕ) × SessionOp)) → keys_of (xs ++ ys) ≡ keys_of xs ++ keys_of ys
keys_both [] ys = refl
keys_both (x ∷ xs) ys = ap (λ ks. x.0 ∷ ks) (keys_both xs ys)

pub waiting_both : (test : Stamp × ℕ → Bool) (xs ys : List ((Stamp × ℕ) × SessionOp)) → count_by test (keys_of (xs ++ ys)) ≡ count_by test (keys_of xs) + count_by test (keys_of ys)
waiting_both test xs ys = ap (count_by test) (keys_both xs ys) ∙ count_both test (keys_of xs) (keys_of ys)

-- ---- those from a stamp on

module _ (s : Stamp) where
  abbrev before : (Stamp × ℕ) × SessionOp → Ordering
  before e = operation_cmp e.0 (s, 0)

  abbrev stays : (Stamp × ℕ) × SessionOp → Bool
  stays e = not (is_below e.0.0 (Some s))

  goes : (k : ℕ) (r : Ordering) → is_lt (ordering_then r (nat_cmp k 0)) ≡ true → is_lt r ≡ true
  goes k Less h = refl
  goes k Equal h = absurd (true≢false (sym h ∙ none_less k))
    where
      none_less : (k : ℕ) → is_lt (nat_cmp k 0) ≡ false
      none_less k = grind (arith, nat_tests)
  goes k Greater h = h

  falls : (e : (Stamp × ℕ) × SessionOp) → before e ≡ Less → stays e ≡ false
  falls e h = ap not (goes e.0.1 (stamp_cmp e.0.0 s) (ap is_lt h))

  passed : (e : (Stamp × ℕ) × SessionOp) (es : List ((Stamp × ℕ) × SessionOp)) → before e ≡ Less → filter stays es ≡ filter stays (e ∷ es)
  passed e es h = sym (ap (λ b. cond b (e ∷ filter stays es) (filter stays es)) (falls e h))

  -- what stands before the first of the stamp is below it
  pub stay_gap : (es : List ((Stamp × ℕ) × SessionOp)) (i : ℕ) → IsGap before es i → filter stays (drop i es) ≡ filter stays es
  stay_gap es zero h = refl
  stay_gap [] (suc i) h = absurd h
  stay_gap (e ∷ es) (suc i) h = stay_gap es i h.1 ∙ passed e es h.0

  pub stay_at : (es : List ((Stamp × ℕ) × SessionOp)) (i : ℕ) → IsFoundAt before es i → filter stays (drop i es) ≡ filter stays es
  stay_at [] i h = absurd h
  stay_at (e ∷ es) zero h = refl
  stay_at (e ∷ es) (suc i) h = stay_at es i h.1 ∙ passed e es h.0

-- all that is left from a place on
pub rest_is : {A : Type 0} (xs : List A) (i : ℕ) → take (length xs - i) (drop i xs) ≡ drop i xs
rest_is xs i = take_all (length xs - i) (drop i xs) (let n = length-drop i xs in omega (arith, n))

pub sorted_from : {K X : Type 0} (R : K → K → Ordering) (i : ℕ) (es more : List (K × X)) → T (is_sorted R (es ++ more)) → T (is_sorted R (drop i es ++ more))
sorted_from R zero es more h = h
sorted_from R (suc i) [] more h = h
sorted_from R (suc i) (e ∷ es) more h = sorted_from R i es more (second (below_all R e.0 (es ++ more)) (is_sorted R (es ++ more)) h)
