-- The messages that wait, as a list: exactly those that are found under their names, each once, in the order of delivery.
use Rattle.std.proofs.Common.{◌≡◌, ℕ, Bool, true, false, cond, ◌&&◌, ◌↔◌, ◌⊎◌, inl, inr, T, List, [], ◌∷◌, map, Option, Some, None, is_some, Contains, refl, sym, ap, ◌∙◌, subst, true≢false, Ordering, Less, Equal, Greater, is_eq, is_lt, arith}
use Rattle.std.specs.List.{AllByRecursion}
use Rattle.std.specs.List.Sorted.{IsStrictlySortedBy}
use Rattle.std.specs.Ordering.{eq_by_cmp}
use Rattle.std.specs.FinMap.{find}
use Rattle.std.specs.FinMap.Entries.{below_all, is_sorted}
use Rattle.std.proofs.lemmas.Cmp.{tied_itself}
use Rattle.std.proofs.lemmas.Map.Views.{tells_apart}
use Rattle.std.proofs.lemmas.List.Elements.{Contains-push, Contains-push_cases, Contains-append_left, Contains-append_right, Contains-append_cases}
use Rattle.rep_op.specs.declared.op.Put.{Put}
use Rattle.rep_op.specs.declared.op.Op.{Op}
use Rattle.rep_op.specs.Orders.{put_cmp}
use Rattle.rep_op.specs.Sets.{is_acknowledged, Within}
use Rattle.rep_model.specs.Views.{pending_at, pending}
use Rattle.rep_model.proofs.Readers.{put_total, put_exact}
use Rattle.rep_model.proofs.Waiting.{AreUnderNames, waiting_entries, waiting_under, waiting_sorted, waiting_found}
use Rattle.rep_model.proofs.Joins.{pending-leaves}

abbrev name : Put → ℕ × ℕ
name p = (p.seq, p.origin)

first : (a b : Bool) → T (a && b) → T a
first true b p = tt
first false b p = p

second : (a b : Bool) → T (a && b) → T b
second true b p = p
second false b p = absurd p

less : (r : Ordering) → T (is_lt r) → r ≡ Less
less Less p = refl
less Equal p = absurd p
less Greater p = absurd p

-- ---- each message that is found is listed

abbrev the : (o : Option Put) (p : Put) → Put
the None p = p
the (Some q) p = q

some_is : (q v : Put) → Some q ≡ Some v → q ≡ v
some_is q v h = ap (λ o. the o q) h

head : (x : Put) (xs : List Put) → Contains (x ∷ xs) x
head x xs = Contains-append_left (x ∷ []) xs x (Contains-push [] x)

find_listed : (es : List ((ℕ × ℕ) × Put)) (q : ℕ × ℕ) (v : Put) → find put_cmp q es ≡ Some v → Contains (map (λ e. e.1) es) v
find_listed [] q v h = absurd (true≢false (sym (ap is_some h)))
find_listed (e ∷ es) q v h =
    elim (eq_by_cmp put_cmp q e.0) as (λ b. cond b (Some e.1) (find put_cmp q es) ≡ Some v → Contains (e.1 ∷ map (λ e. e.1) es) v) [
      | true ↦ λ w. subst (Contains (e.1 ∷ map (λ e. e.1) es)) (some_is e.1 v w) (head e.1 (map (λ e. e.1) es))
      | false ↦ λ w. Contains-append_right (e.1 ∷ []) (map (λ e. e.1) es) v (find_listed es q v w)
    ] h

-- ---- each message that is listed is found under its name

apart : (k q : ℕ × ℕ) → T (is_lt (put_cmp k q)) → eq_by_cmp put_cmp q k ≡ false
apart k q h =
    elim (eq_by_cmp put_cmp q k) as (λ b. eq_by_cmp put_cmp q k ≡ b → b ≡ false) [
      | true ↦ λ e. absurd (subst T (ap (λ x. is_lt (put_cmp k x)) (tells_apart put_exact q k e) ∙ ap is_lt (tied_itself put_total k)) h)
      | false ↦ λ _. refl
    ] refl

below_found : (k q : ℕ × ℕ) (v : Put) (es : List ((ℕ × ℕ) × Put)) → T (below_all put_cmp k es) → find put_cmp q es ≡ Some v → T (is_lt (put_cmp k q))
below_found k q v [] b h = absurd (true≢false (sym (ap is_some h)))
below_found k q v (e ∷ es) b h =
    elim (eq_by_cmp put_cmp q e.0) as (λ t. eq_by_cmp put_cmp q e.0 ≡ t → cond t (Some e.1) (find put_cmp q es) ≡ Some v → T (is_lt (put_cmp k q))) [
      | true ↦ λ t _. subst (λ x. T (is_lt (put_cmp k x))) (sym (tells_apart put_exact q e.0 t)) (first (is_lt (put_cmp k e.0)) (below_all put_cmp k es) b)
      | false ↦ λ _ w. below_found k q v es (second (is_lt (put_cmp k e.0)) (below_all put_cmp k es) b) w
    ] refl h

itself : (k : ℕ × ℕ) → eq_by_cmp put_cmp k k ≡ true
itself k = ap is_eq (tied_itself put_total k)

nothing_there : (v : Put) → Contains [] v → ⊥
nothing_there v h = omega (arith, h.1)

listed_find : (es : List ((ℕ × ℕ) × Put)) → T (is_sorted put_cmp es) → AreUnderNames es → (v : Put) → Contains (map (λ e. e.1) es) v → find put_cmp (name v) es ≡ Some v
listed_find [] sorted all v h = absurd (nothing_there v h)
listed_find (e ∷ es) sorted all v h =
    elim (Contains-append_cases (e.1 ∷ []) (map (λ e. e.1) es) v h) [
      | inl a ↦ elim (Contains-push_cases [] e.1 v a) [
        | inl n ↦ absurd (nothing_there v n)
        | inr is ↦
            let same : name v ≡ e.0 = sym (ap name is) ∙ sym all.0 in
            ap (λ k. cond (eq_by_cmp put_cmp k e.0) (Some e.1) (find put_cmp (name v) es)) same ∙ ap (λ b. cond b (Some e.1) (find put_cmp (name v) es)) (itself e.0) ∙ ap Some is
      ]
      | inr b ↦
          let w = listed_find es (second (below_all put_cmp e.0 es) (is_sorted put_cmp es) sorted) all.1 v b in
          let l = below_found e.0 (name v) v es (first (below_all put_cmp e.0 es) (is_sorted put_cmp es) sorted) w in
          ap (λ t. cond t (Some e.1) (find put_cmp (name v) es)) (apart e.0 (name v) l) ∙ w
    ]

pub pending-listed : (c : List ℕ) (S : List Op) (p : Put) → Contains (pending c S) p ↔ (pending_at c S (p.seq, p.origin) ≡ Some p)
pending-listed c S p = (
  λ h. sym (waiting_found c S (name p)) ∙ listed_find (waiting_entries c S) (waiting_sorted c S) (waiting_under c S) p h,
  λ h. find_listed (waiting_entries c S) (name p) p (waiting_found c S (name p) ∙ h),
)

-- ---- in order, each once

below_puts : (k : ℕ × ℕ) (es : List ((ℕ × ℕ) × Put)) → T (below_all put_cmp k es) → AreUnderNames es → AllByRecursion (λ y. put_cmp k (name y) ≡ Less) (map (λ e. e.1) es)
below_puts k [] h all = tt
below_puts k (e ∷ es) h all = (ap (put_cmp k) (sym all.0) ∙ less (put_cmp k e.0) (first (is_lt (put_cmp k e.0)) (below_all put_cmp k es) h), below_puts k es (second (is_lt (put_cmp k e.0)) (below_all put_cmp k es) h) all.1)

sorted_puts : (es : List ((ℕ × ℕ) × Put)) → T (is_sorted put_cmp es) → AreUnderNames es → IsStrictlySortedBy (λ a b. put_cmp (name a) (name b)) (map (λ e. e.1) es)
unfolding IsStrictlySortedBy
sorted_puts [] h all = tt
sorted_puts (e ∷ es) h all = (
  subst (λ k. AllByRecursion (λ y. put_cmp k (name y) ≡ Less) (map (λ e. e.1) es)) all.0 (below_puts e.0 es (first (below_all put_cmp e.0 es) (is_sorted put_cmp es) h) all.1),
  sorted_puts es (second (below_all put_cmp e.0 es) (is_sorted put_cmp es) h) all.1,
)

pub pending-ascend : (c : List ℕ) (S : List Op) → IsStrictlySortedBy (λ (a b : Put). put_cmp (a.seq, a.origin) (b.seq, b.origin)) (pending c S)
pending-ascend c S = sorted_puts (waiting_entries c S) (waiting_sorted c S) (waiting_under c S)

-- what waits in a part waits in the whole, or the whole has its acknowledgement
pub pending-stay : (c : List ℕ) (S W : List Op) (p : Put) → Within S W → Contains (pending c S) p → Contains (pending c W) p ⊎ (is_acknowledged c W (p.seq, p.origin) ≡ true)
pending-stay c S W p within h =
    elim (pending-leaves S W within c (name p) p ((pending-listed c S p).0 h)) [
      | inl w ↦ inl ((pending-listed c W p).1 w)
      | inr a ↦ inr a
    ]
