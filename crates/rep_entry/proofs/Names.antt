-- Messages in order, by their names; and new ones after them.
use Rattle.std.proofs.Common.{◌≡◌, ℕ, zero, suc, ◌-◌, ◌≤◌, ◌==◌, max, true, false, cond, if◌then◌else◌, List, [], ◌∷◌, ◌++◌, length, drop, get_or, slice_get, Some, None, refl, sym, ap, ◌∙◌, subst, arith, Ordering, Less, Equal, Greater, nat_cmp, true≢false}
use Rattle.std.proofs.lemmas.Bool.Decides.{nat_tests}
use Rattle.std.proofs.lemmas.Option.{slice_get-get_or}
use Rattle.std.specs.List.{AllByRecursion}
use Rattle.std.specs.Ordering.{is_eq, is_lt, ordering_reverse, ordering_then}
use Rattle.sn_tables.specs.inner.Tables.{AllAbove, IsFoundAt, IsGap}
use Rattle.sn_tables.proofs.Ascending.{Ascends}
use Rattle.rep_op.specs.declared.op.Put.{Put}
use Rattle.rep_op.specs.Orders.{name_of, put_cmp}
use Rattle.rep_model.specs.Fresh.{largest}
use Rattle.rep_model.proofs.Readers.{put_total}
use Rattle.rep_log.specs.Mail.{goes_before, front_before, rest_from, weave, IsLess, Rising, put_by_name}
use Rattle.rep_entry.specs.inner.Mail.{are_behind}
use Rattle.rep_entry.specs.inner.Numbers.{seq_from}

-- ---- by their names

by_name : Put → Put → Ordering
by_name p q = put_cmp (name_of p) (name_of q)

pub ascends : (ps : List Put) → Rising ps → Ascends (λ p q. put_cmp (name_of p) (name_of q)) ps
ascends [] h = tt
ascends (p ∷ ps) h = (h.0, ascends ps h.1)

module _ (q : ℕ × ℕ) where
  turned : (p : Put) (r : Ordering) → put_cmp (name_of p) q ≡ r → put_cmp q (name_of p) ≡ ordering_reverse r
  turned p r e = put_total.antisymm q (name_of p) ∙ ap ordering_reverse e

  none_above : (ps : List Put) → AllAbove (λ p. put_cmp (name_of p) q) ps → put_by_name q ps ≡ None
  none_above [] h = refl
  none_above (p ∷ ps) h = ap (λ r. cond (is_eq r) (Some p) (put_by_name q ps)) (turned p Greater h.0) ∙ none_above ps h.1

  pub named_gap : (ps : List Put) (i : ℕ) → IsGap (λ p. put_cmp (name_of p) q) ps i → put_by_name q ps ≡ None
  named_gap ps zero h = none_above ps h
  named_gap [] (suc i) h = absurd h
  named_gap (p ∷ ps) (suc i) h = ap (λ r. cond (is_eq r) (Some p) (put_by_name q ps)) (turned p Less h.0) ∙ named_gap ps i h.1

  pub named_at : (ps : List Put) (i : ℕ) (d : Put) → IsFoundAt (λ p. put_cmp (name_of p) q) ps i → put_by_name q ps ≡ Some (get_or ps i d)
  named_at [] i d h = absurd h
  named_at (p ∷ ps) zero d h = ap (λ r. cond (is_eq r) (Some p) (put_by_name q ps)) (turned p Equal h.0)
  named_at (p ∷ ps) (suc i) d h = ap (λ r. cond (is_eq r) (Some p) (put_by_name q ps)) (turned p Less h.0) ∙ named_at ps i d h.1

-- ---- the last of a gateway

pub not_after : (a b x y : ℕ) → ordering_then (nat_cmp a b) (nat_cmp x y) ≡ Less → a ≤ b
not_after a b x y h = below (nat_cmp a b) refl
  where
    below : (r : Ordering) → nat_cmp a b ≡ r → a ≤ b
    below Less e = let t : is_lt (nat_cmp a b) ≡ true = ap is_lt e in grind (arith, nat_tests)
    below Equal e = let t : is_eq (nat_cmp a b) ≡ true = ap is_eq e in grind (arith, nat_tests)
    below Greater e = absurd (true≢false (sym (ap is_lt (sym (ap (λ r. ordering_then r (nat_cmp x y)) e) ∙ h))))

at_most : (g : ℕ) (p : Put) → seq_from g p ≤ p.seq
at_most g p = elim (g == p.origin) as (λ b. (if b then p.seq else 0) ≤ p.seq) [ true ↦ omega arith | false ↦ omega arith ]

stands : (P : Put → Type 0) (ps : List Put) (i : ℕ) (p : Put) (rest : List Put) → drop i ps ≡ p ∷ rest → AllByRecursion P ps → P p
stands P [] zero p rest is h = no_first is
  where
    no_first : {X : Type 0} → [] ≡ p ∷ rest → X
    no_first e = cc
stands P [] (suc i) p rest is h = no_first is
  where
    no_first : {X : Type 0} → [] ≡ p ∷ rest → X
    no_first e = cc
stands P (x ∷ ps) zero p rest is h = subst P (first is) h.0
  where
    first : x ∷ ps ≡ p ∷ rest → x ≡ p
    first e = cc
stands P (x ∷ ps) (suc i) p rest is h = stands P ps i p rest is h.1

-- the last message of a gateway has its greatest number
pub last_is_greatest : (g : ℕ) (ps : List Put) (i : ℕ) (p : Put) (rest : List Put) → Rising ps → drop i ps ≡ p ∷ rest → p.origin ≡ g → largest (seq_from g) rest ≡ 0 → p.seq ≡ largest (seq_from g) ps
last_is_greatest g [] zero p rest h is own none = no_first is
  where
    no_first : {X : Type 0} → [] ≡ p ∷ rest → X
    no_first e = cc
last_is_greatest g [] (suc i) p rest h is own none = no_first is
  where
    no_first : {X : Type 0} → [] ≡ p ∷ rest → X
    no_first e = cc
last_is_greatest g (x ∷ ps) zero p rest h is own none =
    let same : (g == p.origin) ≡ true = grind (arith, nat_tests) in
    let own_seq : seq_from g p ≡ p.seq = ap (λ b. if b then p.seq else 0) same in
    let all : largest (seq_from g) (x ∷ ps) ≡ max (seq_from g p) (largest (seq_from g) rest) = ap (largest (seq_from g)) is in
    omega (arith, own_seq, all, none)
last_is_greatest g (x ∷ ps) (suc i) p rest h is own none =
    let later = last_is_greatest g ps i p rest h.1 is own none in
    let below = not_after x.seq p.seq x.origin p.origin (stands (IsLess x) ps i p rest is h.0) in
    let most = at_most g x in
    omega (arith, later, below, most)

pub none_of_it : (g : ℕ) (p : Put) (rest : List Put) → (p.origin ≡ g → ⊥) → largest (seq_from g) rest ≡ 0 → largest (seq_from g) (p ∷ rest) ≡ 0
none_of_it g p rest other none =
    let apart : (g == p.origin) ≡ false = grind (arith, nat_tests, other) in
    let here : seq_from g p ≡ 0 = ap (λ b. if b then p.seq else 0) apart in
    omega (arith, here, none)

-- ---- after those that wait

less : (r : Ordering) → is_lt r ≡ true → r ≡ Less
less Less e = refl
less Equal e = absurd (true≢false (sym e))
less Greater e = absurd (true≢false (sym e))

not_before : (p n : Put) → IsLess p n → goes_before n p ≡ false
not_before p n h = ap is_lt (put_total.antisymm (name_of n) (name_of p) ∙ ap ordering_reverse h)

weave_behind : (ps : List Put) (n : Put) (ns : List Put) → AllByRecursion (λ p. IsLess p n) ps → weave ps (n ∷ ns) ≡ ps ++ n ∷ ns
weave_behind [] n ns h = refl
weave_behind (p ∷ ps) n ns h =
    ap (λ b. (if b then n ∷ front_before p ns else []) ++ p ∷ weave ps (if b then rest_from p ns else n ∷ ns)) (not_before p n h.0)
    ∙ ap (λ rest. p ∷ rest) (weave_behind ps n ns h.1)

all_below : (ps : List Put) (k : ℕ) (last n : Put) → Rising ps → length ps ≡ suc k → slice_get ps k ≡ Some last → IsLess last n → AllByRecursion (λ p. IsLess p n) ps
all_below [] k last n h long is less = tt
all_below (p ∷ []) zero last n h long is less = (subst (λ x. IsLess x n) (sym (same is)) less, tt)
  where
    same : Some p ≡ Some last → p ≡ last
    same e = cc
all_below (p ∷ []) (suc k) last n h long is less = absurd (no_more k long)
  where
    no_more : (k : ℕ) → 1 ≡ suc (suc k) → ⊥
    no_more k e = omega (arith, e)
all_below (p ∷ q ∷ ps) zero last n h long is less = absurd (no_less (length ps) long)
  where
    no_less : (m : ℕ) → suc (suc m) ≡ 1 → ⊥
    no_less m e = omega (arith, e)
all_below (p ∷ q ∷ ps) (suc k) last n h long is less =
    let rest = all_below (q ∷ ps) k last n h.1 (omega (arith, long)) is less in
    (put_total.trans (name_of p) (name_of q) (name_of n) h.0.0 rest.0, rest)

none_last : (p : Put) (ps ns : List Put) → None ≡ slice_get (p ∷ ps) (length (p ∷ ps) - 1) → weave (p ∷ ps) ns ≡ (p ∷ ps) ++ ns
none_last p ps ns e = absurd (no_some (e ∙ slice_get-get_or (p ∷ ps) (length (p ∷ ps) - 1) p (omega arith)))
  where
    no_some : {x : Put} → None ≡ Some x → ⊥
    no_some e = cc

pub woven_none : (ps ns : List Put) → None ≡ slice_get ps (length ps - 1) → weave ps ns ≡ ps ++ ns
woven_none [] ns e = refl
woven_none (p ∷ ps) ns e = none_last p ps ns e

nothing_behind : (ps : List Put) → weave ps [] ≡ ps ++ []
nothing_behind [] = refl
nothing_behind (p ∷ ps) = ap (λ rest. p ∷ rest) (nothing_behind ps)

pub woven_behind : (ps ns : List Put) (last : Put) → Rising ps → slice_get ps (length ps - 1) ≡ Some last → are_behind last ns ≡ true → weave ps ns ≡ ps ++ ns
woven_behind ps [] last h is behind = nothing_behind ps
woven_behind [] (n ∷ ns) last h is behind = refl
woven_behind (p ∷ ps) (n ∷ ns) last h is behind =
    let at : slice_get (p ∷ ps) (length ps) ≡ Some last = ap (slice_get (p ∷ ps)) (one_less (length ps)) ∙ is in
    weave_behind (p ∷ ps) n ns (all_below (p ∷ ps) (length ps) last n h refl at (less (put_cmp (name_of last) (name_of n)) behind))
  where
    one_less : (m : ℕ) → m ≡ suc m - 1
    one_less m = omega arith
