-- What stands without a gap, after one more; and the greatest of a list.
use Rattle.std.proofs.Common.{◌≡◌, ℕ, zero, suc, ◌+◌, ◌<◌, ◌≤◌, true, false, List, [], ◌∷◌, ◌++◌, length, Option, Some, None, IfSome, IsSomeAnd, refl, sym, ap, ◌∙◌, true≢false, arith, Ordering, Less, Equal, Greater, is_lt, nat_cmp}
use Rattle.std.specs.Cmp.{IsTotalOrder}
use Rattle.std.specs.Ordering.{ordering_reverse, ordering_then}
use Rattle.std.proofs.lemmas.Cmp.{ranked}
use Rattle.std.proofs.lemmas.Map.Lookups.{CmpEqualImpliesEq}
use Rattle.sn_session.specs.declared.change.SessionOp.{SessionOp}
use Rattle.rep_op.specs.declared.op.Stamp.{Stamp}
use Rattle.rep_op.specs.Orders.{stamp_cmp}
use Rattle.rep_model.specs.Views.{gapless, then_more, greatest}
use Rattle.rep_model.proofs.Greatest.{has, greatest-has, greatest-reaches}

module _ (to : ℕ → Option SessionOp) where
  pub gapless-nothing : (room k : ℕ) → to k ≡ None → gapless to room k ≡ []
  unfolding gapless
  gapless-nothing zero k e = refl
  gapless-nothing (suc room) k e = ap (λ o. then_more o (gapless to room (k + 1))) e

  pub gapless-one : (x : SessionOp) (room k : ℕ) → to k ≡ Some x → to (k + 1) ≡ None → 0 < room → gapless to room k ≡ x ∷ []
  unfolding gapless
  gapless-one x zero k e end lt = absurd (omega (arith, lt))
  gapless-one x (suc room) k e end lt = ap (λ o. then_more o (gapless to room (k + 1))) e ∙ ap (λ xs. x ∷ xs) (gapless-nothing room (k + 1) end)

  -- n things stand without a gap from k on; one more is written after them
  pub gapless-more : (at : ℕ → Option SessionOp) (x : SessionOp) (room k n : ℕ) → length (gapless at room k) ≡ n → n < room → to (k + n) ≡ Some x → to (k + n + 1) ≡ None → ((j : ℕ) → ¬ (j ≡ k + n) → to j ≡ at j) → gapless to room k ≡ gapless at room k ++ x ∷ []
  unfolding gapless
  gapless-more at x zero k n l lt own end same = absurd (omega (arith, lt))
  gapless-more at x (suc room) k n l lt own end same =
      elim (at k) as (λ o. at k ≡ o → length (then_more o (gapless at room (k + 1))) ≡ n → then_more (to k) (gapless to room (k + 1)) ≡ then_more o (gapless at room (k + 1)) ++ x ∷ []) [
        | None ↦ λ _ m.
            let here : k + n ≡ k = omega (arith, m) in
            let next : k + 1 ≡ k + n + 1 = omega (arith, m) in
            ap (λ o. then_more o (gapless to room (k + 1))) (ap to (sym here) ∙ own)
            ∙ ap (λ xs. x ∷ xs) (gapless-nothing room (k + 1) (ap to next ∙ end))
        | Some y ↦ λ is m.
            let rest : ℕ = length (gapless at room (k + 1)) in
            let count : rest + 1 ≡ n = omega (arith, m) in
            let there : k + 1 + rest ≡ k + n = omega (arith, count) in
            let behind : k + 1 + rest + 1 ≡ k + n + 1 = omega (arith, count) in
            let first : to k ≡ Some y = same k (λ e. omega (arith, e, count)) ∙ is in
            ap (λ o. then_more o (gapless to room (k + 1))) first
            ∙ ap (λ xs. y ∷ xs) (gapless-more at x room (k + 1) rest refl (omega (arith, lt, count)) (ap to there ∙ own) (ap to behind ∙ end) (λ j apart. same j (λ e. apart (e ∙ sym there))))
      ] refl l

module _ {K : Type 0} (R : K → K → Ordering) (o : IsTotalOrder R) (exact : CmpEqualImpliesEq R) where
  level : (x y : K) (r : Ordering) → R x y ≡ r → is_lt (R x y) ≡ false → is_lt (R y x) ≡ false → R x y ≡ Equal
  level x y Less e p q = absurd (true≢false (sym (ap is_lt e) ∙ p))
  level x y Equal e p q = e
  level x y Greater e p q = absurd (true≢false (sym (ap is_lt (o.antisymm y x ∙ ap ordering_reverse e)) ∙ q))

  -- an element that no other is above
  pub greatest-is : (x : K) (xs : List K) → has R x xs ≡ true → ((y : K) → has R y xs ≡ true → is_lt (R x y) ≡ false) → greatest R xs ≡ Some x
  greatest-is x xs h above =
      elim (greatest R xs) as (λ p. IsSomeAnd p (λ g. is_lt (R g x) ≡ false) → IfSome p (λ g. has R g xs ≡ true) → p ≡ Some x) [
        | None ↦ λ r _. absurd r
        | Some g ↦ λ r there. ap Some (exact g x (level g x (R g x) refl r (above g there)))
      ] (greatest-reaches R o x xs h) (greatest-has R o xs)

lower : (x y : ℕ) (r q : Ordering) → r ≡ nat_cmp x y → is_lt (ordering_then r q) ≡ true → x ≤ y
lower x y Less q e h = let l = ranked x y Less e in omega (arith, l)
lower x y Equal q e h = let l = ranked x y Equal e in omega (arith, l)
lower x y Greater q e h = absurd (true≢false (sym h))

pub below-epoch : (a b : Stamp) → is_lt (stamp_cmp a b) ≡ true → a.epoch ≤ b.epoch
below-epoch a b h = lower a.epoch b.epoch (nat_cmp a.epoch b.epoch) (nat_cmp a.gateway b.gateway) refl h
