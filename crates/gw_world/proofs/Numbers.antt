-- The gateway of a number: the first that has it, before and after one gateway became another.
use Rattle.std.proofs.Common.{◌≡◌, ℕ, zero, suc, ◌+◌, ◌==◌, true, false, ◌⊎◌, if◌then◌else◌, List, [], ◌∷◌, set, slice_get, Some, refl, sym, ap, ◌∙◌, subst, true≢false, inl, inr, arith, eqb-true, eq-eqb}
use Rattle.std.proofs.lemmas.Option.{none-some, same_Some}
use Rattle.gw_world.specs.Places.{place_from, place_of}
use Rattle.gw_event.specs.Gateways.{Gateway}

abbrev pub First : ℕ → List Gateway → ℕ → Type 0
First n [] j = ⊥
First n (g ∷ gs) zero = (g.config.gateway == n) ≡ true
First n (g ∷ gs) (suc j) = ((g.config.gateway == n) ≡ false) × First n gs j

pub place-first : (n k i : ℕ) (gs : List Gateway) → place_from n k gs ≡ Some i → (j : ℕ) × (i ≡ k + j) × First n gs j
place-first n k i [] e = absurd (none-some i e)
place-first n k i (g ∷ gs) e =
    elim (g.config.gateway == n) as (λ b. (g.config.gateway == n) ≡ b → (if b then Some k else place_from n (k + 1) gs) ≡ Some i → (j : ℕ) × (i ≡ k + j) × First n (g ∷ gs) j) [
      | true ↦ λ t s. let same : k ≡ i = same_Some k i s in (zero, omega (arith, same), t)
      | false ↦ λ f s. let r = place-first n (k + 1) i gs s in let at : i ≡ k + 1 + r.0 = r.1 in (suc r.0, omega (arith, at), (f, r.2))
    ] refl e

pub place_of-first : (n i : ℕ) (gs : List Gateway) → place_of n gs ≡ Some i → First n gs i
place_of-first n i gs e = let r = place-first n 0 i gs e in let same : r.0 ≡ i = omega (arith, r.1) in subst (λ j. First n gs j) same r.2

pub first-number : (n j : ℕ) (gs : List Gateway) (gateway : Gateway) → First n gs j → slice_get gs j ≡ Some gateway → gateway.config.gateway ≡ n
first-number n j [] gateway f e = absurd f
first-number n zero (g ∷ gs) gateway f e = ap (λ (x : Gateway). x.config.gateway) (sym (same_Some g gateway e)) ∙ eqb-true g.config.gateway n f
first-number n (suc j) (g ∷ gs) gateway f e = first-number n j gs gateway f.1 e

apart : (x n m : ℕ) → (x == n) ≡ true → (x == m) ≡ false → ¬ (m ≡ n)
apart x n m t f e = true≢false (sym (eq-eqb x m (eqb-true x n t ∙ sym e)) ∙ f)

-- after the gateway at i, the first of n, became next: the first of m is next, or it is as it was and m is another number
pub first-set : (n m i j : ℕ) (gs : List Gateway) (old next gateway : Gateway) → First n gs i → slice_get gs i ≡ Some old → next.config ≡ old.config → First m (set gs i next) j → slice_get (set gs i next) j ≡ Some gateway → ((m ≡ n) × (gateway ≡ next)) ⊎ ((¬ (m ≡ n)) × First m gs j × (slice_get gs j ≡ Some gateway))
first-set n m i j [] old next gateway f is c h e = absurd f
first-set n m zero zero (g ∷ gs) old next gateway f is c h e =
    let number : next.config.gateway ≡ g.config.gateway = ap (λ x. x.gateway) c ∙ ap (λ (x : Gateway). x.config.gateway) (sym (same_Some g old is)) in
    inl (sym (eqb-true next.config.gateway m h) ∙ number ∙ eqb-true g.config.gateway n f, sym (same_Some next gateway e))
first-set n m zero (suc j) (g ∷ gs) old next gateway f is c h e =
    let number : next.config.gateway ≡ g.config.gateway = ap (λ x. x.gateway) c ∙ ap (λ (x : Gateway). x.config.gateway) (sym (same_Some g old is)) in
    let other : (g.config.gateway == m) ≡ false = ap (λ x. x == m) (sym number) ∙ h.0 in
    inr (apart g.config.gateway n m f other, (other, h.1), e)
first-set n m (suc i) zero (g ∷ gs) old next gateway f is c h e = inr (λ same. apart g.config.gateway m n h f.0 (sym same), h, e)
first-set n m (suc i) (suc j) (g ∷ gs) old next gateway f is c h e =
    elim (first-set n m i j gs old next gateway f.1 is c h.1 e) [
      | inl own ↦ inl own
      | inr rest ↦ inr (rest.0, (h.0, rest.1), rest.2)
    ]

-- a number has one first gateway, and events find it
pub first-one : (n j k : ℕ) (gs : List Gateway) → First n gs j → First n gs k → j ≡ k
first-one n j k [] f h = absurd f
first-one n zero zero (g ∷ gs) f h = refl
first-one n zero (suc k) (g ∷ gs) f h = absurd (true≢false (sym f ∙ h.0))
first-one n (suc j) zero (g ∷ gs) f h = absurd (true≢false (sym h ∙ f.0))
first-one n (suc j) (suc k) (g ∷ gs) f h = ap suc (first-one n j k gs f.1 h.1)

first-from : (n k j : ℕ) (gs : List Gateway) → First n gs j → place_from n k gs ≡ Some (k + j)
first-from n k j [] f = absurd f
first-from n k zero (g ∷ gs) f = let at : k ≡ k + 0 = omega arith in ap (λ b. if b then Some k else place_from n (k + 1) gs) f ∙ ap Some at
first-from n k (suc j) (g ∷ gs) f = let at : k + 1 + j ≡ k + suc j = omega arith in ap (λ b. if b then Some k else place_from n (k + 1) gs) f.0 ∙ first-from n (k + 1) j gs f.1 ∙ ap Some at

pub first-place_of : (n j : ℕ) (gs : List Gateway) → First n gs j → place_of n gs ≡ Some j
first-place_of n j gs f = let at : 0 + j ≡ j = omega arith in first-from n 0 j gs f ∙ ap Some at

-- after the gateway at i became next with the same number: the first of m stays, and is as it was or is next
pub first-kept : (m i j : ℕ) (gs : List Gateway) (old next gateway : Gateway) → slice_get gs i ≡ Some old → next.config ≡ old.config → First m gs j → slice_get gs j ≡ Some gateway → First m (set gs i next) j × ((slice_get (set gs i next) j ≡ Some gateway) ⊎ ((gateway ≡ old) × (slice_get (set gs i next) j ≡ Some next)))
first-kept m i j [] old next gateway is c f e = absurd f
first-kept m zero zero (g ∷ gs) old next gateway is c f e =
    let number : next.config.gateway ≡ g.config.gateway = ap (λ x. x.gateway) c ∙ ap (λ (x : Gateway). x.config.gateway) (sym (same_Some g old is)) in
    (ap (λ x. x == m) number ∙ f, inr (sym (same_Some g gateway e) ∙ same_Some g old is, refl))
first-kept m zero (suc j) (g ∷ gs) old next gateway is c f e =
    let number : next.config.gateway ≡ g.config.gateway = ap (λ x. x.gateway) c ∙ ap (λ (x : Gateway). x.config.gateway) (sym (same_Some g old is)) in
    ((ap (λ x. x == m) number ∙ f.0, f.1), inl e)
first-kept m (suc i) zero (g ∷ gs) old next gateway is c f e = (f, inl e)
first-kept m (suc i) (suc j) (g ∷ gs) old next gateway is c f e = let r = first-kept m i j gs old next gateway is c f.1 e in ((f.0, r.0), r.1)

pub set-there : (i : ℕ) (gs : List Gateway) (old next : Gateway) → slice_get gs i ≡ Some old → slice_get (set gs i next) i ≡ Some next
set-there i [] old next e = absurd (none-some old e)
set-there zero (g ∷ gs) old next e = refl
set-there (suc i) (g ∷ gs) old next e = set-there i gs old next e
