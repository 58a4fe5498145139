-- Each step keeps the rule of the queue.
use Rattle.std.proofs.Common.{◌≡◌, ◌≢◌, ℕ, zero, suc, ◌+◌, ◌-◌, ◌<◌, ◌≤◌, List, [], ◌∷◌, ◌++◌, set, sym, refl, ap, ◌∙◌, subst, ⊎_elim, arith}
use mathlib.Core.Option.{some, some-injective, some-ne-none}
use lib.ListN.{get_elem?}
use Rattle.crossbeam_channel.specs.Fifo.{Pushes, Pops, Forks, Merges, Learns}
use Rattle.atomic_table.proofs.Lists.{at_set, at_snoc}
use Rattle.gw_serve.specs.declared.queue.Hand.{Hand}
use Rattle.gw_serve.specs.declared.queue.Datagram.{Datagram}
use Rattle.gw_serve.specs.Count.{weigh}
use Rattle.gw_serve.specs.inner.Queue.{hand, total, numbers, IdleIsEmpty, whole, Balanced}

pub weigh-append : (h : ℕ → ℕ) (xs ys : List ℕ) → weigh h (xs ++ ys) ≡ weigh h xs + weigh h ys
weigh-append h [] ys = omega arith
weigh-append h (x ∷ xs) ys = let r = weigh-append h xs ys in omega arith

numbers-snoc : (h : ℕ → ℕ) (items : List Datagram) (d : Datagram) → weigh h (numbers (items ++ d ∷ [])) ≡ weigh h (numbers items) + h d.number
numbers-snoc h [] d = omega arith
numbers-snoc h (x ∷ xs) d = let r = numbers-snoc h xs d in omega arith

-- the total after a change of one view
total_set : (f : Hand → ℕ) (views : List Hand) (port : ℕ) (v w : Hand) → get_elem? views port ≡ some v → total f (set views port w) + f v ≡ total f views + f w
total_set f [] port v w at = absurd (some-ne-none v (sym at))
total_set f (x ∷ xs) zero v w at = let e : x ≡ v = some-injective x v at in let q : f x ≡ f v = ap f e in omega arith
total_set f (x ∷ xs) (suc port) v w at = let r = total_set f xs port v w at in omega arith

total_snoc : (f : Hand → ℕ) (views : List Hand) (w : Hand) → total f (views ++ w ∷ []) ≡ total f views + f w
total_snoc f [] w = omega arith
total_snoc f (x ∷ xs) w = let r = total_snoc f xs w in omega arith

idle_set : (views : List Hand) (port : ℕ) (w : Hand) → (w.parts ≡ 0 → (w.sent ≡ []) × (w.taken ≡ [])) → IdleIsEmpty views → IdleIsEmpty (set views port w)
idle_set views port w mine all j u e none = ⊎_elim
    (λ (x : (j ≡ port) × (w ≡ u)). subst (λ (y : Hand). (y.sent ≡ []) × (y.taken ≡ [])) x.1 (mine (ap (λ (y : Hand). y.parts) x.1 ∙ none)))
    (λ (x : (j ≢ port) × (get_elem? views j ≡ some u)). all j u x.1 none) (at_set views port j w u e)

idle_snoc : (views : List Hand) (w : Hand) → (w.sent ≡ []) × (w.taken ≡ []) → IdleIsEmpty views → IdleIsEmpty (views ++ w ∷ [])
idle_snoc views w mine all j u e none = ⊎_elim (λ (x : get_elem? views j ≡ some u). all j u x none)
    (λ (x : w ≡ u). subst (λ (y : Hand). (y.sent ≡ []) × (y.taken ≡ [])) x mine) (at_snoc views w u j e)

idle_first : IdleIsEmpty (hand whole [] [] ∷ [])
idle_first zero v e none = let x = some-injective (hand whole [] []) v e in (sym (ap (λ (y : Hand). y.sent) x), sym (ap (λ (y : Hand). y.taken) x))
idle_first (suc port) v e none = absurd (some-ne-none v (sym e))

pub begins : Balanced [] (hand whole [] [] ∷ [])
begins = (omega arith, (λ h. omega arith), idle_first)

pub sends : (n port : ℕ) (v : Hand) (d : Datagram) → 0 < v.parts → Pushes Balanced n port v d (λ w. w ≡ hand v.parts (v.sent ++ d.number ∷ []) v.taken)
sends n port v d some_part items views room b at =
    let w : Hand = hand v.parts (v.sent ++ d.number ∷ []) v.taken in (
      w,
      (
        (let s = total_set (λ u. u.parts) views port v w at in let p = b.0 in omega arith),
        (λ h.
            let s = total_set (λ u. weigh h u.sent) views port v w at in
            let t = total_set (λ u. weigh h u.taken) views port v w at in
            let p = b.1 h in
            omega (arith, weigh-append h v.sent (d.number ∷ []), numbers-snoc h items d)),
        idle_set views port w (λ none. absurd (omega arith)) b.2,
      ),
      refl,
    )

pub takes : (port : ℕ) (v : Hand) → 0 < v.parts → Pops Balanced port v (λ d w. w ≡ hand v.parts v.sent (v.taken ++ d.number ∷ []))
takes port v some_part d items views b at =
    let w : Hand = hand v.parts v.sent (v.taken ++ d.number ∷ []) in (
      w,
      (
        (let s = total_set (λ u. u.parts) views port v w at in let p = b.0 in omega arith),
        (λ h.
            let s = total_set (λ u. weigh h u.sent) views port v w at in
            let t = total_set (λ u. weigh h u.taken) views port v w at in
            let p = b.1 h in
            omega (arith, weigh-append h v.taken (d.number ∷ []))),
        idle_set views port w (λ none. absurd (omega arith)) b.2,
      ),
      refl,
    )

pub forks : (port : ℕ) (v : Hand) → 1 < v.parts → Forks Balanced port v (hand (v.parts - 1) v.sent v.taken) (hand 1 [] [])
forks port v parts items views b at =
    let l : Hand = hand (v.parts - 1) v.sent v.taken in
    let r : Hand = hand 1 [] [] in (
      (let s = total_set (λ u. u.parts) views port v l at in let t = total_snoc (λ u. u.parts) (set views port l) r in let p = b.0 in omega arith),
      (λ h.
          let s = total_set (λ u. weigh h u.sent) views port v l at in
          let s' = total_snoc (λ u. weigh h u.sent) (set views port l) r in
          let t = total_set (λ u. weigh h u.taken) views port v l at in
          let t' = total_snoc (λ u. weigh h u.taken) (set views port l) r in
          let p = b.1 h in
          omega arith),
      idle_snoc (set views port l) r (refl, refl) (idle_set views port l (λ none. absurd (omega arith)) b.2),
    )

pub merges : (port : ℕ) (v : Hand) (other : ℕ) (u : Hand) → 0 < v.parts → Merges Balanced port v other u (hand (v.parts + u.parts) (v.sent ++ u.sent) (v.taken ++ u.taken)) (hand 0 [] [])
merges port v other u some_part items views b at apart at' =
    let both : Hand = hand (v.parts + u.parts) (v.sent ++ u.sent) (v.taken ++ u.taken) in
    let spent : Hand = hand 0 [] [] in
    let vs : List Hand = set views port both in (
      (let s = total_set (λ y. y.parts) views port v both at in let t = total_set (λ y. y.parts) vs other u spent at' in let p = b.0 in omega arith),
      (λ h.
          let s = total_set (λ y. weigh h y.sent) views port v both at in
          let s' = total_set (λ y. weigh h y.sent) vs other u spent at' in
          let t = total_set (λ y. weigh h y.taken) views port v both at in
          let t' = total_set (λ y. weigh h y.taken) vs other u spent at' in
          let p = b.1 h in
          omega (arith, weigh-append h v.sent u.sent, weigh-append h v.taken u.taken)),
      idle_set vs other spent (λ none. (refl, refl)) (idle_set views port both (λ none. absurd (omega arith)) b.2),
    )

part_within : (views : List Hand) (port : ℕ) (v : Hand) → get_elem? views port ≡ some v → v.parts ≤ total (λ u. u.parts) views
part_within [] port v at = absurd (some-ne-none v (sym at))
part_within (x ∷ xs) zero v at = let p : x.parts ≡ v.parts = ap (λ (y : Hand). y.parts) (some-injective x v at) in omega arith
part_within (x ∷ xs) (suc port) v at = let r = part_within xs port v at in omega arith

nothing_left : (f : Hand → ℕ) (views : List Hand) → total (λ u. u.parts) views ≡ 0 → ((j : ℕ) (u : Hand) → get_elem? views j ≡ some u → u.parts ≡ 0 → f u ≡ 0) → total f views ≡ 0
nothing_left f [] sum nought = refl
nothing_left f (x ∷ xs) sum nought =
    let z : f x ≡ 0 = nought 0 x refl (omega arith) in
    let r = nothing_left f xs (omega arith) (λ j u a none. nought (suc j) u a none) in
    omega arith

-- where one pass has every part, the others count for nothing
alone : (f : Hand → ℕ) (views : List Hand) (port : ℕ) (v : Hand) → get_elem? views port ≡ some v → total (λ u. u.parts) views ≡ v.parts
    → ((j : ℕ) (u : Hand) → get_elem? views j ≡ some u → u.parts ≡ 0 → f u ≡ 0) → total f views ≡ f v
alone f [] port v at sum nought = absurd (some-ne-none v (sym at))
alone f (x ∷ xs) zero v at sum nought =
    let e : x ≡ v = some-injective x v at in
    let p : x.parts ≡ v.parts = ap (λ (y : Hand). y.parts) e in
    let q : f x ≡ f v = ap f e in
    let r = nothing_left f xs (omega arith) (λ j u a none. nought (suc j) u a none) in
    omega arith
alone f (x ∷ xs) (suc port) v at sum nought =
    let le = part_within xs port v at in
    let z : f x ≡ 0 = nought 0 x refl (omega arith) in
    let r = alone f xs port v at (omega arith) (λ j u a none. nought (suc j) u a none) in
    omega arith

pub learns : (port : ℕ) (v : Hand) → v.parts ≡ whole → Learns Balanced port v (λ items. (h : ℕ → ℕ) → weigh h v.sent ≡ weigh h v.taken + weigh h (numbers items))
learns port v every items views b at h =
    let sum : total (λ u. u.parts) views ≡ v.parts = b.0 ∙ sym every in
    let s = alone (λ u. weigh h u.sent) views port v at sum (λ j u a none. ap (weigh h) (b.2 j u a none).0) in
    let t = alone (λ u. weigh h u.taken) views port v at sum (λ j u a none. ap (weigh h) (b.2 j u a none).1) in
    let p = b.1 h in
    omega arith

-- a call that learns nothing
pub learns_nothing : (port : ℕ) (v : Hand) → Learns Balanced port v (λ items. Unit {0})
learns_nothing port v items views b at = tt
