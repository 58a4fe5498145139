-- the place of what is in flight under a packet id
use Rattle.std.proofs.Common.{◌≡◌, ◌==◌, ℕ, zero, suc, ◌<◌, Bool, true, false, if◌then◌else◌, List, [], ◌∷◌, ◌++◌, length, take, drop, Option, Some, refl, sym, subst, arith}
use Rattle.std.specs.Prelude.{get_or, option_map, remove, slice_get}
use Rattle.br_core.specs.declared.item.Flight.{Flight}
use Rattle.br_core.specs.declared.item.Item.{Item}
use Rattle.br_core.specs.Sides.{item_in_flight, left_in_flight}

-- what is in a place, and what follows it
pub record IsAt (f : Flight) (flight : List Flight) (at : ℕ) : Type 0 where
  pub rest : drop at flight ≡ f ∷ drop (suc at) flight
  pub there : slice_get flight at ≡ Some f

pub is-at : (d : Flight) (flight : List Flight) (at : ℕ) → at < length flight → IsAt (get_or flight at d) flight at
is-at d [] at h = absurd (omega arith)
is-at d (f ∷ more) zero h = record { rest = refl; there = refl }
is-at d (f ∷ more) (suc at) h =
    let deeper = is-at d more at (omega arith) in
    record { rest = deeper.rest; there = deeper.there }

-- of a list that begins with the flight of this id
first-is : (c : Bool) (f : Flight) (id : ℕ) (more : List Flight) → c ≡ true → (if c then Some f.item else item_in_flight id more) ≡ Some f.item
first-is true f id more h = refl
first-is false f id more h = cc

first-left : (c : Bool) (f : Flight) (id : ℕ) (more : List Flight) → c ≡ true → (if c then more else f ∷ left_in_flight id more) ≡ more
first-left true f id more h = refl
first-left false f id more h = cc

pub found : (id : ℕ) (flight : List Flight) (at : ℕ) (f : Flight) → IsAt f flight at → (f.id == id) ≡ true
    → item_in_flight id (drop at flight) ≡ item_in_flight id flight → item_in_flight id flight ≡ option_map (λ (one : Flight). one.item) (slice_get flight at)
found id flight at f is same before =
    let P : List Flight → Type 0 = λ rest. item_in_flight id rest ≡ item_in_flight id flight in
    let Q : Option Flight → Type 0 = λ one. item_in_flight id flight ≡ option_map (λ (f : Flight). f.item) one in
    let R : Option Item → Type 0 = λ item. item ≡ item_in_flight id flight in
    let first : Some f.item ≡ item_in_flight id flight = subst R (first-is (f.id == id) f id (drop (suc at) flight) same) (subst P is.rest before) in
    subst Q (sym is.there) (sym first)

pub left : (id : ℕ) (flight : List Flight) (at : ℕ) (f : Flight) → IsAt f flight at → (f.id == id) ≡ true
    → left_in_flight id flight ≡ take at flight ++ left_in_flight id (drop at flight) → left_in_flight id flight ≡ remove flight at
left id flight at f is same before =
    let P : List Flight → Type 0 = λ rest. left_in_flight id flight ≡ take at flight ++ left_in_flight id rest in
    let Q : List Flight → Type 0 = λ rest. left_in_flight id flight ≡ take at flight ++ rest in
    subst Q (first-left (f.id == id) f id (drop (suc at) flight) same) (subst P is.rest before)
