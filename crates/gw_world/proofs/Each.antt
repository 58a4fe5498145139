-- What holds of each operation of a field, and goes on holding when a gateway takes more.
use Rattle.std.proofs.Common.{◌≡◌, ℕ, zero, suc, ◌⊎◌, List, [], ◌∷◌, ◌++◌, set, flat_map, slice_get, Some, refl, sym, subst, inl, inr}
use Rattle.std.specs.List.{AllByRecursion}
use Rattle.std.proofs.lemmas.Option.{none-some, same_Some}
use Rattle.rep_op.specs.declared.op.Op.{Op}
use Rattle.rep_model.proofs.Joins.{all-left, all-right}
use Rattle.sn_plan.proofs.Lists.{all-append, all-weaken}
use Rattle.gw_event.specs.Gateways.{Gateway}
use Rattle.gw_world.specs.Field.{Field}
use Rattle.gw_world.specs.Whole.{listed, everything}

pub all-at : {A : Type 0} (P : A → Type 0) (xs : List A) (k : ℕ) (x : A) → AllByRecursion P xs → slice_get xs k ≡ Some x → P x
all-at P [] k x h e = absurd (none-some x e)
all-at P (y ∷ xs) zero x h e = subst P (same_Some y x e) h.0
all-at P (y ∷ xs) (suc k) x h e = all-at P xs k x h.1 e

pub all-places : {A : Type 0} (P : A → Type 0) (xs : List A) → ((k : ℕ) (x : A) → slice_get xs k ≡ Some x → P x) → AllByRecursion P xs
all-places P [] f = tt
all-places P (x ∷ xs) f = (f zero x refl, all-places P xs (λ k y e. f (suc k) y e))

all-flat : {A B : Type 0} (P : B → Type 0) (f : A → List B) (xs : List A) → AllByRecursion (λ x. AllByRecursion P (f x)) xs → AllByRecursion P (flat_map f xs)
all-flat P f [] h = tt
all-flat P f (x ∷ xs) h = all-append P (f x) (flat_map f xs) h.0 (all-flat P f xs h.1)

pub flat-all : {A B : Type 0} (P : B → Type 0) (f : A → List B) (xs : List A) → AllByRecursion P (flat_map f xs) → AllByRecursion (λ x. AllByRecursion P (f x)) xs
flat-all P f [] h = tt
flat-all P f (x ∷ xs) h = (all-left P (f x) (flat_map f xs) h, flat-all P f xs (all-right P (f x) (flat_map f xs) h))

-- after the gateway at i became next, each is next or as it was
pub set-cases : (i j : ℕ) (gs : List Gateway) (next gateway : Gateway) → slice_get (set gs i next) j ≡ Some gateway → (gateway ≡ next) ⊎ (slice_get gs j ≡ Some gateway)
set-cases i j [] next gateway e = absurd (none-some gateway e)
set-cases zero zero (g ∷ gs) next gateway e = inl (sym (same_Some next gateway e))
set-cases zero (suc j) (g ∷ gs) next gateway e = inr e
set-cases (suc i) zero (g ∷ gs) next gateway e = inr e
set-cases (suc i) (suc j) (g ∷ gs) next gateway e = set-cases i j gs next gateway e

abbrev pub AllOf : (Op → Type 0) → List (List Op) → Type 0
AllOf P deltas = AllByRecursion (λ (delta : List Op). AllByRecursion P delta) deltas

-- of each operation that a gateway has taken, and of each in a delta
pub record EachOf (P : Op → Type 0) (gateways : List Gateway) (deltas : List (List Op)) : Type 0 where
  pub sets : (j : ℕ) (gateway : Gateway) → slice_get gateways j ≡ Some gateway → AllByRecursion P gateway.taken
  pub lists : AllOf P deltas

pub each-weaken : (P Q : Op → Type 0) → ((op : Op) → P op → Q op) → (gs : List Gateway) (deltas : List (List Op)) → EachOf P gs deltas → EachOf Q gs deltas
each-weaken P Q f gs deltas e = record {
  sets = λ j gateway there. all-weaken P Q f gateway.taken (e.sets j gateway there);
  lists = all-weaken (λ (delta : List Op). AllByRecursion P delta) (λ (delta : List Op). AllByRecursion Q delta) (λ delta h. all-weaken P Q f delta h) deltas e.lists;
}

-- the gateway at i took more, and deltas were made
pub each-grown : (P : Op → Type 0) (gs : List Gateway) (deltas : List (List Op)) (i : ℕ) (old next : Gateway) (more : List Op) (made : List (List Op))
    → slice_get gs i ≡ Some old → next.taken ≡ old.taken ++ more → AllByRecursion P more → AllOf P made → EachOf P gs deltas → EachOf P (set gs i next) (deltas ++ made)
each-grown P gs deltas i old next more made is taken news listed e = record {
  sets = λ j gateway there. elim (set-cases i j gs next gateway there) [
    | inl own ↦ subst (λ (g : Gateway). AllByRecursion P g.taken) (sym own) (subst (λ T. AllByRecursion P T) (sym taken) (all-append P old.taken more (e.sets i old is) news))
    | inr other ↦ e.sets j gateway other
  ];
  lists = all-append (λ (delta : List Op). AllByRecursion P delta) deltas made e.lists listed;
}

abbrev taken_by : Field → List Op
taken_by field = flat_map (λ (gateway : Gateway). gateway.taken) field.gateways

pub each-all : (P : Op → Type 0) (field : Field) → EachOf P field.gateways field.deltas → AllByRecursion P (everything field)
each-all P field e = all-append P (taken_by field) (listed field)
    (all-flat P (λ (gateway : Gateway). gateway.taken) field.gateways (all-places (λ (gateway : Gateway). AllByRecursion P gateway.taken) field.gateways e.sets))
    (all-flat P (λ (delta : List Op). delta) field.deltas e.lists)

pub all-each : (P : Op → Type 0) (field : Field) → AllByRecursion P (everything field) → EachOf P field.gateways field.deltas
all-each P field h = record {
  sets = λ j gateway there. all-at (λ (g : Gateway). AllByRecursion P g.taken) field.gateways j gateway (flat-all P (λ (g : Gateway). g.taken) field.gateways (all-left P (taken_by field) (listed field) h)) there;
  lists = flat-all P (λ (delta : List Op). delta) field.deltas (all-right P (taken_by field) (listed field) h);
}
