-- In a delta what is retained of topics stands after all operations of clients.
use Rattle.std.proofs.Common.{◌≡◌, ℕ, zero, suc, ◌<◌, ◌≤◌, true, List, [], ◌∷◌, length, get_or, take, drop, refl, arith}
use Rattle.std.specs.List.{AllByRecursion}
use Rattle.std.specs.List.Sorted.{IsPartitionedBy}
use Rattle.std.specs.declared.cmp.Ordering.TheVariants.{Less}
use Rattle.rep_op.specs.declared.op.Op.{Op}
use Rattle.rep_op.specs.declared.op.Op.TheVariants.{Session as OfSession, Put as OfPut, Ack, Retain as OfRetain}
use Rattle.rep_op.specs.Orders.{name_cmp, is_of_client}
use Rattle.rep_ops.specs.Deltas.{IsDelta}
use Rattle.rep_ops.proofs.Joined.{rising_ascending}
use Rattle.rep_ops.proofs.Rising.{Past, Rising}

-- what is below an operation of a client is one of a client
below_client : (a b : Op) → name_cmp a b ≡ Less → is_of_client b ≡ true → is_of_client a ≡ true
below_client (OfSession c s i o) b e h = refl
below_client (OfPut c p) b e h = refl
below_client (Ack c r f l) b e h = refl
below_client (OfRetain t k) (OfSession d i j o) e h = absurd cc
below_client (OfRetain t k) (OfPut d q) e h = absurd cc
below_client (OfRetain t k) (Ack d r f l) e h = absurd cc
below_client (OfRetain t k) (OfRetain u l) e h = absurd cc

all_get : (P : Op → Type 0) (S : List Op) (i : ℕ) (d : Op) → AllByRecursion P S → i < length S → P (get_or S i d)
all_get P [] i d h lt = absurd (omega (arith, lt))
all_get P (x ∷ S) zero d h lt = h.0
all_get P (x ∷ S) (suc i) d h lt = all_get P S i d h.1 (omega (arith, lt))

one_more : (x : Op) (S : List Op) → AllByRecursion (Past 1 x) S → IsPartitionedBy is_of_client S → (i j : ℕ) (d : Op) → i ≤ j → j < length (x ∷ S) → is_of_client (get_or (x ∷ S) j d) ≡ true → is_of_client (get_or (x ∷ S) i d) ≡ true
one_more x S past rest zero zero d le lt e = e
one_more x S past rest zero (suc j) d le lt e = below_client x (get_or S j d) (all_get (Past 1 x) S j d past (omega (arith, lt))).below e
one_more x S past rest (suc i) zero d le lt e = absurd (omega (arith, le))
one_more x S past rest (suc i) (suc j) d le lt e = rest i j d (omega (arith, le)) (omega (arith, lt)) e

rising_parted : (S : List Op) → Rising 1 S → IsPartitionedBy is_of_client S
rising_parted [] h = λ i j d le lt e. absurd (omega (arith, lt))
rising_parted (x ∷ S) h = one_more x S h.0 (rising_parted S h.1)

pub delta_parted : (S : List Op) → IsDelta S → IsPartitionedBy is_of_client S
delta_parted S h = rising_parted S (rising_ascending S h.well_made h.ascending)

-- what holds at each place in front, or at each other one
module _ (P : Op → Type 0) where
  pub all_take : (S : List Op) (at : ℕ) → ((j : ℕ) (d : Op) → j < at → P (get_or S j d)) → AllByRecursion P (take at S)
  all_take [] zero h = tt
  all_take [] (suc at) h = tt
  all_take (x ∷ S) zero h = tt
  all_take (x ∷ S) (suc at) h = (h zero x (omega arith), all_take S at (λ j d lt. h (suc j) d (omega (arith, lt))))

  pub all_drop : (S : List Op) (at : ℕ) → ((j : ℕ) (d : Op) → at ≤ j → j < length S → P (get_or S j d)) → AllByRecursion P (drop at S)
  all_drop [] zero h = tt
  all_drop [] (suc at) h = tt
  all_drop (x ∷ S) zero h = (h zero x (omega arith) (omega arith), all_drop S zero (λ j d from lt. h (suc j) d (omega arith) (omega (arith, lt))))
  all_drop (x ∷ S) (suc at) h = all_drop S at (λ j d from lt. h (suc j) d (omega (arith, from)) (omega (arith, lt)))
