-- Reading values one after the other, of which each may stand after those before it, as a loop does.
use Rattle.std.proofs.Common.{◌≡◌, ℕ, zero, suc, ◌+◌, ◌-◌, ◌<◌, ◌≤◌, Bool, true, false, List, [], ◌∷◌, ◌++◌, length, Result, Ok, Err, Some, refl, sym, ap, ◌∙◌, arith}
use Rattle.std.specs.Prelude.{slice_get}
use Rattle.rep_op.specs.declared.fault.OpsFault.{OpsFault}
use Rattle.rep_op.specs.declared.fault.OpsFault.TheVariants as faults
use Rattle.rep_read.specs.Reading.{Reader, Fails}
use Rattle.rep_ops.specs.Reading.{follows_last, listed_at}

module _ {A : Type 0} (next : A → A → Bool) where
  follow_at : (front : List A) (k : ℕ) (last x : A) → suc k ≡ length front → slice_get front k ≡ Some last → follows_last next front x ≡ next last x
  follow_at [] k last x len e = absurd cc
  follow_at (a ∷ []) zero last x len e = let same : a ≡ last = cc in ap (λ (y : A). next y x) same
  follow_at (a ∷ []) (suc k) last x len e = absurd cc
  follow_at (a ∷ b ∷ more) zero last x len e = absurd (omega arith)
  follow_at (a ∷ b ∷ more) (suc k) last x len e = follow_at (b ∷ more) k last x (omega arith) e

  pub follow_last : (front : List A) (last x : A) → Some last ≡ slice_get front (length front - 1) → follows_last next front x ≡ next last x
  follow_last [] last x e = absurd cc
  follow_last (a ∷ more) last x e = follow_at (a ∷ more) (length (a ∷ more) - 1) last x (omega arith) (sym e)

module _ {A : Type 0} (read : Reader A) (follows : List A → A → Bool) where
  pub goes_on : (front : List A) (count i : ℕ) (bytes : List ℕ) (x : A) (after : List ℕ) (total : Result (List A × List ℕ) OpsFault) → i < count → read bytes ≡ Ok (x, after) → follows front x ≡ true
      → listed_at read follows (count - i) front bytes ≡ total → listed_at read follows (count - (i + 1)) (front ++ x ∷ []) after ≡ total
  unfolding listed_at
  goes_on front count i bytes x after total lt one fits so_far =
      let k : count - i ≡ suc (count - (i + 1)) = omega arith in
      let step : listed_at read follows (count - i) front bytes ≡ listed_at read follows (count - (i + 1)) (front ++ x ∷ []) after = rw (k, one, fits) refl in
      sym step ∙ so_far

  pub misplaced : (front : List A) (count i : ℕ) (bytes : List ℕ) (x : A) (after : List ℕ) (total : Result (List A × List ℕ) OpsFault) → i < count → read bytes ≡ Ok (x, after) → follows front x ≡ false
      → listed_at read follows (count - i) front bytes ≡ total → total ≡ Err faults.Order
  unfolding listed_at
  misplaced front count i bytes x after total lt one fits so_far =
      let k : count - i ≡ suc (count - (i + 1)) = omega arith in
      let step : listed_at read follows (count - i) front bytes ≡ Err faults.Order = rw (k, one, fits) refl in
      sym so_far ∙ step

  fails : (fault : OpsFault) (front : List A) (count i : ℕ) (bytes : List ℕ) (total : Result (List A × List ℕ) OpsFault) → i < count → read bytes ≡ Err fault
      → listed_at read follows (count - i) front bytes ≡ total → total ≡ Err fault
  unfolding listed_at
  fails fault front count i bytes total lt one so_far =
      let k : count - i ≡ suc (count - (i + 1)) = omega arith in
      let step : listed_at read follows (count - i) front bytes ≡ Err fault = rw (k, one) refl in
      sym so_far ∙ step

  pub ends : (fault : OpsFault) (front : List A) (count i : ℕ) (bytes : List ℕ) (total : Result (List A × List ℕ) OpsFault) → i < count
      → Fails fault (read bytes) → listed_at read follows (count - i) front bytes ≡ total → Fails fault total
  ends faults.Twice front count i bytes total lt h so_far = fails faults.Twice front count i bytes total lt h so_far
  ends faults.Limit front count i bytes total lt h so_far = fails faults.Limit front count i bytes total lt h so_far
  ends faults.Memory front count i bytes total lt h so_far = tt
  ends faults.Truncated front count i bytes total lt h so_far = fails faults.Truncated front count i bytes total lt h so_far
  ends faults.Version front count i bytes total lt h so_far = fails faults.Version front count i bytes total lt h so_far
  ends faults.Kind front count i bytes total lt h so_far = fails faults.Kind front count i bytes total lt h so_far
  ends faults.Order front count i bytes total lt h so_far = fails faults.Order front count i bytes total lt h so_far
  ends faults.Trailing front count i bytes total lt h so_far = fails faults.Trailing front count i bytes total lt h so_far

  pub is_done : (front : List A) (count i : ℕ) (bytes : List ℕ) (total : Result (List A × List ℕ) OpsFault) → count ≤ i → listed_at read follows (count - i) front bytes ≡ total → total ≡ Ok (front, bytes)
  unfolding listed_at
  is_done front count i bytes total le so_far =
      let k : count - i ≡ 0 = omega arith in
      let step : listed_at read follows (count - i) front bytes ≡ Ok (front, bytes) = rw k refl in
      sym so_far ∙ step
