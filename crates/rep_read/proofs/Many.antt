-- Reading entries one after the other, as a loop does.
use Rattle.std.proofs.Common.{◌≡◌, ℕ, zero, suc, ◌+◌, ◌-◌, ◌<◌, ◌≤◌, true, false, List, [], ◌∷◌, ◌++◌, length, Result, Ok, Err, refl, sym, ap, subst, cond, ◌∙◌, inl, inr, arith}
use Rattle.std.proofs.lemmas.Bool.{cases_Bool, leb-true}
use Rattle.std.proofs.lemmas.List.{length-append}
use Rattle.std.specs.Prelude.{nat_le}
use Rattle.std.specs.declared.cmp.Ordering.{Ordering}
use Rattle.sn_tables.specs.Tables.{is_ascending, IsTable}
use Rattle.rep_op.specs.declared.fault.OpsFault.{OpsFault}
use Rattle.rep_op.specs.declared.fault.OpsFault.TheVariants as faults
use Rattle.std.specs.Int.{w16}
use Rattle.rep_read.specs.Reading.{Reader, Fails, ranged, number_at, many_at, table_at}
use Rattle.rep_read.proofs.Laws.{bind_ok, guard_ok, ok_is}

pub many_goes_on : {A : Type 0} (read : Reader A) (front : List A) (count i : ℕ) (bytes : List ℕ) (x : A) (after : List ℕ) (total : Result (List A × List ℕ) OpsFault) → i < count → read bytes ≡ Ok (x, after)
    → many_at read (count - i) front bytes ≡ total → many_at read (count - (i + 1)) (front ++ x ∷ []) after ≡ total
many_goes_on read front count i bytes x after total lt one so_far =
    let k : count - i ≡ suc (count - (i + 1)) = omega arith in
    let step : many_at read (count - i) front bytes ≡ many_at read (count - (i + 1)) (front ++ x ∷ []) after = rw (k, one) refl in
    sym step ∙ so_far

many_fails : {A : Type 0} (read : Reader A) (fault : OpsFault) (front : List A) (count i : ℕ) (bytes : List ℕ) (total : Result (List A × List ℕ) OpsFault) → i < count → read bytes ≡ Err fault
    → many_at read (count - i) front bytes ≡ total → total ≡ Err fault
many_fails read fault front count i bytes total lt one so_far =
    let k : count - i ≡ suc (count - (i + 1)) = omega arith in
    let step : many_at read (count - i) front bytes ≡ Err fault = rw (k, one) refl in
    sym so_far ∙ step

pub many_ends : {A : Type 0} (read : Reader A) (fault : OpsFault) (front : List A) (count i : ℕ) (bytes : List ℕ) (total : Result (List A × List ℕ) OpsFault) → i < count
    → Fails fault (read bytes) → many_at read (count - i) front bytes ≡ total → Fails fault total
many_ends read faults.Twice front count i bytes total lt h so_far = many_fails read faults.Twice front count i bytes total lt h so_far
many_ends read faults.Limit front count i bytes total lt h so_far = many_fails read faults.Limit front count i bytes total lt h so_far
many_ends read faults.Memory front count i bytes total lt h so_far = tt
many_ends read faults.Truncated front count i bytes total lt h so_far = many_fails read faults.Truncated front count i bytes total lt h so_far
many_ends read faults.Version front count i bytes total lt h so_far = many_fails read faults.Version front count i bytes total lt h so_far
many_ends read faults.Kind front count i bytes total lt h so_far = many_fails read faults.Kind front count i bytes total lt h so_far
many_ends read faults.Order front count i bytes total lt h so_far = many_fails read faults.Order front count i bytes total lt h so_far
many_ends read faults.Trailing front count i bytes total lt h so_far = many_fails read faults.Trailing front count i bytes total lt h so_far

pub many_done : {A : Type 0} (read : Reader A) (front : List A) (count i : ℕ) (bytes : List ℕ) (total : Result (List A × List ℕ) OpsFault) → count ≤ i → many_at read (count - i) front bytes ≡ total → total ≡ Ok (front, bytes)
many_done read front count i bytes total le so_far =
    let k : count - i ≡ 0 = omega arith in
    let step : many_at read (count - i) front bytes ≡ Ok (front, bytes) = rw k refl in
    sym so_far ∙ step

many_length : {A : Type 0} (read : Reader A) (n : ℕ) (front : List A) (bytes : List ℕ) (x : List A × List ℕ) → many_at read n front bytes ≡ Ok x → length x.0 ≡ length front + n
many_length {A} read zero front bytes x e =
    let same : (front, bytes) ≡ x = ok_is (front, bytes) x e in
    let len : length front ≡ length x.0 = ap (λ (y : List A × List ℕ). length y.0) same in
    omega arith
many_length {A} read (suc n) front bytes x e =
    let b = bind_ok (read bytes) (λ x. many_at read n (front ++ x.0 ∷ []) x.1) x e in
    let more = many_length read n (front ++ b.0.0 ∷ []) b.0.1 x b.2 in
    let one = length-append front (b.0.0 ∷ []) in
    omega arith

-- entries that make no table are not ascending: their number was looked at
pub no_table : {A : Type 0} (cmp : A → A → Ordering) (read : Reader A) (n : ℕ) (bytes : List ℕ) (entries : List A) (rest : List ℕ) → n ≤ 256 → many_at read n [] bytes ≡ Ok (entries, rest)
    → ¬ (IsTable cmp entries) → is_ascending cmp entries ≡ false
no_table cmp read n bytes entries rest le e none =
    elim (cases_Bool (is_ascending cmp entries)) [
      | inl up ↦ absurd (none (up, let len = many_length read n [] bytes (entries, rest) e in omega arith))
      | inr down ↦ down
    ]

few : (bytes : List ℕ) (x : ℕ × List ℕ) → ranged (λ n. nat_le n 256) (number_at w16) bytes ≡ Ok x → x.0 ≤ 256
few bytes x e =
    let b = bind_ok (number_at w16 bytes) (λ x. cond (nat_le x.0 256) (Ok x) (Err faults.Kind)) x e in
    let g = guard_ok (nat_le b.0.0 256) faults.Kind b.0 x b.2 in
    subst (λ (y : ℕ × List ℕ). y.0 ≤ 256) g.1 (leb-true b.0.0 256 g.0)

-- entries that make no table are refused
pub table_refused : {A : Type 0} (cmp : A → A → Ordering) (read : Reader A) (bytes : List ℕ) (count : ℕ) (after : List ℕ) (entries : List A) (rest : List ℕ)
    → ranged (λ n. nat_le n 256) (number_at w16) bytes ≡ Ok (count, after) → many_at read count [] after ≡ Ok (entries, rest) → ¬ (IsTable cmp entries) → table_at cmp read bytes ≡ Err faults.Kind
table_refused cmp read bytes count after entries rest size many none =
    rw (size, many, no_table cmp read count after entries rest (few bytes (count, after) size) many none) refl
