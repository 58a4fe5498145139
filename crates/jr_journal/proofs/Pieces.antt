-- The pieces of a slot: one of them, and one after the other.
use Rattle.std.proofs.Common.{◌≡◌, ℕ, zero, suc, ◌+◌, ◌≤◌, Bool, true, false, cond, List, [], ◌∷◌, length, take, drop, Result, Ok, Err, refl, sym, ap, ◌∙◌, inl, inr, arith}
use Rattle.std.specs.Prelude.{nat_lt, ◌==◌, IfSome}
use Rattle.std.specs.Int.{w32, from_be_bytes}
use Rattle.std.proofs.lemmas.Bool.{cases_Bool, ltb-false, le-ltb}
use Rattle.std.proofs.lemmas.List.{take-take, length-drop, drop-take}
use Rattle.rep_op.specs.declared.op.Op.{Op}
use Rattle.rep_op.specs.declared.fault.OpsFault.{OpsFault}
use Rattle.rep_op.specs.declared.fault.OpsFault.TheVariants as faults
use Rattle.rep_ops.specs.Reading.{delta_reading}
use Rattle.rep_read.specs.Reading.{Fails}
use Rattle.rep_ops.specs.Spelling.{max_octets}
use Rattle.jr_journal.specs.declared.piece.Piece.TheVariants.{Whole, Seal, Torn, Bad}
use Rattle.jr_journal.specs.Records.{whole_if, delta_piece, piece_body_at, record_at, piece_at, ended, found_joined, one_record, one_seal, found}
use Rattle.jr_journal.specs.inner.Records.{refusal}

-- ---- a delta of so many bytes

pub whole_piece : (size : ℕ) (rest : List ℕ) (delta : List Op) → delta_reading (take size rest) ≡ Ok delta → Whole delta size ≡ delta_piece size rest
unfolding delta_piece
whole_piece size rest delta e = sym (ap (λ (r : Result (List Op) OpsFault). whole_if r size) e)

bad_piece : (size : ℕ) (rest : List ℕ) (fault : OpsFault) → delta_reading (take size rest) ≡ Err fault → Bad ≡ delta_piece size rest
unfolding delta_piece
bad_piece size rest fault e = sym (ap (λ (r : Result (List Op) OpsFault). whole_if r size) e)

pub refused_piece : (fault : OpsFault) (size : ℕ) (rest : List ℕ) → Fails fault (delta_reading (take size rest)) → IfSome (refusal fault) (λ piece. piece ≡ delta_piece size rest)
refused_piece faults.Twice size rest h = bad_piece size rest faults.Twice h
refused_piece faults.Limit size rest h = bad_piece size rest faults.Limit h
refused_piece faults.Memory size rest h = tt
refused_piece faults.Truncated size rest h = bad_piece size rest faults.Truncated h
refused_piece faults.Version size rest h = bad_piece size rest faults.Version h
refused_piece faults.Kind size rest h = bad_piece size rest faults.Kind h
refused_piece faults.Order size rest h = bad_piece size rest faults.Order h
refused_piece faults.Trailing size rest h = bad_piece size rest faults.Trailing h

delta_shape : (r : Result (List Op) OpsFault) (size : ℕ) (delta : List Op) (n : ℕ) → whole_if r size ≡ Whole delta n → (r ≡ Ok delta) × (size ≡ n)
delta_shape (Ok d) size delta n e = (cc, cc)
delta_shape (Err fault) size delta n e = absurd cc

-- ---- one piece

-- a whole record after its tag, and how it is read
pub record IsRecord (tag : ℕ) (rest : List ℕ) (delta : List Op) (n : ℕ) : Type 0 where
  pub tag_is : (tag == 68) ≡ true
  pub inside : 4 + n ≤ length rest
  pub size : from_be_bytes w32 (take 4 rest) ≡ n
  pub limit : n ≤ max_octets
  pub read : delta_reading (take n (drop 4 rest)) ≡ Ok delta

body_shape : (size : ℕ) (rest : List ℕ) (delta : List Op) (n : ℕ) → piece_body_at size rest ≡ Whole delta n → (size ≡ n) × (n ≤ max_octets) × (n ≤ length rest) × (delta_reading (take n rest) ≡ Ok delta)
unfolding delta_piece
body_shape size rest delta n e =
    elim (cases_Bool (nat_lt max_octets size)) [
      | inl large ↦ absurd (let wrong : Bad ≡ Whole delta n = rw large at e in cc)
      | inr small ↦
          let e2 : cond (nat_lt (length rest) size) Torn (delta_piece size rest) ≡ Whole delta n = rw small at e in
          elim (cases_Bool (nat_lt (length rest) size)) [
            | inl short ↦ absurd (let wrong : Torn ≡ Whole delta n = rw short at e2 in cc)
            | inr long ↦
                let e3 : whole_if (delta_reading (take size rest)) size ≡ Whole delta n = rw long at e2 in
                let d = delta_shape (delta_reading (take size rest)) size delta n e3 in
                (d.1, (omega (arith, ltb-false _ _ small, d.1)), omega (arith, ltb-false _ _ long, d.1), sym (ap (λ k. delta_reading (take k rest)) d.1) ∙ d.0)
          ]
    ]

pub record_shape : (tag : ℕ) (rest : List ℕ) (delta : List Op) (n : ℕ) → piece_at tag rest ≡ Whole delta n → IsRecord tag rest delta n
unfolding piece_at
record_shape tag rest delta n e =
    elim (cases_Bool (tag == 68)) [
      | inl is ↦
          let e1 : record_at rest ≡ Whole delta n = rw is at e in
          elim (cases_Bool (nat_lt (length rest) 4)) [
            | inl short ↦ absurd (let wrong : Torn ≡ Whole delta n = rw short at e1 in cc)
            | inr long ↦
                let e2 : piece_body_at (from_be_bytes w32 (take 4 rest)) (drop 4 rest) ≡ Whole delta n = rw long at e1 in
                let b = body_shape (from_be_bytes w32 (take 4 rest)) (drop 4 rest) delta n e2 in
                let four : 4 ≤ length rest = ltb-false _ _ long in
                record { tag_is = is; inside = omega (arith, b.2, length-drop 4 rest); size = b.0; limit = b.1; read = b.3 }
          ]
      | inr other ↦
          let e1 : cond (tag == 83) Seal Bad ≡ Whole delta n = rw other at e in
          elim (cases_Bool (tag == 83)) [
            | inl seal ↦ absurd (let wrong : Seal ≡ Whole delta n = rw seal at e1 in cc)
            | inr no_seal ↦ absurd (let wrong : Bad ≡ Whole delta n = rw no_seal at e1 in cc)
          ]
    ]

pub record_again : (tag : ℕ) (rest : List ℕ) (delta : List Op) (n : ℕ) → IsRecord tag rest delta n → piece_at tag rest ≡ Whole delta n
unfolding piece_at delta_piece
record_again tag rest delta n h =
    let long : nat_lt (length rest) 4 ≡ false = le-ltb (length rest) 4 (let i = h.inside in omega arith) in
    let small : nat_lt max_octets n ≡ false = le-ltb max_octets n h.limit in
    let inside : nat_lt (length (drop 4 rest)) n ≡ false = le-ltb (length (drop 4 rest)) n (let i = h.inside in omega (arith, length-drop 4 rest)) in
    let first : piece_at tag rest ≡ piece_body_at (from_be_bytes w32 (take 4 rest)) (drop 4 rest) = rw (h.tag_is, long) refl in
    let second : piece_body_at (from_be_bytes w32 (take 4 rest)) (drop 4 rest) ≡ piece_body_at n (drop 4 rest) = ap (λ k. piece_body_at k (drop 4 rest)) h.size in
    let third : piece_body_at n (drop 4 rest) ≡ Whole delta n = rw (small, inside, h.read) refl in
    first ∙ (second ∙ third)

-- a record is read from its own bytes alone
pub record_same : (tag : ℕ) (xs ys : List ℕ) (delta : List Op) (n : ℕ) → IsRecord tag xs delta n → 4 + n ≤ length ys → take (4 + n) ys ≡ take (4 + n) xs → IsRecord tag ys delta n
record_same tag xs ys delta n h inside same =
    let front : take 4 ys ≡ take 4 xs =
    sym (take-take 4 (4 + n) ys (omega arith)) ∙ (ap (λ zs. take 4 zs) same ∙ take-take 4 (4 + n) xs (omega arith))
    in
    let back : take n (drop 4 ys) ≡ take n (drop 4 xs) =
    sym (drop-take 4 n ys) ∙ (ap (λ zs. drop 4 zs) same ∙ drop-take 4 n xs)
    in
    record {
      tag_is = h.tag_is;
      inside = inside;
      size = ap (λ zs. from_be_bytes w32 zs) front ∙ h.size;
      limit = h.limit;
      read = ap (λ zs. delta_reading zs) back ∙ h.read;
    }

delta_not_seal : (r : Result (List Op) OpsFault) (size : ℕ) → whole_if r size ≡ Seal → ⊥
delta_not_seal (Ok d) size e = cc
delta_not_seal (Err fault) size e = cc

body_not_seal : (size : ℕ) (rest : List ℕ) → piece_body_at size rest ≡ Seal → ⊥
unfolding delta_piece
body_not_seal size rest e =
    elim (cases_Bool (nat_lt max_octets size)) [
      | inl large ↦ (let wrong : Bad ≡ Seal = rw large at e in cc)
      | inr small ↦
          let e2 : cond (nat_lt (length rest) size) Torn (delta_piece size rest) ≡ Seal = rw small at e in
          elim (cases_Bool (nat_lt (length rest) size)) [
            | inl short ↦ (let wrong : Torn ≡ Seal = rw short at e2 in cc)
            | inr long ↦ let e3 : whole_if (delta_reading (take size rest)) size ≡ Seal = rw long at e2 in delta_not_seal (delta_reading (take size rest)) size e3
          ]
    ]

-- the seal is one byte: nothing after it counts
pub seal_same : (tag : ℕ) (xs ys : List ℕ) → piece_at tag xs ≡ Seal → piece_at tag ys ≡ Seal
unfolding piece_at
seal_same tag xs ys e =
    elim (cases_Bool (tag == 68)) [
      | inl is ↦
          let e1 : record_at xs ≡ Seal = rw is at e in
          elim (cases_Bool (nat_lt (length xs) 4)) [
            | inl short ↦ absurd (let wrong : Torn ≡ Seal = rw short at e1 in cc)
            | inr long ↦ absurd (let e2 : piece_body_at (from_be_bytes w32 (take 4 xs)) (drop 4 xs) ≡ Seal = rw long at e1 in body_not_seal (from_be_bytes w32 (take 4 xs)) (drop 4 xs) e2)
          ]
      | inr other ↦
          let e1 : cond (tag == 83) Seal Bad ≡ Seal = rw other at e in
          rw other e1
    ]

-- ---- one piece after the other

pub found_record : (sealed : Bool) (b : ℕ) (rest : List ℕ) (delta : List Op) (n : ℕ) → piece_at b rest ≡ Whole delta n → found 0 sealed (b ∷ rest) ≡ found_joined (one_record delta n sealed) (found (4 + n) sealed rest)
unfolding found
found_record sealed b rest delta n e = rw e refl

pub found_seal : (b : ℕ) (rest : List ℕ) → piece_at b rest ≡ Seal → found 0 false (b ∷ rest) ≡ found_joined one_seal (found 0 true rest)
unfolding found
found_seal b rest e = rw e refl

pub found_second_seal : (b : ℕ) (rest : List ℕ) → piece_at b rest ≡ Seal → found 0 true (b ∷ rest) ≡ ended true true
unfolding found
found_second_seal b rest e = rw e refl

pub found_torn : (sealed : Bool) (b : ℕ) (rest : List ℕ) → piece_at b rest ≡ Torn → found 0 sealed (b ∷ rest) ≡ ended sealed false
unfolding found
found_torn sealed b rest e = rw e refl

pub found_bad : (sealed : Bool) (b : ℕ) (rest : List ℕ) → piece_at b rest ≡ Bad → found 0 sealed (b ∷ rest) ≡ ended sealed true
unfolding found
found_bad sealed b rest e = rw e refl

pub found_nothing : (skip : ℕ) (sealed : Bool) → found skip sealed [] ≡ ended sealed false
unfolding found
found_nothing skip sealed = refl

pub found_passed : (skip : ℕ) (sealed : Bool) (b : ℕ) (rest : List ℕ) → found (suc skip) sealed (b ∷ rest) ≡ found skip sealed rest
unfolding found
found_passed skip sealed b rest = refl

-- bytes that are passed over are as good as gone
pub found_skip : (skip : ℕ) (sealed : Bool) (bytes : List ℕ) → found skip sealed bytes ≡ found 0 sealed (drop skip bytes)
found_skip zero sealed bytes = refl
found_skip (suc skip) sealed [] = found_nothing (suc skip) sealed ∙ sym (found_nothing 0 sealed)
found_skip (suc skip) sealed (b ∷ rest) = found_passed skip sealed b rest ∙ found_skip skip sealed rest
