-- Whole texts: what is read of octets by a reader of which the law is known, and nothing after it.
use Rattle.std.proofs.Common.{◌≡◌, ◌≢◌, ℕ, ◌+◌, ◌≤◌, true, false, cond, List, [], ◌∷◌, ◌++◌, length, Result, Ok, Err, refl, sym, ap, subst, ◌∙◌, inl, inr, arith}
use Rattle.std.specs.Prelude.{nat_lt, ◌==◌}
use Rattle.std.proofs.lemmas.Bool.{cases_Bool, eqb-true, ne_eqb, ltb-false, le-ltb}
use Rattle.std.proofs.lemmas.List.{append-nil, nil_from_length, length-append}
use Rattle.rep_op.specs.declared.fault.OpsFault.{OpsFault}
use Rattle.rep_op.specs.declared.fault.OpsFault.TheVariants as faults
use Rattle.rep_read.specs.Reading.{Reader, ◌>>=◌}
use Rattle.rep_ops.specs.Reading.{AreOctets, whole_at, reading_by}
use Rattle.rep_ops.specs.Spelling.{max_octets}
use Rattle.rep_read.proofs.Laws.{extended, Law, bind_ok, guard_ok, ok_is}

ended : {A : Type 0} (x : A × List ℕ) (d : A) → cond (length x.1 == 0) (Ok x.0) (Err faults.Trailing) ≡ Ok d → (x.0 ≡ d) × (x.1 ≡ [])
ended x d e = let g = guard_ok (length x.1 == 0) faults.Trailing x.0 d e in (g.1, nil_from_length x.1 (eqb-true _ _ g.0))

cut_short : {A : Type 0} (d : A) (rest : List ℕ) (r : Result (A × List ℕ) OpsFault) → rest ≢ [] → Ok (d, []) ≡ extended rest r → ⊥
cut_short {A} d rest (Ok x) ne e =
    let pair : (d, []) ≡ (x.0, x.1 ++ rest) = ok_is _ _ e in
    let none : [] ≡ x.1 ++ rest = ap (λ (p : A × List ℕ). p.1) pair in
    let len : 0 ≡ length (x.1 ++ rest) = ap length none in
    ne (nil_from_length rest (omega (arith, length-append x.1 rest)))
cut_short d rest (Err f) ne e = absurd cc

module _ {A : Type 0} (read : Reader A) (text : A → List ℕ) (Fits : A → Type 0) (law : Law read text Fits) where
  -- what is read is written so
  pub takes : (bytes : List ℕ) (d : A) → AreOctets bytes → reading_by read bytes ≡ Ok d → (bytes ≡ text d) × Fits d × (length (text d) ≤ max_octets)
  unfolding whole_at
  takes bytes d octets e =
      elim (cases_Bool (nat_lt max_octets (length bytes))) [
        | inl long ↦ absurd (let wrong : Err faults.Limit ≡ Ok d = rw long at e in cc)
        | inr short ↦
            let size : length bytes ≤ max_octets = ltb-false _ _ short in
            let front : (read bytes >>= λ x. cond (length x.1 == 0) (Ok x.0) (Err faults.Trailing)) ≡ Ok d = rw short at e in
            let b = bind_ok (read bytes) (λ x. cond (length x.1 == 0) (Ok x.0) (Err faults.Trailing)) d front in
            let t = law.takes bytes b.0 octets b.1 in
            let g = ended b.0 d b.2 in
            let whole : bytes ≡ text d = t.parts ∙ (ap (λ (z : List ℕ). text b.0.0 ++ z) g.1 ∙ (append-nil (text b.0.0) ∙ ap text g.0)) in
            (whole, subst Fits g.0 t.fits, subst (λ (z : List ℕ). length z ≤ max_octets) whole size)
      ]

  -- what is written is read again
  pub again : (d : A) → Fits d → length (text d) ≤ max_octets → reading_by read (text d) ≡ Ok d
  unfolding whole_at
  again d h size =
      let short : nat_lt max_octets (length (text d)) ≡ false = le-ltb _ _ size in
      let front : read (text d) ≡ Ok (d, []) = ap read (sym (append-nil (text d))) ∙ law.again d [] h in
      rw (short, front) refl

  -- no text begins another
  pub one : (a b : A) (x y : List ℕ) → Fits a → Fits b → text a ++ x ≡ text b ++ y → (a ≡ b) × (x ≡ y)
  one a b x y fa fb e =
      let both : Ok (a, x) ≡ Ok (b, y) = sym (law.again a x fa) ∙ (ap read e ∙ law.again b y fb) in
      let pair : (a, x) ≡ (b, y) = ok_is (a, x) (b, y) both in
      (ap (λ (p : A × List ℕ). p.0) pair, ap (λ (p : A × List ℕ). p.1) pair)

  -- what is cut is told so
  pub cut : (d : A) (front rest : List ℕ) → Fits d → length (text d) ≤ max_octets → text d ≡ front ++ rest → rest ≢ [] → reading_by read front ≡ Err faults.Truncated
  unfolding whole_at
  cut d front rest fits size e ne =
      let len : length (text d) ≡ length front + length rest = ap length e ∙ length-append front rest in
      let short : nat_lt max_octets (length front) ≡ false = le-ltb _ _ (omega arith) in
      let whole : read (front ++ rest) ≡ Ok (d, []) = ap read (sym e ∙ sym (append-nil (text d))) ∙ law.again d [] fits in
      elim (law.stable front rest) [
        | inl fewer ↦ rw (short, fewer) refl
        | inr same ↦ absurd (cut_short d rest (read front) ne (sym whole ∙ same))
      ]

  -- and so is what stands after
  pub behind : (d : A) (rest : List ℕ) → Fits d → length (text d ++ rest) ≤ max_octets → rest ≢ [] → reading_by read (text d ++ rest) ≡ Err faults.Trailing
  unfolding whole_at
  behind d rest fits size ne =
      let short : nat_lt max_octets (length (text d ++ rest)) ≡ false = le-ltb _ _ size in
      let some : (length rest == 0) ≡ false = ne_eqb _ _ (λ z. ne (nil_from_length rest z)) in
      rw (short, law.again d rest fits, some) refl
