-- Texts of a version, a count and values of which each may stand after those before it: the law of their readers.
use Rattle.std.proofs.Common.{◌≡◌, ◌≢◌, ℕ, zero, suc, ◌+◌, ◌<◌, ◌≤◌, ◌^◌, Bool, true, false, cond, List, [], ◌∷◌, ◌++◌, length, Result, Ok, Err, refl, sym, ap, subst, ◌∙◌, inl, inr, append_assoc, arith}
use Rattle.std.specs.Prelude.{◌==◌}
use Rattle.std.specs.Int.{w32, to_be_bytes}
use Rattle.std.specs.List.{flat_map, AllByRecursion}
use Rattle.std.proofs.lemmas.Bool.{cases_Bool, eqb-true}
use Rattle.std.proofs.lemmas.List.{append-nil}
use Rattle.byteorder.specs.Endian.{big_bytes}
use Rattle.rep_op.specs.declared.fault.OpsFault.{OpsFault}
use Rattle.rep_op.specs.declared.fault.OpsFault.TheVariants as faults
use Rattle.rep_op.specs.declared.version.Version.TheVariants.{One}
use Rattle.rep_read.specs.Reading.{Reader, ◌>>=◌, Fails, octet_at, number_at}
use Rattle.rep_ops.specs.Reading.{AreOctets, listed_at, values_at, text_at, reading_of}
use Rattle.rep_ops.specs.Spelling.{text_of, max_octets}
use Rattle.rep_ops.proofs.Whole.{takes, again, one, cut, behind}
use Rattle.rep_read.proofs.Laws.{IsBytes, Taken, IsStable, Law, bind_ok, bind_stable, octet_law, wide32, number_law, ok_is}

-- what reading values took
record TakesListed {A : Type 0} (text : A → List ℕ) (Fits : A → Type 0) (Up : List A → Type 0) (n : ℕ) (front : List A) (bytes : List ℕ) (x : List A × List ℕ) : Type 0 where
  new : List A
  all : x.0 ≡ front ++ new
  count : length new ≡ n
  parts : bytes ≡ flat_map text new ++ x.1
  rest : IsBytes x.1
  fits : AllByRecursion Fits new
  ascending : Up (front ++ new)

-- what a text holds: values that can be written, not too many, in their order
pub record FitsText {A : Type 0} (Fits : A → Type 0) (Up : List A → Type 0) (d : List A) : Type 0 where
  pub few : length d < 2 ^ 32
  pub fits : AllByRecursion Fits d
  pub ascending : Up d

-- the test of each value after those before it is the order of the list
pub record Order {A : Type 0} (follows : List A → A → Bool) (Up : List A → Type 0) : Type 0 where
  pub none : Up []
  pub push : (front : List A) (x : A) → Up front → follows front x ≡ true → Up (front ++ x ∷ [])
  pub from : (front : List A) (x : A) (new : List A) → Up (front ++ x ∷ new) → follows front x ≡ true

abbrev four_law : Law (number_at w32) (to_be_bytes w32) (λ n. n < 2 ^ 32)
four_law = number_law w32 (2 ^ 32) wide32

module _ {A : Type 0} (p : Reader A) (text : A → List ℕ) (Fits : A → Type 0) (lp : Law p text Fits) (follows : List A → A → Bool) (Up : List A → Type 0) (order : Order follows Up) where
  listed_takes : (n : ℕ) (front : List A) (bytes : List ℕ) (x : List A × List ℕ) → IsBytes bytes → Up front → listed_at p follows n front bytes ≡ Ok x → TakesListed text Fits Up n front bytes x
  unfolding listed_at
  listed_takes zero front bytes x fits up e =
      let same : (front, bytes) ≡ x = ok_is (front, bytes) x e in
      subst (λ (y : List A × List ℕ). TakesListed text Fits Up zero front bytes y) same (record {
        new = [];
        all = sym (append-nil front);
        count = refl;
        parts = refl;
        rest = fits;
        fits = tt;
        ascending = subst Up (sym (append-nil front)) up;
      })
  listed_takes (suc n) front bytes x fits up e =
      let b = bind_ok (p bytes) (λ x. cond (follows front x.0) (listed_at p follows n (front ++ x.0 ∷ []) x.1) (Err faults.Order)) x e in
      let t = lp.takes bytes b.0 fits b.1 in
      elim (cases_Bool (follows front b.0.0)) [
        | inl right ↦
            let read : listed_at p follows n (front ++ b.0.0 ∷ []) b.0.1 ≡ Ok x = rw right at b.2 in
            let more = listed_takes n (front ++ b.0.0 ∷ []) b.0.1 x t.rest (order.push front b.0.0 up right) read in
            let regroup : (front ++ b.0.0 ∷ []) ++ more.new ≡ front ++ (b.0.0 ∷ more.new) = append_assoc front (b.0.0 ∷ []) more.new in
            record {
              new = b.0.0 ∷ more.new;
              all = more.all ∙ regroup;
              count = ap suc more.count;
              parts = t.parts ∙ (ap (λ (z : List ℕ). text b.0.0 ++ z) more.parts ∙ sym (append_assoc (text b.0.0) (flat_map text more.new) x.1));
              rest = more.rest;
              fits = (t.fits, more.fits);
              ascending = subst Up regroup more.ascending;
            }
        | inr not ↦ absurd (let wrong : Err faults.Order ≡ Ok x = rw not at b.2 in cc)
      ]

  listed_again : (new front : List A) (rest : List ℕ) → AllByRecursion Fits new → Up (front ++ new) → listed_at p follows (length new) front (flat_map text new ++ rest) ≡ Ok (front ++ new, rest)
  unfolding listed_at
  listed_again [] front rest fits up = ap (λ (z : List A). Ok (z, rest)) (sym (append-nil front))
  listed_again (x ∷ new) front rest fits up =
      let regroup : (front ++ x ∷ []) ++ new ≡ front ++ (x ∷ new) = append_assoc front (x ∷ []) new in
      let right = order.from front x new up in
      let more = listed_again new (front ++ x ∷ []) rest fits.1 (subst Up (sym regroup) up) in
      ap (listed_at p follows (suc (length new)) front) (append_assoc (text x) (flat_map text new) rest)
      ∙ rw (lp.again x (flat_map text new ++ rest) fits.0, right) (more ∙ ap (λ (z : List A). Ok (z, rest)) regroup)

  listed_step : (n : ℕ) (front : List A) (x : A) (after more : List ℕ) (b : Bool) → IsStable more (listed_at p follows n (front ++ x ∷ []) after) (listed_at p follows n (front ++ x ∷ []) (after ++ more))
      → IsStable more (cond b (listed_at p follows n (front ++ x ∷ []) after) (Err faults.Order)) (cond b (listed_at p follows n (front ++ x ∷ []) (after ++ more)) (Err faults.Order))
  listed_step n front x after more true h = h
  listed_step n front x after more false h = inr refl

  listed_stable : (n : ℕ) (front : List A) (bytes more : List ℕ) → IsStable more (listed_at p follows n front bytes) (listed_at p follows n front (bytes ++ more))
  unfolding listed_at
  listed_stable zero front bytes more = inr refl
  listed_stable (suc n) front bytes more =
      bind_stable more (p bytes) (p (bytes ++ more)) (λ x. cond (follows front x.0) (listed_at p follows n (front ++ x.0 ∷ []) x.1) (Err faults.Order)) (lp.stable bytes more)
      (λ x. listed_step n front x.0 x.1 more (follows front x.0) (listed_stable n (front ++ x.0 ∷ []) x.1 more))

  -- ---- the count and the values

  abbrev values_text : List A → List ℕ
  values_text d = big_bytes 4 (length d) ++ flat_map text d

  values_take : (bytes : List ℕ) (x : List A × List ℕ) → IsBytes bytes → values_at p follows bytes ≡ Ok x → Taken values_text (FitsText Fits Up) bytes x
  values_take bytes x fits e =
      let b = bind_ok (number_at w32 bytes) (λ count. listed_at p follows count.0 [] count.1) x e in
      let t = four_law.takes bytes b.0 fits b.1 in
      let o = listed_takes b.0.0 [] b.0.1 x t.rest order.none b.2 in
      let all : o.new ≡ x.0 = sym o.all in
      let len : b.0.0 ≡ length x.0 = sym o.count ∙ ap length all in
      record {
        parts = t.parts ∙ (ap (λ (n : ℕ). to_be_bytes w32 n ++ b.0.1) len ∙ (ap (λ (z : List ℕ). to_be_bytes w32 (length x.0) ++ z) (o.parts ∙ ap (λ (z : List A). flat_map text z ++ x.1) all)
            ∙ sym (append_assoc (to_be_bytes w32 (length x.0)) (flat_map text x.0) x.1)));
        rest = o.rest;
        fits = record { few = subst (λ (n : ℕ). n < 2 ^ 32) len t.fits; fits = subst (AllByRecursion Fits) all o.fits; ascending = subst Up all o.ascending };
      }

  values_again : (d : List A) (rest : List ℕ) → FitsText Fits Up d → values_at p follows (values_text d ++ rest) ≡ Ok (d, rest)
  values_again d rest h =
      ap (values_at p follows) (append_assoc (to_be_bytes w32 (length d)) (flat_map text d) rest)
      ∙ rw (four_law.again (length d) (flat_map text d ++ rest) h.few) (listed_again d [] rest h.fits h.ascending)

  values_stable : (bytes more : List ℕ) → IsStable more (values_at p follows bytes) (values_at p follows (bytes ++ more))
  values_stable bytes more =
      bind_stable more (number_at w32 bytes) (number_at w32 (bytes ++ more)) (λ count. listed_at p follows count.0 [] count.1) (four_law.stable bytes more) (λ x. listed_stable x.0 [] x.1 more)

  pub values_law : Law (values_at p follows) (λ d. big_bytes 4 (length d) ++ flat_map text d) (FitsText Fits Up)
  values_law = record { takes = values_take; again = values_again; stable = values_stable }

  -- ---- version 1, the count and the values

  abbrev by_version : ℕ → Reader (List A)
  by_version version bytes = cond (version == 1) (values_at p follows bytes) (Err faults.Version)

  version_stable : (version : ℕ) (after more : List ℕ) → IsStable more (by_version version after) (by_version version (after ++ more))
  version_stable version after more =
      elim (cases_Bool (version == 1)) [
        | inl known ↦ rw known (values_stable after more)
        | inr not ↦ rw not (inr refl)
      ]

  pub text_law : Law (text_at p follows) (text_of One text) (FitsText Fits Up)
  unfolding text_at
  text_law = record {
    takes = λ bytes x fits e.
        let b = bind_ok (octet_at bytes) (λ version. by_version version.0 version.1) x e in
        let t = octet_law.takes bytes b.0 fits b.1 in
        elim (cases_Bool (b.0.0 == 1)) [
          | inl known ↦
              let read : values_at p follows b.0.1 ≡ Ok x = rw known at b.2 in
              let c = values_take b.0.1 x t.rest read in
              let is : b.0.0 ≡ 1 = eqb-true _ _ known in
              record { parts = t.parts ∙ (λ i. is i ∷ c.parts i); rest = c.rest; fits = c.fits }
          | inr not ↦ absurd (let wrong : Err faults.Version ≡ Ok x = rw not at b.2 in cc)
        ];
    again = λ d rest h. values_again d rest h;
    stable = λ bytes more. bind_stable more (octet_at bytes) (octet_at (bytes ++ more)) (λ version. by_version version.0 version.1) (octet_law.stable bytes more) (λ x. version_stable x.0 x.1 more);
  }

  -- ---- the whole

  -- what is read is written so
  pub whole_takes : (bytes : List ℕ) (d : List A) → AreOctets bytes → reading_of p follows bytes ≡ Ok d → (bytes ≡ text_of One text d) × FitsText Fits Up d × (length (text_of One text d) ≤ max_octets)
  whole_takes = takes (text_at p follows) (text_of One text) (FitsText Fits Up) text_law

  -- what is written is read again
  pub whole_again : (d : List A) → FitsText Fits Up d → length (text_of One text d) ≤ max_octets → reading_of p follows (text_of One text d) ≡ Ok d
  whole_again = again (text_at p follows) (text_of One text) (FitsText Fits Up) text_law

  -- no text begins another
  pub one_text : (a b : List A) (x y : List ℕ) → FitsText Fits Up a → FitsText Fits Up b → text_of One text a ++ x ≡ text_of One text b ++ y → (a ≡ b) × (x ≡ y)
  one_text = one (text_at p follows) (text_of One text) (FitsText Fits Up) text_law

  -- what is cut is told so
  pub text_cut : (d : List A) (front rest : List ℕ) → FitsText Fits Up d → length (text_of One text d) ≤ max_octets → text_of One text d ≡ front ++ rest → rest ≢ [] → reading_of p follows front ≡ Err faults.Truncated
  text_cut = cut (text_at p follows) (text_of One text) (FitsText Fits Up) text_law

  -- and so is what stands after
  pub text_behind : (d : List A) (rest : List ℕ) → FitsText Fits Up d → length (text_of One text d ++ rest) ≤ max_octets → rest ≢ [] → reading_of p follows (text_of One text d ++ rest) ≡ Err faults.Trailing
  text_behind = behind (text_at p follows) (text_of One text) (FitsText Fits Up) text_law

-- what a call answered that did not give what is read: that memory ran out
pub only_memory : {A : Type 0} (fault : OpsFault) (d : A) (r : Result A OpsFault) → r ≡ Ok d → Fails fault r → fault ≡ faults.Memory
only_memory faults.Twice d r e h = absurd (let wrong : Ok d ≡ Err faults.Twice = sym e ∙ h in cc)
only_memory faults.Limit d r e h = absurd (let wrong : Ok d ≡ Err faults.Limit = sym e ∙ h in cc)
only_memory faults.Memory d r e h = refl
only_memory faults.Truncated d r e h = absurd (let wrong : Ok d ≡ Err faults.Truncated = sym e ∙ h in cc)
only_memory faults.Version d r e h = absurd (let wrong : Ok d ≡ Err faults.Version = sym e ∙ h in cc)
only_memory faults.Kind d r e h = absurd (let wrong : Ok d ≡ Err faults.Kind = sym e ∙ h in cc)
only_memory faults.Order d r e h = absurd (let wrong : Ok d ≡ Err faults.Order = sym e ∙ h in cc)
only_memory faults.Trailing d r e h = absurd (let wrong : Ok d ≡ Err faults.Trailing = sym e ∙ h in cc)
