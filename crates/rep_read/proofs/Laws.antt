-- What makes a reader the reader of a spelling, and how readers are put together.
use Rattle.std.proofs.Common.{◌≡◌, ℕ, suc, ◌+◌, ◌<◌, ◌≤◌, ◌^◌, Bool, true, false, cond, ltb, List, [], ◌∷◌, ◌++◌, length, get_or, take, drop, Result, Ok, Err, refl, sym, ap, subst, ◌∙◌, inl, inr, ◌⊎◌, append_assoc, arith}
use Rattle.std.specs.Int.{Width, w16, w32, w64, byte_len, from_be_bytes, to_be_bytes}
use Rattle.std.proofs.lemmas.Bool.{cases_lt, cases_Bool, ltb-false, le-ltb}
use Rattle.std.proofs.lemmas.List.{take_at, drop_at, take-append-drop, length-append, length-take, get_or-drop, get_or-take, get_or_past, take-append-le, drop-append-le}
use Rattle.std.proofs.lemmas.Nat.{be_bytes_2, be_bytes_4, be_bytes_8, from_be_bytes-to_be_bytes_2, from_be_bytes-to_be_bytes_4, from_be_bytes-to_be_bytes_8}
use Rattle.rep_op.specs.declared.fault.OpsFault.{OpsFault}
use Rattle.rep_op.specs.declared.fault.OpsFault.TheVariants.{Truncated, Kind}
use Rattle.rep_read.specs.Reading.{Reader, ◌>>=◌, both, by_first, made_from, ranged, octet_at, octets_at, number_at, sized_at}

abbrev pub IsBytes : List ℕ → Type 0
IsBytes bytes = (i : ℕ) → get_or bytes i 0 < 256

IsBytes-drop : (n : ℕ) (bytes : List ℕ) → IsBytes bytes → IsBytes (drop n bytes)
IsBytes-drop n bytes h i = rw get_or-drop (h (n + i))

IsBytes-take : (n : ℕ) (bytes : List ℕ) → IsBytes bytes → IsBytes (take n bytes)
IsBytes-take n bytes h i =
    elim (cases_lt i n) [
      | inl lt ↦ rw (get_or-take n bytes i 0 lt) (h i)
      | inr le ↦ rw (get_or_past (take n bytes) i 0 (omega (arith, length-take n bytes))) (omega arith)
    ]

-- what a reader took from the front
pub record Taken {A : Type 0} (text : A → List ℕ) (Fits : A → Type 0) (bytes : List ℕ) (x : A × List ℕ) : Type 0 where
  pub parts : bytes ≡ text x.0 ++ x.1
  pub rest : IsBytes x.1
  pub fits : Fits x.0

-- the same outcome, with more octets after it
abbrev pub extended : {A : Type 0} → List ℕ → Result (A × List ℕ) OpsFault → Result (A × List ℕ) OpsFault
extended more (Ok x) = Ok (x.0, x.1 ++ more)
extended more (Err fault) = Err fault

-- more octets change nothing but a want of octets
abbrev pub IsStable : {A : Type 0} → List ℕ → Result (A × List ℕ) OpsFault → Result (A × List ℕ) OpsFault → Type 0
IsStable more short long = (short ≡ Err Truncated) ⊎ (long ≡ extended more short)

pub record Law {A : Type 0} (read : Reader A) (text : A → List ℕ) (Fits : A → Type 0) : Type 0 where
  pub takes : (bytes : List ℕ) (x : A × List ℕ) → IsBytes bytes → read bytes ≡ Ok x → Taken text Fits bytes x
  pub again : (a : A) (rest : List ℕ) → Fits a → read (text a ++ rest) ≡ Ok (a, rest)
  pub stable : (bytes more : List ℕ) → IsStable more (read bytes) (read (bytes ++ more))

-- ---- tools

pub bind_ok : {A B : Type 0} (r : Result A OpsFault) (f : A → Result B OpsFault) (y : B) → (r >>= f) ≡ Ok y → (x : A) × (r ≡ Ok x) × (f x ≡ Ok y)
bind_ok (Ok x) f y e = (x, refl, e)
bind_ok (Err d) f y e = absurd cc

-- a test that did not fail
pub guard_ok : {A : Type 0} (b : Bool) (d : OpsFault) (x y : A) → cond b (Ok x) (Err d) ≡ Ok y → (b ≡ true) × (x ≡ y)
guard_ok true d x y e = (refl, cc)
guard_ok false d x y e = absurd cc

guard_not : {A : Type 0} (b : Bool) (d : OpsFault) (x y : A) → cond b (Err d) (Ok x) ≡ Ok y → (b ≡ false) × (x ≡ y)
guard_not true d x y e = absurd cc
guard_not false d x y e = (refl, cc)

abbrev done : {A : Type 0} → A → Result A OpsFault
done x = Ok x

pub ok_is : {A : Type 0} (x y : A) → done x ≡ done y → x ≡ y
ok_is x y e = cc

pub bind_stable : {A B : Type 0} (more : List ℕ) (r s : Result (A × List ℕ) OpsFault) (f : A × List ℕ → Result (B × List ℕ) OpsFault) → IsStable more r s
    → ((x : A × List ℕ) → IsStable more (f x) (f (x.0, x.1 ++ more))) → IsStable more (r >>= f) (s >>= f)
bind_stable {A} {B} more (Ok x) s f h each =
    elim h [
      | inl short ↦ absurd cc
      | inr same ↦
          let on : (s >>= f) ≡ f (x.0, x.1 ++ more) = ap (λ (z : Result (A × List ℕ) OpsFault). z >>= f) same in
          elim (each x) [ inl short ↦ inl short | inr long ↦ inr (on ∙ long) ]
    ]
bind_stable {A} {B} more (Err d) s f h each =
    elim h [
      | inl short ↦ inl (let same : d ≡ Truncated = cc in ap (λ (z : OpsFault). Err z) same)
      | inr same ↦ inr (ap (λ (z : Result (A × List ℕ) OpsFault). z >>= f) same)
    ]

-- ---- readers put together

pub by_first_law : {A B : Type 0} (p : Reader A) (textp : A → List ℕ) (Fp : A → Type 0) → Law p textp Fp → (q : A → Reader B) (textq : A → B → List ℕ) (Fq : A → B → Type 0)
    → ((a : A) → Law (q a) (textq a) (Fq a)) → Law (by_first p q) (λ x. textp x.0 ++ textq x.0 x.1) (λ x. Fp x.0 × Fq x.0 x.1)
by_first_law {A} {B} p textp Fp lp q textq Fq lq = record {
  takes = λ bytes x fits e.
      let b = bind_ok (p bytes) (λ x. q x.0 x.1 >>= λ y. Ok ((x.0, y.0), y.1)) x e in
      let c = bind_ok (q b.0.0 b.0.1) (λ y. Ok ((b.0.0, y.0), y.1)) x b.2 in
      let t = lp.takes bytes b.0 fits b.1 in
      let u = (lq b.0.0).takes b.0.1 c.0 t.rest c.1 in
      let whole : (A × B) × List ℕ = ((b.0.0, c.0.0), c.0.1) in
      subst (λ (y : (A × B) × List ℕ). Taken (λ (x : A × B). textp x.0 ++ textq x.0 x.1) (λ (x : A × B). Fp x.0 × Fq x.0 x.1) bytes y) (ok_is whole x c.2) (record {
        parts = t.parts ∙ (ap (λ (z : List ℕ). textp b.0.0 ++ z) u.parts ∙ sym (append_assoc (textp b.0.0) (textq b.0.0 c.0.0) c.0.1));
        rest = u.rest;
        fits = (t.fits, u.fits);
      });
  again = λ a rest fits.
      ap (by_first p q) (append_assoc (textp a.0) (textq a.0 a.1) rest) ∙ rw (lp.again a.0 (textq a.0 a.1 ++ rest) fits.0, (lq a.0).again a.1 rest fits.1) refl;
  stable = λ bytes more.
      bind_stable more (p bytes) (p (bytes ++ more)) (λ x. q x.0 x.1 >>= λ y. Ok ((x.0, y.0), y.1)) (lp.stable bytes more) (λ x.
      bind_stable more (q x.0 x.1) (q x.0 (x.1 ++ more)) (λ y. Ok ((x.0, y.0), y.1)) ((lq x.0).stable x.1 more) (λ y. inr refl));
}

pub both_law : {A B : Type 0} (p : Reader A) (textp : A → List ℕ) (Fp : A → Type 0) → Law p textp Fp → (q : Reader B) (textq : B → List ℕ) (Fq : B → Type 0) → Law q textq Fq
    → Law (both p q) (λ x. textp x.0 ++ textq x.1) (λ x. Fp x.0 × Fq x.1)
both_law p textp Fp lp q textq Fq lq = by_first_law p textp Fp lp (λ _. q) (λ _. textq) (λ _. Fq) (λ _. lq)

pub made_law : {A B : Type 0} (f : A → B) (p : Reader A) (textp : A → List ℕ) (Fp : A → Type 0) → Law p textp Fp → (text : B → List ℕ) (Fits : B → Type 0)
    → ((a : A) → Fp a → (textp a ≡ text (f a)) × Fits (f a)) → ((b : B) → Fits b → (a : A) × (f a ≡ b) × Fp a × (textp a ≡ text b)) → Law (made_from f p) text Fits
made_law {A} {B} f p textp Fp lp text Fits over back = record {
  takes = λ bytes x fits e.
      let b = bind_ok (p bytes) (λ x. Ok (f x.0, x.1)) x e in
      let t = lp.takes bytes b.0 fits b.1 in
      let o = over b.0.0 t.fits in
      let whole : B × List ℕ = (f b.0.0, b.0.1) in
      subst (λ (y : B × List ℕ). Taken text Fits bytes y) (ok_is whole x b.2) (record { parts = t.parts ∙ ap (λ (z : List ℕ). z ++ b.0.1) o.0; rest = t.rest; fits = o.1 });
  again = λ b rest fits.
      let r = back b fits in
      let read : made_from f p (textp r.0 ++ rest) ≡ Ok (f r.0, rest) = rw (lp.again r.0 rest r.2) refl in
      sym (ap (λ (z : List ℕ). made_from f p (z ++ rest)) r.3) ∙ (read ∙ ap (λ (z : B). Ok (z, rest)) r.1);
  stable = λ bytes more. bind_stable more (p bytes) (p (bytes ++ more)) (λ x. Ok (f x.0, x.1)) (lp.stable bytes more) (λ x. inr refl);
}

ranged_stable : {A : Type 0} (more : List ℕ) (b : Bool) (x : A × List ℕ) → IsStable more (cond b (Ok x) (Err Kind)) (cond b (Ok (x.0, x.1 ++ more)) (Err Kind))
ranged_stable more true x = inr refl
ranged_stable more false x = inr refl

pub ranged_law : {A : Type 0} (test : A → Bool) (p : Reader A) (textp : A → List ℕ) (Fp : A → Type 0) → Law p textp Fp → Law (ranged test p) textp (λ a. Fp a × (test a ≡ true))
ranged_law {A} test p textp Fp lp = record {
  takes = λ bytes x fits e.
      let b = bind_ok (p bytes) (λ x. cond (test x.0) (Ok x) (Err Kind)) x e in
      let t = lp.takes bytes b.0 fits b.1 in
      let g = guard_ok (test b.0.0) Kind b.0 x b.2 in
      subst (λ (y : A × List ℕ). Taken textp (λ (a : A). Fp a × (test a ≡ true)) bytes y) g.1 (record { parts = t.parts; rest = t.rest; fits = (t.fits, g.0) });
  again = λ a rest fits. rw (lp.again a rest fits.0, fits.1) refl;
  stable = λ bytes more. bind_stable more (p bytes) (p (bytes ++ more)) (λ x. cond (test x.0) (Ok x) (Err Kind)) (lp.stable bytes more) (λ x. ranged_stable more (test x.0) x);
}

-- the same reader, seen as the reader of an equal spelling
pub same_law : {A : Type 0} (p : Reader A) (textp : A → List ℕ) (Fp : A → Type 0) → Law p textp Fp → (text : A → List ℕ) (Fits : A → Type 0)
    → ((a : A) → Fp a → (textp a ≡ text a) × Fits a) → ((a : A) → Fits a → Fp a) → Law p text Fits
same_law {A} p textp Fp lp text Fits over back = record {
  takes = λ bytes x fits e. let t = lp.takes bytes x fits e in let o = over x.0 t.fits in record { parts = t.parts ∙ ap (λ (z : List ℕ). z ++ x.1) o.0; rest = t.rest; fits = o.1 };
  again = λ a rest fits. let h = back a fits in sym (ap (λ (z : List ℕ). p (z ++ rest)) (over a h).0) ∙ lp.again a rest h;
  stable = lp.stable;
}

-- ---- octets

IsBytes-rest : (b : ℕ) (bytes : List ℕ) → IsBytes (b ∷ bytes) → IsBytes bytes
IsBytes-rest b bytes h i = h (suc i)

octet_takes : (bytes : List ℕ) (x : ℕ × List ℕ) → IsBytes bytes → octet_at bytes ≡ Ok x → Taken (λ n. n ∷ []) (λ n. n < 256) bytes x
octet_takes [] x fits e = absurd cc
octet_takes (b ∷ rest) x fits e = subst (λ (y : ℕ × List ℕ). Taken (λ n. n ∷ []) (λ n. n < 256) (b ∷ rest) y) (ok_is (b, rest) x e) (record { parts = refl; rest = IsBytes-rest b rest fits; fits = fits 0 })

octet_stable : (bytes more : List ℕ) → IsStable more (octet_at bytes) (octet_at (bytes ++ more))
octet_stable [] more = inl refl
octet_stable (b ∷ rest) more = inr refl

pub octet_law : Law octet_at (λ n. n ∷ []) (λ n. n < 256)
octet_law = record { takes = octet_takes; again = λ a rest fits. refl; stable = octet_stable }

-- what a reader makes of its first k octets
fixed_stable : {A : Type 0} (k : ℕ) (f : List ℕ → A) (bytes more : List ℕ)
    → IsStable more (cond (ltb (length bytes) k) (Err Truncated) (Ok (f (take k bytes), drop k bytes))) (cond (ltb (length (bytes ++ more)) k) (Err Truncated) (Ok (f (take k (bytes ++ more)), drop k (bytes ++ more))))
fixed_stable k f bytes more =
    elim (cases_Bool (ltb (length bytes) k)) [
      | inl short ↦ inl (rw short refl)
      | inr enough ↦ inr (
          let le : k ≤ length bytes = ltb-false _ _ enough in
          let long : ltb (length (bytes ++ more)) k ≡ false = le-ltb _ _ (omega (arith, length-append bytes more)) in
          rw (enough, long, take-append-le k bytes more le, drop-append-le k bytes more le) refl)
    ]

pub octets_law : (n : ℕ) → Law (octets_at n) (λ t. t) (λ t. length t ≡ n)
octets_law n = record {
  takes = λ bytes x fits e.
      let g = guard_not (ltb (length bytes) n) Truncated (take n bytes, drop n bytes) x e in
      let long : n ≤ length bytes = ltb-false _ _ g.0 in
      subst (λ (y : List ℕ × List ℕ). Taken (λ t. t) (λ t. length t ≡ n) bytes y) g.1 (record { parts = sym (take-append-drop n bytes); rest = IsBytes-drop n bytes fits; fits = omega (arith, length-take n bytes) });
  again = λ a rest fits.
      let long : ltb (length (a ++ rest)) n ≡ false = le-ltb _ _ (omega (arith, length-append a rest)) in
      rw (long, take_at a rest n fits, drop_at a rest n fits) refl;
  stable = λ bytes more. fixed_stable n (λ t. t) bytes more;
}

-- ---- numbers

pub record IsWide (w : Width) (limit : ℕ) : Type 0 where
  pub len : (n : ℕ) → length (to_be_bytes w n) ≡ byte_len w
  pub back : (bytes : List ℕ) → length bytes ≡ byte_len w → IsBytes bytes → to_be_bytes w (from_be_bytes w bytes) ≡ bytes
  pub again : (n : ℕ) → n < limit → from_be_bytes w (to_be_bytes w n) ≡ n
  pub below : (bytes : List ℕ) → IsBytes bytes → from_be_bytes w bytes < limit

pub wide16 : IsWide w16 (2 ^ 16)
wide16 = record {
  len = λ n. refl;
  back = λ bytes len fits. be_bytes_2 bytes _ len fits refl;
  again = λ n lt. from_be_bytes-to_be_bytes_2 n lt;
  below = λ bytes fits. omega (arith, fits 0, fits 1);
}

pub wide32 : IsWide w32 (2 ^ 32)
wide32 = record {
  len = λ n. refl;
  back = λ bytes len fits. be_bytes_4 bytes _ len fits refl;
  again = λ n lt. from_be_bytes-to_be_bytes_4 n lt;
  below = λ bytes fits. omega (arith, fits 0, fits 1, fits 2, fits 3);
}

pub wide64 : IsWide w64 (2 ^ 64)
wide64 = record {
  len = λ n. refl;
  back = λ bytes len fits. be_bytes_8 bytes _ len fits refl;
  again = λ n lt. from_be_bytes-to_be_bytes_8 n lt;
  below = λ bytes fits. omega (arith, fits 0, fits 1, fits 2, fits 3, fits 4, fits 5, fits 6, fits 7);
}

pub number_law : (w : Width) (limit : ℕ) → IsWide w limit → Law (number_at w) (to_be_bytes w) (λ n. n < limit)
number_law w limit wide = record {
  takes = λ bytes x fits e.
      let g = guard_not (ltb (length bytes) (byte_len w)) Truncated (from_be_bytes w (take (byte_len w) bytes), drop (byte_len w) bytes) x e in
      let long : byte_len w ≤ length bytes = ltb-false _ _ g.0 in
      let front = take (byte_len w) bytes in
      let front_fits : IsBytes (take (byte_len w) bytes) = IsBytes-take (byte_len w) bytes fits in
      let back : to_be_bytes w (from_be_bytes w (take (byte_len w) bytes)) ≡ take (byte_len w) bytes = wide.back (take (byte_len w) bytes) (omega (arith, length-take (byte_len w) bytes)) front_fits in
      subst (λ (y : ℕ × List ℕ). Taken (to_be_bytes w) (λ n. n < limit) bytes y) g.1 (record {
        parts = sym (ap (λ (z : List ℕ). z ++ drop (byte_len w) bytes) back ∙ take-append-drop (byte_len w) bytes);
        rest = IsBytes-drop (byte_len w) bytes fits;
        fits = wide.below (take (byte_len w) bytes) front_fits;
      });
  again = λ n rest lt.
      let len = wide.len n in
      let long : ltb (length (to_be_bytes w n ++ rest)) (byte_len w) ≡ false = le-ltb _ _ (omega (arith, length-append (to_be_bytes w n) rest)) in
      rw (long, take_at (to_be_bytes w n) rest (byte_len w) len, drop_at (to_be_bytes w n) rest (byte_len w) len, wide.again n lt) refl;
  stable = λ bytes more. fixed_stable (byte_len w) (from_be_bytes w) bytes more;
}

-- ---- texts

pub sized_law : (test : ℕ → Bool) (p : Reader ℕ) (textp : ℕ → List ℕ) (Fp : ℕ → Type 0) → Law p textp Fp
    → Law (sized_at test p) (λ t. textp (length t) ++ t) (λ t. Fp (length t) × (test (length t) ≡ true))
sized_law test p textp Fp lp =
    let size = ranged_law test p textp Fp lp in
    record {
      takes = λ bytes x fits e.
          let b = bind_ok (ranged test p bytes) (λ x. octets_at x.0 x.1) x e in
          let t = size.takes bytes b.0 fits b.1 in
          let u = (octets_law b.0.0).takes b.0.1 x t.rest b.2 in
          let len : b.0.0 ≡ length x.0 = sym u.fits in
          record {
            parts = t.parts ∙ (ap (λ (z : List ℕ). textp b.0.0 ++ z) u.parts ∙ (sym (append_assoc (textp b.0.0) x.0 x.1) ∙ ap (λ (n : ℕ). (textp n ++ x.0) ++ x.1) len));
            rest = u.rest;
            fits = subst (λ (n : ℕ). Fp n × (test n ≡ true)) len t.fits;
          };
      again = λ a rest fits.
          ap (sized_at test p) (append_assoc (textp (length a)) a rest) ∙ rw (size.again (length a) (a ++ rest) fits) ((octets_law (length a)).again a rest refl);
      stable = λ bytes more. bind_stable more (ranged test p bytes) (ranged test p (bytes ++ more)) (λ x. octets_at x.0 x.1) (size.stable bytes more) (λ x. (octets_law x.0).stable x.1 more);
    }
