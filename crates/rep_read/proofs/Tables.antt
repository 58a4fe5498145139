-- The readers of parts that may be there, and of tables.
use Rattle.std.proofs.Common.{◌≡◌, ℕ, zero, suc, ◌<◌, ◌≤◌, ◌^◌, Bool, true, false, cond, List, [], ◌∷◌, ◌++◌, length, Option, Some, None, Result, Ok, Err, refl, sym, ap, subst, ◌∙◌, inl, inr, append_assoc, arith}
use Rattle.std.specs.Prelude.{nat_le}
use Rattle.std.specs.Int.{Width, w16, to_be_bytes}
use Rattle.std.specs.List.{flat_map, AllByRecursion}
use Rattle.std.specs.declared.cmp.Ordering.{Ordering}
use Rattle.std.proofs.lemmas.Bool.{leb-true, le-leb}
use Rattle.std.proofs.lemmas.List.{append-nil}
use Rattle.sn_tables.specs.Tables.{is_ascending, IsTable}
use Rattle.rep_op.specs.declared.fault.OpsFault.{OpsFault}
use Rattle.rep_read.specs.Reading.{Reader, ◌>>=◌, ranged, number_at, flag_at, option_at, many_at, counted_by, counted_at, table_at}
use Rattle.rep_op.specs.Sessions.{flag_octet, option_octets, table_octets}
use Rattle.rep_read.proofs.Laws.{IsBytes, Taken, IsStable, Law, bind_ok, bind_stable, ok_is, same_law, ranged_law, number_law, wide16}
use Rattle.rep_read.proofs.Fields.{flag_law}

-- ---- parts that may be there

abbrev pub FitsOption : {A : Type 0} → (A → Type 0) → Option A → Type 0
FitsOption Fits None = Unit {0}
FitsOption Fits (Some x) = Fits x

abbrev by_flag : {A : Type 0} → Reader A → Bool × List ℕ → Result (Option A × List ℕ) OpsFault
by_flag p flag = cond flag.0 (p flag.1 >>= λ x. Ok (Some x.0, x.1)) (Ok (None, flag.1))

some_takes : {A : Type 0} (p : Reader A) (text : A → List ℕ) (Fits : A → Type 0) → Law p text Fits → (bytes after : List ℕ) (flag : Bool) (x : Option A × List ℕ) → bytes ≡ flag_octet flag ∷ after → IsBytes after
    → by_flag p (flag, after) ≡ Ok x → Taken (option_octets text) (FitsOption Fits) bytes x
some_takes {A} p text Fits lp bytes after false x parts fits e =
    let whole : Option A × List ℕ = (None, after) in
    subst (λ (y : Option A × List ℕ). Taken (option_octets text) (FitsOption Fits) bytes y) (ok_is whole x e) (record { parts = parts; rest = fits; fits = tt })
some_takes {A} p text Fits lp bytes after true x parts fits e =
    let b = bind_ok (p after) (λ x. Ok (Some x.0, x.1)) x e in
    let t = lp.takes after b.0 fits b.1 in
    let whole : Option A × List ℕ = (Some b.0.0, b.0.1) in
    subst (λ (y : Option A × List ℕ). Taken (option_octets text) (FitsOption Fits) bytes y) (ok_is whole x b.2) (record { parts = parts ∙ ap (λ (z : List ℕ). 1 ∷ z) t.parts; rest = t.rest; fits = t.fits })

some_again : {A : Type 0} (p : Reader A) (text : A → List ℕ) (Fits : A → Type 0) → Law p text Fits → (o : Option A) (rest : List ℕ) → FitsOption Fits o → option_at p (option_octets text o ++ rest) ≡ Ok (o, rest)
some_again p text Fits lp None rest h = ap (λ (r : Result (Bool × List ℕ) OpsFault). r >>= by_flag p) (flag_law.again false rest tt)
some_again {A} p text Fits lp (Some x) rest h =
    ap (λ (r : Result (Bool × List ℕ) OpsFault). r >>= by_flag p) (flag_law.again true (text x ++ rest) tt)
    ∙ ap (λ (r : Result (A × List ℕ) OpsFault). r >>= λ x. Ok (Some x.0, x.1)) (lp.again x rest h)

some_stable : {A : Type 0} (p : Reader A) (text : A → List ℕ) (Fits : A → Type 0) → Law p text Fits → (flag : Bool) (after more : List ℕ) → IsStable more (by_flag p (flag, after)) (by_flag p (flag, after ++ more))
some_stable p text Fits lp false after more = inr refl
some_stable p text Fits lp true after more = bind_stable more (p after) (p (after ++ more)) (λ x. Ok (Some x.0, x.1)) (lp.stable after more) (λ x. inr refl)

pub option_law : {A : Type 0} (p : Reader A) (text : A → List ℕ) (Fits : A → Type 0) → Law p text Fits → Law (option_at p) (option_octets text) (FitsOption Fits)
option_law p text Fits lp = record {
  takes = λ bytes x fits e.
      let b = bind_ok (flag_at bytes) (by_flag p) x e in
      let t = flag_law.takes bytes b.0 fits b.1 in
      some_takes p text Fits lp bytes b.0.1 b.0.0 x t.parts t.rest b.2;
  again = λ o rest fits. some_again p text Fits lp o rest fits;
  stable = λ bytes more. bind_stable more (flag_at bytes) (flag_at (bytes ++ more)) (by_flag p) (flag_law.stable bytes more) (λ x. some_stable p text Fits lp x.0 x.1 more);
}

-- ---- tables

-- what reading entries took
record TakesMany {A : Type 0} (text : A → List ℕ) (Fits : A → Type 0) (n : ℕ) (front : List A) (bytes : List ℕ) (x : List A × List ℕ) : Type 0 where
  new : List A
  all : x.0 ≡ front ++ new
  count : length new ≡ n
  parts : bytes ≡ flat_map text new ++ x.1
  rest : IsBytes x.1
  fits : AllByRecursion Fits new

many_takes : {A : Type 0} (p : Reader A) (text : A → List ℕ) (Fits : A → Type 0) → Law p text Fits → (n : ℕ) (front : List A) (bytes : List ℕ) (x : List A × List ℕ) → IsBytes bytes
    → many_at p n front bytes ≡ Ok x → TakesMany text Fits n front bytes x
many_takes {A} p text Fits lp zero front bytes x fits e =
    let same : (front, bytes) ≡ x = ok_is (front, bytes) x e in
    subst (λ (y : List A × List ℕ). TakesMany text Fits zero front bytes y) same (record { new = []; all = sym (append-nil front); count = refl; parts = refl; rest = fits; fits = tt })
many_takes {A} p text Fits lp (suc n) front bytes x fits e =
    let b = bind_ok (p bytes) (λ x. many_at p n (front ++ x.0 ∷ []) x.1) x e in
    let t = lp.takes bytes b.0 fits b.1 in
    let more = many_takes p text Fits lp n (front ++ b.0.0 ∷ []) b.0.1 x t.rest b.2 in
    record {
      new = b.0.0 ∷ more.new;
      all = more.all ∙ append_assoc front (b.0.0 ∷ []) more.new;
      count = ap suc more.count;
      parts = t.parts ∙ (ap (λ (z : List ℕ). text b.0.0 ++ z) more.parts ∙ sym (append_assoc (text b.0.0) (flat_map text more.new) x.1));
      rest = more.rest;
      fits = (t.fits, more.fits);
    }

many_again : {A : Type 0} (p : Reader A) (text : A → List ℕ) (Fits : A → Type 0) → Law p text Fits → (new front : List A) (rest : List ℕ) → AllByRecursion Fits new
    → many_at p (length new) front (flat_map text new ++ rest) ≡ Ok (front ++ new, rest)
many_again {A} p text Fits lp [] front rest fits = ap (λ (z : List A). Ok (z, rest)) (sym (append-nil front))
many_again {A} p text Fits lp (x ∷ new) front rest fits =
    let more = many_again p text Fits lp new (front ++ x ∷ []) rest fits.1 in
    ap (many_at p (suc (length new)) front) (append_assoc (text x) (flat_map text new) rest)
    ∙ (ap (λ (r : Result (A × List ℕ) OpsFault). r >>= λ x. many_at p (length new) (front ++ x.0 ∷ []) x.1) (lp.again x (flat_map text new ++ rest) fits.0)
    ∙ (more ∙ ap (λ (z : List A). Ok (z, rest)) (append_assoc front (x ∷ []) new)))

many_stable : {A : Type 0} (p : Reader A) (text : A → List ℕ) (Fits : A → Type 0) → Law p text Fits → (n : ℕ) (front : List A) (bytes more : List ℕ) → IsStable more (many_at p n front bytes) (many_at p n front (bytes ++ more))
many_stable p text Fits lp zero front bytes more = inr refl
many_stable p text Fits lp (suc n) front bytes more =
    bind_stable more (p bytes) (p (bytes ++ more)) (λ x. many_at p n (front ++ x.0 ∷ []) x.1) (lp.stable bytes more) (λ x. many_stable p text Fits lp n (front ++ x.0 ∷ []) x.1 more)

abbrev pub FitsCounted : {A : Type 0} → (ℕ → Type 0) → (A → Type 0) → List A → Type 0
FitsCounted IsCount Fits xs = IsCount (length xs) × AllByRecursion Fits xs

-- a count of which the law is known, and so many values
module _ {A : Type 0} (count : Reader ℕ) (w : Width) (IsCount : ℕ → Type 0) (lc : Law count (to_be_bytes w) IsCount) (p : Reader A) (text : A → List ℕ) (Fits : A → Type 0) (lp : Law p text Fits) where
  abbrev counted_octets : List A → List ℕ
  counted_octets xs = to_be_bytes w (length xs) ++ flat_map text xs

  counted_takes : (bytes : List ℕ) (x : List A × List ℕ) → IsBytes bytes → counted_by count p bytes ≡ Ok x → Taken counted_octets (FitsCounted IsCount Fits) bytes x
  counted_takes bytes x fits e =
      let b = bind_ok (count bytes) (λ n. many_at p n.0 [] n.1) x e in
      let t = lc.takes bytes b.0 fits b.1 in
      let o = many_takes p text Fits lp b.0.0 [] b.0.1 x t.rest b.2 in
      let all : o.new ≡ x.0 = sym o.all in
      let len : b.0.0 ≡ length x.0 = sym o.count ∙ ap length all in
      record {
        parts = t.parts ∙ (ap (λ (n : ℕ). to_be_bytes w n ++ b.0.1) len ∙ (ap (λ (z : List ℕ). to_be_bytes w (length x.0) ++ z) (o.parts ∙ ap (λ (z : List A). flat_map text z ++ x.1) all)
            ∙ sym (append_assoc (to_be_bytes w (length x.0)) (flat_map text x.0) x.1)));
        rest = o.rest;
        fits = (subst IsCount len t.fits, subst (AllByRecursion Fits) all o.fits);
      }

  pub counted_law : Law (counted_by count p) counted_octets (FitsCounted IsCount Fits)
  counted_law = record {
    takes = λ bytes x fits e. counted_takes bytes x fits e;
    again = λ xs rest fits.
        ap (counted_by count p) (append_assoc (to_be_bytes w (length xs)) (flat_map text xs) rest)
        ∙ (ap (λ (r : Result (ℕ × List ℕ) OpsFault). r >>= λ n. many_at p n.0 [] n.1) (lc.again (length xs) (flat_map text xs ++ rest) fits.0)
        ∙ many_again p text Fits lp xs [] rest fits.1);
    stable = λ bytes more.
        bind_stable more (count bytes) (count (bytes ++ more)) (λ n. many_at p n.0 [] n.1) (lc.stable bytes more) (λ x. many_stable p text Fits lp x.0 [] x.1 more);
  }

abbrev count_at : Reader ℕ
count_at = ranged (λ n. nat_le n 256) (number_at w16)

abbrev IsCount : ℕ → Type 0
IsCount n = (n < 2 ^ 16) × (nat_le n 256 ≡ true)

count_law : Law count_at (to_be_bytes w16) IsCount
count_law = ranged_law (λ n. nat_le n 256) (number_at w16) (to_be_bytes w16) (λ n. n < 2 ^ 16) (number_law w16 (2 ^ 16) wide16)

abbrev pub FitsTable : {A : Type 0} → (A → A → Ordering) → (A → Type 0) → List A → Type 0
FitsTable cmp Fits xs = IsTable cmp xs × AllByRecursion Fits xs

pub table_law : {A : Type 0} (cmp : A → A → Ordering) (p : Reader A) (text : A → List ℕ) (Fits : A → Type 0) → Law p text Fits → Law (table_at cmp p) (table_octets text) (FitsTable cmp Fits)
table_law cmp p text Fits lp =
    same_law (table_at cmp p) (table_octets text) (λ xs. FitsCounted IsCount Fits xs × (is_ascending cmp xs ≡ true))
    (ranged_law (is_ascending cmp) (counted_at p) (table_octets text) (FitsCounted IsCount Fits) (counted_law count_at w16 IsCount count_law p text Fits lp))
    (table_octets text) (FitsTable cmp Fits)
    (λ xs h. (refl, ((h.1, leb-true _ _ h.0.0.1), h.0.1)))
    (λ xs h. (((let most = h.0.1 in omega arith, le-leb _ _ h.0.1), h.1), h.0.0))
