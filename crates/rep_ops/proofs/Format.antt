-- The reader of deltas.
use Rattle.std.proofs.Common.{◌≡◌, ◌≢◌, ℕ, ◌+◌, ◌<◌, ◌≤◌, ◌^◌, Bool, true, false, cond, ◌&&◌, List, [], ◌∷◌, ◌++◌, length, Result, Ok, Err, refl, sym, ap, subst, ◌∙◌, inl, inr, arith}
use Rattle.std.specs.Prelude.{nat_lt, ◌==◌}
use Rattle.std.specs.List.{flat_map, list_any, AllByRecursion}
use Rattle.std.specs.Ordering.{is_lt}
use Rattle.std.specs.declared.cmp.Ordering.{Ordering}
use Rattle.std.specs.declared.cmp.Ordering.TheVariants.{Less, Equal, Greater}
use Rattle.std.proofs.lemmas.Bool.{cases_Bool, and_parts, and_from, eqb-true, eq-eqb, ltb-true, lt-ltb}
use Rattle.std.proofs.lemmas.Slice.Eq.{bytes_eq-Decides}
use Rattle.byteorder.specs.Endian.{big_bytes}
use Rattle.rep_op.specs.declared.fault.OpsFault.{OpsFault}
use Rattle.rep_op.specs.declared.fault.OpsFault.TheVariants as faults
use Rattle.rep_op.specs.declared.op.Op.{Op}
use Rattle.rep_op.specs.declared.op.Op.TheVariants.{Session as OfSession, Put as OfPut, Ack, Retain as OfRetain}
use Rattle.rep_ops.specs.Deltas.{IsDelta, IsAscending, IsBefore, IsApart}
use Rattle.rep_ops.specs.Formats.{IsSpelled}
use Rattle.rep_ops.specs.Making.{AreWellMade}
use Rattle.rep_op.specs.Orders.{name_cmp}
use Rattle.rep_op.specs.declared.version.Version.{Version}
use Rattle.rep_op.specs.declared.version.Version.TheVariants.{One, Two}
use Rattle.rep_op.specs.Versions.{version_octet, needs_two}
use Rattle.rep_ops.specs.Reading.{AreOctets, is_apart, is_next, may_follow, values_at, text_at, needed_at, delta_at, delta_reading, reading_one}
use Rattle.rep_read.specs.Reading.{Reader, ◌>>=◌, octet_at, op_at}
use Rattle.rep_op.specs.Sets.{same_client}
use Rattle.rep_op.specs.Spelling.{op_octets}
use Rattle.rep_ops.specs.Spelling.{spelled_in, version_of, delta_spelling, max_octets}
use Rattle.rep_op.specs.Values.{AreValues}
use Rattle.rep_ops.proofs.Listed.{FitsText, Order, values_law, whole_takes, whole_again}
use Rattle.rep_ops.proofs.Whole.{takes, again, one, cut, behind}
use Rattle.rep_ops.proofs.Versions.{is_two, two_needed, version_says, said_by_one}
use Rattle.rep_read.proofs.Laws.{IsBytes, Taken, IsStable, Law, bind_ok, guard_ok, bind_stable, octet_law}
use Rattle.rep_read.proofs.Operations.{can_say, FitsOp, op_law}
use Rattle.rep_ops.proofs.Sizes.{length_ops}

-- ---- the order

lt_less : (o : Ordering) → is_lt o ≡ true → o ≡ Less
lt_less Less e = refl
lt_less Equal e = absurd cc
lt_less Greater e = absurd cc

apart_test : (a b : Op) → is_apart a b ≡ true → IsApart a b
apart_test (OfSession c s i o) b e = tt
apart_test (OfPut c p) b e = tt
apart_test (OfRetain t k) b e = tt
apart_test (Ack c r f l) (OfSession d t j o) e = tt
apart_test (Ack c r f l) (OfPut d q) e = tt
apart_test (Ack c r f l) (OfRetain u k) e = tt
apart_test (Ack c r f l) (Ack d s g m) e =
    λ client origin.
    let same : (same_client c d && (r == s)) ≡ true = and_from _ _ ((bytes_eq-Decides c d).1 client) (eq-eqb r s origin) in
    let far : nat_lt (l + 1) g ≡ true = rw same at e in
    ltb-true _ _ far

test_apart : (a b : Op) → IsApart a b → is_apart a b ≡ true
test_apart (OfSession c s i o) b h = refl
test_apart (OfPut c p) b h = refl
test_apart (OfRetain t k) b h = refl
test_apart (Ack c r f l) (OfSession d t j o) h = refl
test_apart (Ack c r f l) (OfPut d q) h = refl
test_apart (Ack c r f l) (OfRetain u k) h = refl
test_apart (Ack c r f l) (Ack d s g m) h =
    elim (cases_Bool (same_client c d && (r == s))) [
      | inl same ↦ rw same (let p = and_parts _ _ same in lt-ltb _ _ (h ((bytes_eq-Decides c d).0 p.0) (eqb-true r s p.1)))
      | inr other ↦ rw other refl
    ]

before_test : (a b : Op) → (is_lt (name_cmp a b) && is_apart a b) ≡ true → IsBefore a b
before_test a b e = let p = and_parts _ _ e in (lt_less _ p.0, apart_test a b p.1)

test_before : (a b : Op) → IsBefore a b → (is_lt (name_cmp a b) && is_apart a b) ≡ true
test_before a b h = and_from _ _ (ap is_lt h.0) (test_apart a b h.1)

ascending_push : (front : List Op) (op : Op) → IsAscending front → may_follow front op ≡ true → IsAscending (front ++ op ∷ [])
ascending_push [] op up e = tt
ascending_push (a ∷ []) op up e = (before_test a op e, tt)
ascending_push (a ∷ b ∷ more) op up e = (up.0, ascending_push (b ∷ more) op up.1 e)

follow_from : (front : List Op) (op : Op) (new : List Op) → IsAscending (front ++ op ∷ new) → may_follow front op ≡ true
follow_from [] op new up = refl
follow_from (a ∷ []) op new up = test_before a op up.0
follow_from (a ∷ b ∷ more) op new up = follow_from (b ∷ more) op new up.1

ascending_order : Order may_follow IsAscending
ascending_order = record { none = tt; push = ascending_push; from = follow_from }

-- ---- the operations of a text

-- the operations, in an order, can be written in this version
abbrev FitsIn : Version → List Op → Type 0
FitsIn version ops = FitsText (FitsOp version) IsAscending ops

abbrev values_text : Version → List Op → List ℕ
values_text version ops = big_bytes 4 (length ops) ++ flat_map (op_octets version) ops

abbrev ops_at : Version → Reader (List Op)
ops_at version = values_at (op_at version) may_follow

ops_law : (version : Version) → Law (ops_at version) (values_text version) (FitsIn version)
ops_law version = values_law (op_at version) (op_octets version) (FitsOp version) (op_law version) may_follow IsAscending ascending_order

-- ---- a text in the version that its operations need

abbrev pub FitsFront : List Op → Type 0
FitsFront d = FitsIn (version_of d) d

took : (version : Version) (octet : ℕ) (bytes after : List ℕ) (x : List Op × List ℕ) → octet ≡ version_octet version → version_of x.0 ≡ version → bytes ≡ octet ∷ after
    → Taken (values_text version) (FitsIn version) after x → Taken delta_spelling FitsFront bytes x
took version octet bytes after x is needs parts t =
    let whole : bytes ≡ spelled_in version x.0 ++ x.1 = parts ∙ (λ i. is i ∷ t.parts i) in
    record {
      parts = subst (λ (v : Version). bytes ≡ spelled_in v x.0 ++ x.1) (sym needs) whole;
      rest = t.rest;
      fits = subst (λ (v : Version). FitsIn v x.0) (sym needs) t.fits;
    }

all_said : (ops : List Op) → AllByRecursion (FitsOp One) ops → AllByRecursion (λ op. can_say One op ≡ true) ops
all_said [] h = tt
all_said (op ∷ rest) h = (h.0.said, all_said rest h.1)

abbrev if_needed : List Op × List ℕ → Result (List Op × List ℕ) OpsFault
if_needed x = cond (list_any needs_two x.0) (Ok x) (Err faults.Version)

took_one : (octet : ℕ) (bytes after : List ℕ) (x : List Op × List ℕ) → octet ≡ 1 → bytes ≡ octet ∷ after → IsBytes after → ops_at One after ≡ Ok x → Taken delta_spelling FitsFront bytes x
took_one octet bytes after x is parts fits e =
    let t = (ops_law One).takes after x fits e in
    took One octet bytes after x is (said_by_one x.0 (all_said x.0 t.fits.fits)) parts t

took_two : (octet : ℕ) (bytes after : List ℕ) (x : List Op × List ℕ) → octet ≡ 2 → bytes ≡ octet ∷ after → IsBytes after → needed_at after ≡ Ok x → Taken delta_spelling FitsFront bytes x
unfolding needed_at
took_two octet bytes after x is parts fits e =
    let b = bind_ok (ops_at Two after) if_needed x e in
    let g = guard_ok (list_any needs_two b.0.0) faults.Version b.0 x b.2 in
    let t = (ops_law Two).takes after b.0 fits b.1 in
    subst (λ (y : List Op × List ℕ). Taken delta_spelling FitsFront bytes y) g.1 (took Two octet bytes after b.0 is (is_two b.0.0 g.0) parts t)

abbrev by_version : ℕ × List ℕ → Result (List Op × List ℕ) OpsFault
by_version x = cond (x.0 == 1) (ops_at One x.1) (cond (x.0 == 2) (needed_at x.1) (Err faults.Version))

delta_takes : (bytes : List ℕ) (x : List Op × List ℕ) → IsBytes bytes → delta_at bytes ≡ Ok x → Taken delta_spelling FitsFront bytes x
unfolding delta_at
delta_takes bytes x fits e =
    let b = bind_ok (octet_at bytes) by_version x e in
    let t = octet_law.takes bytes b.0 fits b.1 in
    elim (cases_Bool (b.0.0 == 1)) [
      | inl one ↦ (let read : ops_at One b.0.1 ≡ Ok x = rw one at b.2 in took_one b.0.0 bytes b.0.1 x (eqb-true _ _ one) t.parts t.rest read)
      | inr not_one ↦ (
          let next : cond (b.0.0 == 2) (needed_at b.0.1) (Err faults.Version) ≡ Ok x = rw not_one at b.2 in
          elim (cases_Bool (b.0.0 == 2)) [
            | inl two ↦ (let read : needed_at b.0.1 ≡ Ok x = rw two at next in took_two b.0.0 bytes b.0.1 x (eqb-true _ _ two) t.parts t.rest read)
            | inr neither ↦ absurd (let wrong : Err faults.Version ≡ Ok x = rw neither at next in cc)
          ])
    ]

needed_ok : (b : Bool) (x : List Op × List ℕ) → b ≡ true → cond b (Ok x) (Err faults.Version) ≡ Ok x
needed_ok b x e = rw e refl

again_in : (version : Version) (d : List Op) (rest : List ℕ) → version_of d ≡ version → FitsIn version d → delta_at (spelled_in version d ++ rest) ≡ Ok (d, rest)
unfolding delta_at needed_at
again_in One d rest needs h = (ops_law One).again d rest h
again_in Two d rest needs h =
    let read : ops_at Two (values_text Two d ++ rest) ≡ Ok (d, rest) = (ops_law Two).again d rest h in
    ap (λ (r : Result (List Op × List ℕ) OpsFault). r >>= if_needed) read ∙ needed_ok (list_any needs_two d) (d, rest) (two_needed d needs)

needed_step : (b : Bool) (x : List Op × List ℕ) (more : List ℕ) → IsStable more (cond b (Ok x) (Err faults.Version)) (cond b (Ok (x.0, x.1 ++ more)) (Err faults.Version))
needed_step true x more = inr refl
needed_step false x more = inr refl

needed_stable : (after more : List ℕ) → IsStable more (needed_at after) (needed_at (after ++ more))
unfolding needed_at
needed_stable after more =
    bind_stable more (ops_at Two after) (ops_at Two (after ++ more)) if_needed ((ops_law Two).stable after more) (λ x. needed_step (list_any needs_two x.0) x more)

version_stable : (octet : ℕ) (after more : List ℕ) → IsStable more (by_version (octet, after)) (by_version (octet, after ++ more))
version_stable octet after more =
    elim (cases_Bool (octet == 1)) [
      | inl one ↦ rw one ((ops_law One).stable after more)
      | inr not_one ↦ rw not_one (elim (cases_Bool (octet == 2)) [
        | inl two ↦ rw two (needed_stable after more)
        | inr neither ↦ rw neither (inr refl)
      ])
    ]

delta_law : Law delta_at delta_spelling FitsFront
unfolding delta_at
delta_law = record {
  takes = delta_takes;
  again = λ d rest h. again_in (version_of d) d rest refl h;
  stable = λ bytes more. bind_stable more (octet_at bytes) (octet_at (bytes ++ more)) by_version (octet_law.stable bytes more) (λ x. version_stable x.0 x.1 more);
}

-- ---- deltas

fits_made : (version : Version) (ops : List Op) → AllByRecursion (FitsOp version) ops → AreWellMade ops
fits_made version [] h = tt
fits_made version (op ∷ rest) h = (h.0.made, fits_made version rest h.1)

fits_values : (version : Version) (ops : List Op) → AllByRecursion (FitsOp version) ops → AreValues ops
fits_values version [] h = tt
fits_values version (op ∷ rest) h = (h.0.value, fits_values version rest h.1)

fits_from : (version : Version) (ops : List Op) → AreWellMade ops → AreValues ops → AllByRecursion (λ op. can_say version op ≡ true) ops → AllByRecursion (FitsOp version) ops
fits_from version [] m v s = tt
fits_from version (op ∷ rest) m v s = (record { made = m.0; value = v.0; said = s.0 }, fits_from version rest m.1 v.1 s.1)

few_ops : (d : List Op) → length (delta_spelling d) ≤ max_octets → length d < 2 ^ 32
few_ops d size = let ops = length_ops (version_of d) d in omega arith

pub fits_front : (d : List Op) → IsDelta d → AreValues d → length (delta_spelling d) ≤ max_octets → FitsFront d
fits_front d h v size = record { few = few_ops d size; fits = fits_from (version_of d) d h.well_made v (version_says d); ascending = h.ascending }

delta_from : (version : Version) (d : List Op) → FitsIn version d → IsDelta d
delta_from version d h = record { well_made = fits_made version d h.fits; ascending = h.ascending }

pub read_spelled : (bytes : List ℕ) (d : List Op) → AreOctets bytes → delta_reading bytes ≡ Ok d → IsSpelled bytes d × AreValues d
read_spelled bytes d octets e =
    let w = takes delta_at delta_spelling FitsFront delta_law bytes d octets e in
    (record { delta = delta_from (version_of d) d w.1; limit = w.2; spelled = w.0 }, fits_values (version_of d) d w.1.fits)

pub read_again : (d : List Op) → IsDelta d → AreValues d → length (delta_spelling d) ≤ max_octets → delta_reading (delta_spelling d) ≡ Ok d
read_again d h v size = again delta_at delta_spelling FitsFront delta_law d (fits_front d h v size) size

pub one_front : (a b : List Op) (x y : List ℕ) → FitsFront a → FitsFront b → delta_spelling a ++ x ≡ delta_spelling b ++ y → (a ≡ b) × (x ≡ y)
one_front = one delta_at delta_spelling FitsFront delta_law

pub cut_off : (d : List Op) (front rest : List ℕ) → FitsFront d → length (delta_spelling d) ≤ max_octets → delta_spelling d ≡ front ++ rest → rest ≢ [] → delta_reading front ≡ Err faults.Truncated
cut_off = cut delta_at delta_spelling FitsFront delta_law

pub more_behind : (d : List Op) (rest : List ℕ) → FitsFront d → length (delta_spelling d ++ rest) ≤ max_octets → rest ≢ [] → delta_reading (delta_spelling d ++ rest) ≡ Err faults.Trailing
more_behind = behind delta_at delta_spelling FitsFront delta_law

-- the reading of octets that spell a delta
pub spelled_again : (bytes : List ℕ) (d : List Op) → AreValues d → IsSpelled bytes d → delta_reading bytes ≡ Ok d
spelled_again bytes d v s = ap delta_reading s.spelled ∙ read_again d s.delta v s.limit

-- ---- deltas that need no version but 1, and what reads that one alone

pub one_spelled : (bytes : List ℕ) (d : List Op) → AreOctets bytes → reading_one bytes ≡ Ok d → IsSpelled bytes d × AreValues d × (version_of d ≡ One)
one_spelled bytes d octets e =
    let w = whole_takes (op_at One) (op_octets One) (FitsOp One) (op_law One) may_follow IsAscending ascending_order bytes d octets e in
    let needs = said_by_one d (all_said d w.1.fits) in (
      record {
        delta = delta_from One d w.1;
        limit = subst (λ (v : Version). length (spelled_in v d) ≤ max_octets) (sym needs) w.2;
        spelled = subst (λ (v : Version). bytes ≡ spelled_in v d) (sym needs) w.0;
      },
      fits_values One d w.1.fits,
      needs,
    )

pub one_again : (d : List Op) → IsDelta d → AreValues d → length (delta_spelling d) ≤ max_octets → version_of d ≡ One → reading_one (delta_spelling d) ≡ Ok d
one_again d h v size needs =
    let fits = subst (λ (w : Version). FitsIn w d) needs (fits_front d h v size) in
    let short = subst (λ (w : Version). length (spelled_in w d) ≤ max_octets) needs size in
    ap (λ (w : Version). reading_one (spelled_in w d)) needs
    ∙ whole_again (op_at One) (op_octets One) (FitsOp One) (op_law One) may_follow IsAscending ascending_order d fits short

pub one_spelled_again : (bytes : List ℕ) (d : List Op) → AreValues d → IsSpelled bytes d → version_of d ≡ One → reading_one bytes ≡ Ok d
one_spelled_again bytes d v s needs = ap reading_one s.spelled ∙ one_again d s.delta v s.limit needs
