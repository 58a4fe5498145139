-- A delta in parts: what is there of them while operations are added.
use Rattle.std.proofs.Common.{◌≡◌, ◌≢◌, ℕ, ◌+◌, ◌<◌, ◌≤◌, Bool, List, [], ◌∷◌, ◌++◌, length, refl, sym, ap, subst, ◌∙◌, append_assoc, append-nil, arith, true, false, inl, inr}
use Rattle.std.specs.Prelude.{IsTrue, ◌==◌, ◌||◌}
use Rattle.std.proofs.lemmas.Bool.{cases_Bool, eqb-true, eq-eqb, both_ways}
use Rattle.std.specs.List.{AllByRecursion, flat_map, list_any}
use Rattle.std.proofs.lemmas.Grind.{flat_map-append}
use Rattle.std.proofs.lemmas.List.Folds.{list_any-append}
use Rattle.rep_op.specs.declared.op.Op.{Op}
use Rattle.rep_ops.specs.Deltas.{IsDelta}
use Rattle.rep_ops.specs.Making.{AreWellMade}
use Rattle.rep_op.specs.Spelling.{op_octets}
use Rattle.rep_op.specs.declared.version.Version.TheVariants.{One, Two}
use Rattle.rep_op.specs.Versions.{needs_two}
use Rattle.rep_ops.specs.declared.measure.Measure.{Measure}
use Rattle.rep_ops.specs.inner.Measures.{IsMeasure}
use Rattle.rep_ops.specs.Spelling.{delta_spelling, IsDeltaWithinLimit}
use Rattle.rep_ops.specs.Splitting.{all_of, IsPart, PassesLimit, AreFull, IsSplit}
use Rattle.rep_op.specs.Values.{IsOpValue, AreValues}
use Rattle.rep_op.specs.WellMade.{is_well_made}
use Rattle.rep_ops.proofs.Joined.{rising_ascending, ascending_rising}
use Rattle.rep_ops.proofs.Rising.{Past, Rising}
use Rattle.rep_ops.proofs.Sizes.{spelled, octets_more, most_octets, spelled_one, spelled_two, spelled_least}

-- ---- the front and the back of a list

all_front : {A : Type 0} (P : A → Type 0) (xs ys : List A) → AllByRecursion P (xs ++ ys) → AllByRecursion P xs
all_front P [] ys h = tt
all_front P (x ∷ xs) ys h = (h.0, all_front P xs ys h.1)

all_back : {A : Type 0} (P : A → Type 0) (xs ys : List A) → AllByRecursion P (xs ++ ys) → AllByRecursion P ys
all_back P [] ys h = h
all_back P (x ∷ xs) ys h = all_back P xs ys h.1

all_more : {A : Type 0} (P : A → Type 0) (xs : List A) (y : A) → AllByRecursion P xs → P y → AllByRecursion P (xs ++ y ∷ [])
all_more P [] y h p = (p, tt)
all_more P (x ∷ xs) y h p = (h.0, all_more P xs y h.1 p)

rising_front : (k : ℕ) (xs ys : List Op) → Rising k (xs ++ ys) → Rising k xs
rising_front k [] ys h = tt
rising_front k (x ∷ xs) ys h = (all_front (Past k x) xs ys h.0, rising_front k xs ys h.1)

rising_back : (k : ℕ) (xs ys : List Op) → Rising k (xs ++ ys) → Rising k ys
rising_back k [] ys h = h
rising_back k (x ∷ xs) ys h = rising_back k xs ys h.1

-- what stands together in a delta is one
delta_between : (xs ys zs : List Op) → IsDelta (xs ++ (ys ++ zs)) → IsDelta ys
delta_between xs ys zs d =
    let up = rising_ascending (xs ++ (ys ++ zs)) d.well_made d.ascending in
    record {
      well_made = all_front (λ op. IsTrue (is_well_made op)) ys zs (all_back (λ op. IsTrue (is_well_made op)) xs (ys ++ zs) d.well_made);
      ascending = ascending_rising ys (rising_front 1 ys zs (rising_back 1 xs (ys ++ zs) up));
    }

-- ---- full parts

full_more : (ds : List (List Op)) (d next : List Op) → AreFull (ds ++ d ∷ []) → PassesLimit d next → AreFull ((ds ++ d ∷ []) ++ next ∷ [])
full_more [] d next h full = (full, tt)
full_more (x ∷ []) d next h full = (h.0, (full, tt))
full_more (x ∷ y ∷ ds) d next h full = (h.0, full_more (y ∷ ds) d next h.1 full)

longer_full : (x d : List Op) (op : Op) → PassesLimit x d → PassesLimit x (d ++ op ∷ [])
longer_full x [] op h = absurd h
longer_full x (o ∷ d) op h = h

full_longer : (ds : List (List Op)) (d : List Op) (op : Op) → AreFull (ds ++ d ∷ []) → AreFull (ds ++ (d ++ op ∷ []) ∷ [])
full_longer [] d op h = tt
full_longer (x ∷ []) d op h = (longer_full x d op h.0, tt)
full_longer (x ∷ y ∷ ds) d op h = (h.0, full_longer (y ∷ ds) d op h.1)

-- the last part has operations, if there are others
no_parts : (ds : List (List Op)) → AreFull (ds ++ [] ∷ []) → ds ≡ []
no_parts [] h = refl
no_parts (x ∷ []) h = absurd h.0
no_parts (x ∷ y ∷ ds) h = absurd (let none = no_parts (y ∷ ds) h.1 in cc)

-- ---- parts

pub all_of_more : (ds : List (List Op)) (d : List Op) → all_of (ds ++ d ∷ []) ≡ all_of ds ++ d
all_of_more ds d = flat_map-append (λ (x : List Op). x) ds (d ∷ []) ∙ ap (λ (xs : List Op). all_of ds ++ xs) (append-nil d)

-- ---- the measure of a part

pub no_measure : (m : Measure) → m.one ≡ 5 → m.two ≡ 5 → m.is_two ≡ false → IsMeasure m []
no_measure m e f g = record { one = e; two = f; needed = g }

any_more : (b c : Bool) → (b || (c || false)) ≡ (b || c)
any_more true c = refl
any_more false true = refl
any_more false false = refl

pub more_measure : (m n : Measure) (ops : List Op) (op : Op) → IsMeasure m ops → n.one ≡ m.one + length (op_octets One op) → n.two ≡ m.two + length (op_octets Two op)
    → n.is_two ≡ (m.is_two || needs_two op) → IsMeasure n (ops ++ op ∷ [])
more_measure m n ops op h e f g =
    let one = spelled One ops in
    let two = spelled Two ops in
    let more_one = spelled One (ops ++ op ∷ []) in
    let more_two = spelled Two (ops ++ op ∷ []) in
    let sum_one = octets_more One ops op in
    let sum_two = octets_more Two ops op in
    let was_one = h.one in
    let was_two = h.two in
    record {
      one = omega (arith, one, more_one, sum_one, was_one, e);
      two = omega (arith, two, more_two, sum_two, was_two, f);
      needed = g ∙ ap (λ (b : Bool). b || needs_two op) h.needed ∙ sym (list_any-append needs_two ops (op ∷ []) ∙ any_more (list_any needs_two ops) (needs_two op));
    }

pub measured_two : (m : Measure) (ops : List Op) → IsMeasure m ops → m.is_two ≡ true → m.two ≡ length (delta_spelling ops)
measured_two m ops h e =
    let size = spelled_two ops (sym h.needed ∙ e) in
    let two = spelled Two ops in
    let was = h.two in
    omega (arith, size, two, was)

pub measured_one : (m : Measure) (ops : List Op) → IsMeasure m ops → m.is_two ≡ false → m.one ≡ length (delta_spelling ops)
measured_one m ops h e =
    let size = spelled_one ops (sym h.needed ∙ e) in
    let one = spelled One ops in
    let was = h.one in
    omega (arith, size, one, was)

-- a delta has at least the octets of version 1, and version 2 has at most twice as many
pub roomy : (m : Measure) (ops : List Op) → IsMeasure m ops → length (delta_spelling ops) ≤ 8388608 → (m.one ≤ 16777216) × (m.two ≤ 16777216)
roomy m ops h size =
    let least = spelled_least ops in
    let most = most_octets ops in
    let one = spelled One ops in
    let two = spelled Two ops in
    let was_one = h.one in
    let was_two = h.two in
    (omega (arith, size, least, one, was_one), omega (arith, size, least, most, two, was_two))

-- the delta of one operation is far below the limit
pub alone_small : (none m : Measure) (op : Op) → IsMeasure none [] → IsMeasure m (op ∷ []) → m.one ≤ none.one + 150000 → m.two ≤ none.two + 150000 → length (delta_spelling (op ∷ [])) ≤ 150005
alone_small none m op h k one two =
    let first : none.one ≡ 5 = h.one in
    let second : none.two ≡ 5 = h.two in
    elim (cases_Bool m.is_two) [
      | inl is ↦ let size = measured_two m (op ∷ []) k is in omega (arith, size, two, second)
      | inr not ↦ let size = measured_one m (op ∷ []) k not in omega (arith, size, one, first)
    ]

-- ---- parts

-- operations in full parts, one that is not finished, and the operations that are left
pub record AreParts (ops : List Op) (ds : List (List Op)) (part rest : List Op) (measure : Measure) : Type 0 where
  pub whole : all_of ds ++ (part ++ rest) ≡ ops
  pub parts : AllByRecursion IsPart ds
  pub full : AreFull (ds ++ part ∷ [])
  pub values : AreValues part
  pub measured : IsMeasure measure part
  pub small : length (delta_spelling part) ≤ 8388608

pub no_part : (ops rest : List Op) (none : Measure) → rest ≡ ops → IsMeasure none [] → AreParts ops [] [] rest none
no_part ops rest none e h = record { whole = e; parts = tt; full = tt; values = tt; measured = h; small = omega arith }

pub next_made : (ops : List Op) (ds : List (List Op)) (part rest : List Op) (measure : Measure) (op : Op) (left : List Op) → IsDelta ops → AreParts ops ds part rest measure → rest ≡ op ∷ left → IsTrue (is_well_made op)
next_made ops ds part rest measure op left d h e =
    let whole : AreWellMade (all_of ds ++ (part ++ rest)) = subst AreWellMade (sym h.whole) d.well_made in
    let behind = all_back (λ op. IsTrue (is_well_made op)) part rest (all_back (λ op. IsTrue (is_well_made op)) (all_of ds) (part ++ rest) whole) in
    (subst AreWellMade e behind).0

-- what a delta promises of its operations
abbrev pub IsMade : List Op → Type 0
IsMade part = IsDelta part × IsDeltaWithinLimit part × AreValues part

pub part_delta : (ops : List Op) (ds : List (List Op)) (part rest : List Op) (measure : Measure) → IsDelta ops → AreParts ops ds part rest measure → IsMade part
part_delta ops ds part rest measure d h = (delta_between (all_of ds) part rest (subst IsDelta (sym h.whole) d), h.small, h.values)

some_part : (part : List Op) (op : Op) → length (delta_spelling (op ∷ [])) ≤ 150005 → 8388608 < length (delta_spelling (part ++ op ∷ [])) → part ≢ []
some_part part op few full e =
    let alone : 8388608 < length (delta_spelling (op ∷ [])) = subst (λ (d : List Op). 8388608 < length (delta_spelling (d ++ op ∷ []))) e full in
    omega (arith, alone, few)

-- the operation begins a part
pub next_part : (ops : List Op) (ds : List (List Op)) (part rest : List Op) (measure : Measure) (op : Op) (left : List Op) (alone : Measure) → AreParts ops ds part rest measure → rest ≡ op ∷ left
    → 8388608 < length (delta_spelling (part ++ op ∷ [])) → IsMeasure alone (op ∷ []) → length (delta_spelling (op ∷ [])) ≤ 150005 → IsOpValue op → AreParts ops (ds ++ part ∷ []) (op ∷ []) left alone
next_part ops ds part rest measure op left alone h e full measured few value =
    record {
      whole = ap (λ (xs : List Op). xs ++ (op ∷ left)) (all_of_more ds part) ∙ append_assoc (all_of ds) part (op ∷ left) ∙ ap (λ (xs : List Op). all_of ds ++ (part ++ xs)) (sym e) ∙ h.whole;
      parts = all_more IsPart ds part h.parts (record { some = some_part part op few full; within = h.small });
      full = full_more ds part (op ∷ []) h.full full;
      values = (value, tt);
      measured = measured;
      small = omega (arith, few);
    }

-- the operation goes into the part
pub longer_part : (ops : List Op) (ds : List (List Op)) (part rest : List Op) (measure : Measure) (op : Op) (left : List Op) (longer : Measure) → AreParts ops ds part rest measure → rest ≡ op ∷ left
    → length (delta_spelling (part ++ op ∷ [])) ≤ 8388608 → IsMeasure longer (part ++ op ∷ []) → IsOpValue op → AreParts ops ds (part ++ op ∷ []) left longer
longer_part ops ds part rest measure op left longer h e fits measured value =
    record {
      whole = ap (λ (xs : List Op). all_of ds ++ xs) (append_assoc part (op ∷ []) left ∙ ap (λ (xs : List Op). part ++ xs) (sym e)) ∙ h.whole;
      parts = h.parts;
      full = full_longer ds part op h.full;
      values = all_more IsOpValue part op h.values value;
      measured = measured;
      small = fits;
    }

-- nothing is left
pub last_part : (ops : List Op) (ds : List (List Op)) (part rest : List Op) (measure : Measure) → AreParts ops ds part rest measure → rest ≡ [] → part ≢ [] → IsSplit ops (ds ++ part ∷ [])
last_part ops ds part rest measure h e some = record {
  whole = all_of_more ds part ∙ ap (λ (xs : List Op). all_of ds ++ xs) (sym (append-nil part) ∙ ap (λ (xs : List Op). part ++ xs) (sym e)) ∙ h.whole;
  parts = all_more IsPart ds part h.parts (record { some = some; within = h.small });
  full = h.full;
}

pub no_last_part : (ops : List Op) (ds : List (List Op)) (part rest : List Op) (measure : Measure) → AreParts ops ds part rest measure → rest ≡ [] → part ≡ [] → IsSplit ops ds
no_last_part ops ds part rest measure h e none =
    let nothing = no_parts ds (subst (λ (d : List Op). AreFull (ds ++ d ∷ [])) none h.full) in
    record {
      whole = sym (append-nil (all_of ds)) ∙ ap (λ (xs : List Op). all_of ds ++ xs) (λ i. sym none i ++ sym e i) ∙ h.whole;
      parts = h.parts;
      full = subst AreFull (sym nothing) tt;
    }

-- the same under other names
pub parts_are : (ops : List Op) (these ds : List (List Op)) (this part rest : List Op) (n measure : Measure) → these ≡ ds → this ≡ part → n ≡ measure → AreParts ops ds part rest measure → AreParts ops these this rest n
parts_are ops these ds this part rest n measure e f g h =
    subst (λ (x : List (List Op)). AreParts ops x this rest n) (sym e) (subst (λ (x : List Op). AreParts ops ds x rest n) (sym f) (subst (AreParts ops ds part rest) (sym g) h))

pub no_items : (n : ℕ) (xs : List Op) → n ≡ 0 → n ≡ length xs → xs ≡ []
no_items n [] e f = refl
no_items n (x ∷ xs) e f = absurd (omega (arith, e, f))

pub is_no_part : (n : ℕ) (part : List Op) → true ≡ (n == 0) → n ≡ length part → part ≡ []
is_no_part n part e f = no_items n part (eqb-true n 0 (sym e)) f

pub is_some_part : (n : ℕ) (part : List Op) → false ≡ (n == 0) → n ≡ length part → part ≢ []
is_some_part n part e f none = both_ways (n == 0) (sym e) (eq-eqb n 0 (f ∙ ap length none))
