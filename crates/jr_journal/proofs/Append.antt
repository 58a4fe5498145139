-- Bytes after the whole pieces of a slot: a record, or the front of one.
use Rattle.std.proofs.Common.{◌≡◌, ℕ, zero, suc, ◌+◌, ◌<◌, ◌≤◌, Bool, true, false, List, [], ◌∷◌, ◌++◌, length, take, drop, refl, sym, ap, subst, ◌∙◌, inl, inr, append_assoc, arith}
use Rattle.std.specs.Prelude.{nat_lt}
use Rattle.std.specs.Int.{w32, from_be_bytes}
use Rattle.std.proofs.lemmas.Bool.{cases_lt, lt-ltb, le-ltb}
use Rattle.std.proofs.lemmas.List.{take-take, take_all, take_at, drop_at, length-take, length-drop, take-append-le, length-append}
use Rattle.std.proofs.Math.ListN.{drop_of_length-le}
use Rattle.std.proofs.lemmas.Nat.{from_be_bytes-to_be_bytes_4}
use Rattle.byteorder.specs.Endian.{big_bytes}
use Rattle.rep_op.specs.declared.op.Op.{Op}
use Rattle.rep_ops.specs.Reading.{delta_reading}
use Rattle.rep_ops.specs.Spelling.{max_octets}
use Rattle.jr_journal.specs.declared.piece.Piece.{Piece}
use Rattle.jr_journal.specs.declared.piece.Piece.TheVariants.{Whole, Seal, Torn, Bad}
use Rattle.jr_journal.specs.declared.piece.Found.{Found}
use Rattle.jr_journal.specs.Records.{delta_bytes, written, piece_body_at, record_at, piece_at, found_of, ended, found_joined, one_record, one_seal, found}
use Rattle.jr_journal.specs.Readable.{IsReadable}
use Rattle.jr_journal.proofs.Pieces.{IsRecord, record_shape, record_again, record_same, seal_same, found_record, found_seal, found_second_seal, found_torn, found_bad, found_nothing, found_passed, found_skip}

-- ---- pieces after pieces

pub made_same : (d e : List (List Op)) (s : Bool) (m n : ℕ) (b : Bool) → d ≡ e → m ≡ n → found_of d s m b ≡ found_of e s n b
made_same d e s m n b p q = λ i. found_of (p i) s (q i) b

joined_nothing : (s : Bool) (q : Found) → q ≡ found_joined (ended s false) q
joined_nothing s q = made_same q.deltas q.deltas q.sealed q.whole (0 + q.whole) q.bad refl (omega arith)

joined_assoc : (a b q : Found) → found_joined (found_joined a b) q ≡ found_joined a (found_joined b q)
joined_assoc a b q = made_same ((a.deltas ++ b.deltas) ++ q.deltas) (a.deltas ++ (b.deltas ++ q.deltas)) q.sealed (a.whole + b.whole + q.whole) (a.whole + (b.whole + q.whole)) q.bad (append_assoc a.deltas b.deltas q.deltas) (omega arith)

pub found_append : (k : ℕ) (s : Bool) (xs ys : List ℕ) (r : Found) → found k s xs ≡ r → r.bad ≡ false → k + r.whole ≡ length xs → found k s (xs ++ ys) ≡ found_joined r (found 0 r.sealed ys)
found_append k s [] ys r e good all =
    let none : k ≡ 0 = omega arith in
    let is : ended s false ≡ r = sym (found_nothing k s) ∙ e in
    subst (λ (q : Found). found k s ys ≡ found_joined q (found 0 q.sealed ys)) is (ap (λ j. found j s ys) none ∙ joined_nothing s (found 0 s ys))
found_append (suc k) s (b ∷ rest) ys r e good all = found_passed k s b (rest ++ ys) ∙ found_append k s rest ys r (sym (found_passed k s b rest) ∙ e) good (omega arith)
found_append zero s (b ∷ rest) ys r e good all =
    elim (piece_at b rest) as (λ (p : Piece). piece_at b rest ≡ p → found 0 s (b ∷ (rest ++ ys)) ≡ found_joined r (found 0 r.sealed ys)) [
      | Whole delta n ↦ λ is.
          let q : Found = found (4 + n) s rest in
          let r_is : found_joined (one_record delta n s) q ≡ r = sym (found_record s b rest delta n is) ∙ e in
          let bad_is : q.bad ≡ r.bad = ap (λ (f : Found). f.bad) r_is in
          let whole_is : 5 + n + q.whole ≡ r.whole = ap (λ (f : Found). f.whole) r_is in
          let shape = record_shape b rest delta n is in
          let inside = shape.inside in
          let longer : length (rest ++ ys) ≡ length rest + length ys = length-append rest ys in
          let again : piece_at b (rest ++ ys) ≡ Whole delta n = record_again b (rest ++ ys) delta n (record_same b rest (rest ++ ys) delta n shape (omega arith) (take-append-le (4 + n) rest ys inside)) in
          let more : found (4 + n) s (rest ++ ys) ≡ found_joined q (found 0 q.sealed ys) = found_append (4 + n) s rest ys q refl (bad_is ∙ good) (omega arith) in
          subst (λ (f : Found). found 0 s (b ∷ (rest ++ ys)) ≡ found_joined f (found 0 f.sealed ys)) r_is
          (found_record s b (rest ++ ys) delta n again ∙ (ap (λ (f : Found). found_joined (one_record delta n s) f) more ∙ sym (joined_assoc (one_record delta n s) q (found 0 q.sealed ys))))
      | Seal ↦ λ is.
          elim s as (λ (t : Bool). s ≡ t → found 0 s (b ∷ (rest ++ ys)) ≡ found_joined r (found 0 r.sealed ys)) [
            | true ↦ λ flag.
                let r_is : ended true true ≡ r = sym (found_second_seal b rest is) ∙ (ap (λ t. found 0 t (b ∷ rest)) (sym flag) ∙ e) in
                absurd (let wrong : true ≡ r.bad = ap (λ (f : Found). f.bad) r_is in let clash : true ≡ false = wrong ∙ good in cc)
            | false ↦ λ flag.
                let q : Found = found 0 true rest in
                let r_is : found_joined one_seal q ≡ r = sym (found_seal b rest is) ∙ (ap (λ t. found 0 t (b ∷ rest)) (sym flag) ∙ e) in
                let bad_is : q.bad ≡ r.bad = ap (λ (f : Found). f.bad) r_is in
                let whole_is : 1 + q.whole ≡ r.whole = ap (λ (f : Found). f.whole) r_is in
                let more : found 0 true (rest ++ ys) ≡ found_joined q (found 0 q.sealed ys) = found_append zero true rest ys q refl (bad_is ∙ good) (omega arith) in
                ap (λ t. found 0 t (b ∷ (rest ++ ys))) flag ∙
                subst (λ (f : Found). found 0 false (b ∷ (rest ++ ys)) ≡ found_joined f (found 0 f.sealed ys)) r_is
                (found_seal b (rest ++ ys) (seal_same b rest (rest ++ ys) is) ∙ (ap (λ (f : Found). found_joined one_seal f) more ∙ sym (joined_assoc one_seal q (found 0 q.sealed ys))))
          ] refl
      | Torn ↦ λ is.
          let whole_is : 0 ≡ r.whole = ap (λ (f : Found). f.whole) (sym (found_torn s b rest is) ∙ e) in
          absurd (omega arith)
      | Bad ↦ λ is.
          let bad_is : true ≡ r.bad = ap (λ (f : Found). f.bad) (sym (found_bad s b rest is) ∙ e) in
          absurd (let clash : true ≡ false = bad_is ∙ good in cc)
    ] refl

-- the whole pieces of a slot are all that its reading needs
pub found_cut : (k : ℕ) (s : Bool) (xs : List ℕ) (r : Found) → found k s xs ≡ r → r.bad ≡ false → k ≤ length xs → found k s (take (k + r.whole) xs) ≡ r
found_cut k s [] r e good inside =
    let none : k ≡ 0 = omega arith in
    let is : ended s false ≡ r = sym (found_nothing k s) ∙ e in
    let whole_is : 0 ≡ r.whole = ap (λ (f : Found). f.whole) is in
    let zero_is : k + r.whole ≡ 0 = omega arith in
    ap (λ j. found k s (take j [])) zero_is ∙ e
found_cut (suc k) s (b ∷ rest) r e good inside =
    let step : suc k + r.whole ≡ suc (k + r.whole) = omega arith in
    ap (λ j. found (suc k) s (take j (b ∷ rest))) step ∙ (found_passed k s b (take (k + r.whole) rest) ∙ found_cut k s rest r (sym (found_passed k s b rest) ∙ e) good (omega arith))
found_cut zero s (b ∷ rest) r e good inside =
    elim (piece_at b rest) as (λ (p : Piece). piece_at b rest ≡ p → found 0 s (take (0 + r.whole) (b ∷ rest)) ≡ r) [
      | Whole delta n ↦ λ is.
          let q : Found = found (4 + n) s rest in
          let r_is : found_joined (one_record delta n s) q ≡ r = sym (found_record s b rest delta n is) ∙ e in
          let bad_is : q.bad ≡ r.bad = ap (λ (f : Found). f.bad) r_is in
          let whole_is : 5 + n + q.whole ≡ r.whole = ap (λ (f : Found). f.whole) r_is in
          let step : 0 + r.whole ≡ suc (4 + n + q.whole) = omega arith in
          let shape = record_shape b rest delta n is in
          let within = shape.inside in
          let short : List ℕ = take (4 + n + q.whole) rest in
          let again : piece_at b short ≡ Whole delta n = record_again b short delta n (record_same b rest short delta n shape (omega (arith, length-take (4 + n + q.whole) rest)) (take-take (4 + n) (4 + n + q.whole) rest (omega arith))) in
          let more : found (4 + n) s short ≡ q = found_cut (4 + n) s rest q refl (bad_is ∙ good) within in
          ap (λ j. found 0 s (take j (b ∷ rest))) step ∙ (found_record s b short delta n again ∙ (ap (λ (f : Found). found_joined (one_record delta n s) f) more ∙ r_is))
      | Seal ↦ λ is.
          elim s as (λ (t : Bool). s ≡ t → found 0 s (take (0 + r.whole) (b ∷ rest)) ≡ r) [
            | true ↦ λ flag.
                let r_is : ended true true ≡ r = sym (found_second_seal b rest is) ∙ (ap (λ t. found 0 t (b ∷ rest)) (sym flag) ∙ e) in
                absurd (let wrong : true ≡ r.bad = ap (λ (f : Found). f.bad) r_is in let clash : true ≡ false = wrong ∙ good in cc)
            | false ↦ λ flag.
                let q : Found = found 0 true rest in
                let r_is : found_joined one_seal q ≡ r = sym (found_seal b rest is) ∙ (ap (λ t. found 0 t (b ∷ rest)) (sym flag) ∙ e) in
                let bad_is : q.bad ≡ r.bad = ap (λ (f : Found). f.bad) r_is in
                let whole_is : 1 + q.whole ≡ r.whole = ap (λ (f : Found). f.whole) r_is in
                let step : 0 + r.whole ≡ suc (0 + q.whole) = omega arith in
                let more : found 0 true (take (0 + q.whole) rest) ≡ q = found_cut zero true rest q refl (bad_is ∙ good) (omega arith) in
                ap (λ t. found 0 t (take (0 + r.whole) (b ∷ rest))) flag ∙ (ap (λ j. found 0 false (take j (b ∷ rest))) step ∙
                (found_seal b (take (0 + q.whole) rest) (seal_same b rest (take (0 + q.whole) rest) is) ∙ (ap (λ (f : Found). found_joined one_seal f) more ∙ r_is)))
          ] refl
      | Torn ↦ λ is.
          let r_is : ended s false ≡ r = sym (found_torn s b rest is) ∙ e in
          let whole_is : 0 ≡ r.whole = ap (λ (f : Found). f.whole) r_is in
          let step : 0 + r.whole ≡ 0 = omega arith in
          ap (λ j. found 0 s (take j (b ∷ rest))) step ∙ (found_nothing 0 s ∙ r_is)
      | Bad ↦ λ is.
          let bad_is : true ≡ r.bad = ap (λ (f : Found). f.bad) (sym (found_bad s b rest is) ∙ e) in
          absurd (let clash : true ≡ false = bad_is ∙ good in cc)
    ] refl

-- the whole pieces lie within the bytes
pub found_inside : (k : ℕ) (s : Bool) (xs : List ℕ) (r : Found) → found k s xs ≡ r → k ≤ length xs → k + r.whole ≤ length xs
found_inside k s [] r e inside =
    let whole_is : 0 ≡ r.whole = ap (λ (f : Found). f.whole) (sym (found_nothing k s) ∙ e) in
    omega arith
found_inside (suc k) s (b ∷ rest) r e inside =
    let more : k + r.whole ≤ length rest = found_inside k s rest r (sym (found_passed k s b rest) ∙ e) (omega arith) in
    omega arith
found_inside zero s (b ∷ rest) r e inside =
    elim (piece_at b rest) as (λ (p : Piece). piece_at b rest ≡ p → 0 + r.whole ≤ length (b ∷ rest)) [
      | Whole delta n ↦ λ is.
          let q : Found = found (4 + n) s rest in
          let whole_is : 5 + n + q.whole ≡ r.whole = ap (λ (f : Found). f.whole) (sym (found_record s b rest delta n is) ∙ e) in
          let within = (record_shape b rest delta n is).inside in
          let more : 4 + n + q.whole ≤ length rest = found_inside (4 + n) s rest q refl within in
          omega arith
      | Seal ↦ λ is.
          elim s as (λ (t : Bool). s ≡ t → 0 + r.whole ≤ length (b ∷ rest)) [
            | true ↦ λ flag.
                let whole_is : 0 ≡ r.whole = ap (λ (f : Found). f.whole) (sym (found_second_seal b rest is) ∙ (ap (λ t. found 0 t (b ∷ rest)) (sym flag) ∙ e)) in
                omega arith
            | false ↦ λ flag.
                let q : Found = found 0 true rest in
                let whole_is : 1 + q.whole ≡ r.whole = ap (λ (f : Found). f.whole) (sym (found_seal b rest is) ∙ (ap (λ t. found 0 t (b ∷ rest)) (sym flag) ∙ e)) in
                let more : 0 + q.whole ≤ length rest = found_inside zero true rest q refl (omega arith) in
                omega arith
          ] refl
      | Torn ↦ λ is.
          let whole_is : 0 ≡ r.whole = ap (λ (f : Found). f.whole) (sym (found_torn s b rest is) ∙ e) in
          omega arith
      | Bad ↦ λ is.
          let whole_is : 0 ≡ r.whole = ap (λ (f : Found). f.whole) (sym (found_bad s b rest is) ∙ e) in
          omega arith
    ] refl

-- ---- a record that was written

abbrev behind_tag : List Op → List ℕ
behind_tag delta = big_bytes 4 (length (delta_bytes delta)) ++ delta_bytes delta

length_behind : (delta : List Op) → length (behind_tag delta) ≡ 4 + length (delta_bytes delta)
length_behind delta = omega arith

pub written_record : (delta : List Op) → IsReadable delta → IsRecord 68 (behind_tag delta) delta (length (delta_bytes delta))
written_record delta h =
    let n = length (delta_bytes delta) in
    let small = h.limit in
    let front : take 4 (behind_tag delta) ≡ big_bytes 4 n = take_at (big_bytes 4 n) (delta_bytes delta) 4 refl in
    let back : drop 4 (behind_tag delta) ≡ delta_bytes delta = drop_at (big_bytes 4 n) (delta_bytes delta) 4 refl in
    record {
      tag_is = refl;
      inside = omega (arith, length_behind delta);
      size = ap (λ xs. from_be_bytes w32 xs) front ∙ from_be_bytes-to_be_bytes_4 n (omega arith);
      limit = small;
      read = ap (λ xs. delta_reading (take n xs)) back ∙ (ap (λ xs. delta_reading xs) (take_all n (delta_bytes delta) (omega arith)) ∙ h.read);
    }

pub length_written : (delta : List Op) → length (written delta) ≡ 5 + length (delta_bytes delta)
length_written delta = omega (arith, length_behind delta)

pub found_written : (s : Bool) (delta : List Op) → IsReadable delta → found 0 s (written delta) ≡ one_record delta (length (delta_bytes delta)) s
found_written s delta h =
    let n = length (delta_bytes delta) in
    let rest = behind_tag delta in
    let all : drop (4 + n) rest ≡ [] = drop_of_length-le rest (omega (arith, length_behind delta)) in
    let nothing : found (4 + n) s rest ≡ ended s false = found_skip (4 + n) s rest ∙ (ap (λ xs. found 0 s xs) all ∙ found_nothing 0 s) in
    found_record s 68 rest delta n (record_again 68 rest delta n (written_record delta h)) ∙
    (ap (λ (f : Found). found_joined (one_record delta n s) f) nothing ∙ made_same (delta ∷ []) (delta ∷ []) s (5 + n + 0) (5 + n) false refl (omega arith))

cut_piece : (rest xs : List ℕ) (n : ℕ) → from_be_bytes w32 (take 4 rest) ≡ n → n ≤ max_octets → (4 ≤ length xs → take 4 xs ≡ take 4 rest) → length xs < 4 + n → piece_at 68 xs ≡ Torn
unfolding piece_at
cut_piece rest xs n size small front lt =
    elim (cases_lt (length xs) 4) [
      | inl few ↦ let t : nat_lt (length xs) 4 ≡ true = lt-ltb (length xs) 4 few in rw t refl
      | inr four ↦
          let t : nat_lt (length xs) 4 ≡ false = le-ltb (length xs) 4 four in
          let number : from_be_bytes w32 (take 4 xs) ≡ n = ap (λ ys. from_be_bytes w32 ys) (front four) ∙ size in
          let fits : nat_lt max_octets n ≡ false = le-ltb max_octets n small in
          let short : nat_lt (length (drop 4 xs)) n ≡ true = lt-ltb (length (drop 4 xs)) n (omega (arith, length-drop 4 xs)) in
          let first : record_at xs ≡ piece_body_at n (drop 4 xs) = rw t (ap (λ k. piece_body_at k (drop 4 xs)) number) in
          let second : piece_body_at n (drop 4 xs) ≡ Torn = rw (fits, short) refl in
          first ∙ second
    ]

pub found_front : (s : Bool) (delta : List Op) (k : ℕ) → IsReadable delta → k < length (written delta) → found 0 s (take k (written delta)) ≡ ended s false
found_front s delta zero h lt = found_nothing 0 s
found_front s delta (suc k) h lt =
    let n = length (delta_bytes delta) in
    let rest = behind_tag delta in
    let shape = written_record delta h in
    let long = length_written delta in
    found_torn s 68 (take k rest)
    (cut_piece rest (take k rest) n shape.size shape.limit (λ four. take-take 4 k rest (omega (arith, length-take k rest))) (omega (arith, length-take k rest)))
