-- The bytes of a compacted slot: whole, or cut anywhere.
use Rattle.std.proofs.Common.{◌≡◌, ℕ, zero, suc, ◌+◌, ◌-◌, ◌^◌, ◌<◌, ◌≤◌, Bool, true, false, cond, List, [], ◌∷◌, ◌++◌, flat_map, length, take, drop, min, refl, sym, ap, subst, ◌∙◌, inl, inr, arith}
use Rattle.std.specs.List.{AllByRecursion}
use Rattle.std.specs.Int.{w64, from_be_bytes}
use Rattle.std.specs.Str.{bytes_eq}
use Rattle.std.proofs.lemmas.Bool.{cases_lt}
use Rattle.std.proofs.lemmas.Slice.Eq.{bytes_eq-Decides}
use Rattle.std.proofs.lemmas.List.{take_all, take-take, take-append-le, take_at, length-take, length-append, drop-take}
use Rattle.std.proofs.lemmas.Nat.{from_be_bytes-to_be_bytes_8}
use Rattle.byteorder.specs.Endian.{big_bytes}
use Rattle.rep_op.specs.declared.op.Op.{Op}
use Rattle.jr_journal.specs.declared.piece.Piece.TheVariants.{Seal}
use Rattle.jr_journal.specs.declared.piece.Found.{Found}
use Rattle.jr_journal.specs.declared.content.SlotContent.TheVariants.{Unsealed, Sealed, Broken}
use Rattle.jr_journal.specs.Records.{delta_bytes, written, found_of, ended, found_joined, one_record, one_seal, found, piece_at, slot_content, magic, base_bytes, begins, after_header}
use Rattle.jr_journal.specs.Readable.{IsReadable}
use Rattle.jr_journal.proofs.Append.{made_same, found_append, found_written, found_front, length_written}
use Rattle.jr_journal.proofs.Pieces.{found_seal, found_nothing}
use Rattle.jr_journal.proofs.Contents.{IsSealed, content_cut, content_whole}

begins_itself : (xs : List ℕ) → bytes_eq xs xs ≡ true
begins_itself xs = (bytes_eq-Decides xs xs).1 refl

-- records one after the other
abbrev pub base_of : List (List Op) → List ℕ
base_of base = flat_map written base

abbrev pub many : Bool → List (List Op) → Found
many sealed base = found_of base sealed (length (base_of base)) false

pub found_many : (s : Bool) (base : List (List Op)) → AllByRecursion IsReadable base → found 0 s (base_of base) ≡ many s base
found_many s [] h = found_nothing 0 s
found_many s (delta ∷ base) h =
    let one = one_record delta (length (delta_bytes delta)) s in
    let size = length_written delta in
    let more : found 0 s (written delta ++ base_of base) ≡ found_joined one (found 0 s (base_of base)) =
    found_append 0 s (written delta) (base_of base) one (found_written s delta h.0) refl (omega (arith, size)) in
    more ∙ (ap (λ q. found_joined one q) (found_many s base h.1)
    ∙ made_same (delta ∷ base) (delta ∷ base) s (5 + length (delta_bytes delta) + length (base_of base)) (length (written delta ++ base_of base)) false refl (omega (arith, size, length-append (written delta) (base_of base))))

seal_piece : piece_at 83 [] ≡ Seal
unfolding piece_at
seal_piece = refl

abbrev pub body_of : List (List Op) → List ℕ
body_of base = base_of base ++ 83 ∷ []

abbrev pub whole_of : List (List Op) → Found
whole_of base = found_of (base ++ []) true (length (base_of base) + 1) false

pub found_body : (base : List (List Op)) → AllByRecursion IsReadable base → found 0 false (body_of base) ≡ whole_of base
found_body base h =
    found_append 0 false (base_of base) (83 ∷ []) (many false base) (found_many false base h) refl (omega arith)
    ∙ ap (λ q. found_joined (many false base) q) (found_seal 83 [] seal_piece ∙ ap (λ q. found_joined one_seal q) (found_nothing 0 true))

-- cut before the seal, no seal is found and nothing bad
pub record IsOpen (bytes : List ℕ) : Type 0 where
  pub pieces : Found
  pub is : found 0 false bytes ≡ pieces
  pub unsealed : pieces.sealed ≡ false
  pub good : pieces.bad ≡ false

open_at : (xs ys : List ℕ) → ys ≡ xs → IsOpen xs → IsOpen ys
open_at xs ys e h = subst IsOpen (sym e) h

-- a cut behind a front part
pub take_behind : (n : ℕ) (xs ys : List ℕ) → length xs ≤ n → take n (xs ++ ys) ≡ xs ++ take (n - length xs) ys
take_behind n [] ys le = ap (λ k. take k ys) (let e : n ≡ n - 0 = omega arith in e)
take_behind zero (x ∷ xs) ys le = absurd (omega arith)
take_behind (suc n) (x ∷ xs) ys le = ap (λ zs. x ∷ zs) (take_behind n xs ys (omega arith) ∙ ap (λ k. xs ++ take k ys) (let e : n - length xs ≡ suc n - suc (length xs) = omega arith in e))

open_front : (base : List (List Op)) (n : ℕ) → AllByRecursion IsReadable base → IsOpen (take n (base_of base))
open_front [] n h = open_at [] (take n []) (take_all n [] (omega arith)) (record { pieces = ended false false; is = found_nothing 0 false; unsealed = refl; good = refl })
open_front (delta ∷ base) n h =
    let size = length_written delta in
    elim (cases_lt n (length (written delta))) [
      | inl lt ↦ open_at (take n (written delta)) (take n (written delta ++ base_of base)) (take-append-le n (written delta) (base_of base) (omega arith))
          (record { pieces = ended false false; is = found_front false delta n h.0 lt; unsealed = refl; good = refl })
      | inr le ↦
          let one = one_record delta (length (delta_bytes delta)) false in
          let rest = open_front base (n - length (written delta)) h.1 in
          open_at (written delta ++ take (n - length (written delta)) (base_of base)) (take n (written delta ++ base_of base)) (take_behind n (written delta) (base_of base) le)
          (record {
            pieces = found_joined one rest.pieces;
            is = found_append 0 false (written delta) (take (n - length (written delta)) (base_of base)) one (found_written false delta h.0) refl (omega (arith, size)) ∙ ap (λ q. found_joined one q) rest.is;
            unsealed = rest.unsealed;
            good = rest.good;
          })
    ]

-- ---- with the header

front_begins : (gateway generation n : ℕ) (base : List (List Op)) → begins gateway (take n (base_bytes gateway generation base)) ≡ true
front_begins gateway generation n base =
    let bytes = base_bytes gateway generation base in
    let xs = take n bytes in
    let m = min (length xs) 5 in
    let small : m ≤ n = omega (arith, length-take n bytes) in
    let front : take m xs ≡ take m (magic gateway) = take-take m n bytes small ∙ take-append-le m (magic gateway) (big_bytes 8 generation ++ body_of base) (omega arith) in
    ap (λ ys. bytes_eq ys (take m (magic gateway))) front ∙ begins_itself (take m (magic gateway))

open_case : (b s : Bool) (at n : ℕ) (q : Found) → b ≡ false → s ≡ false → cond b (Broken at) (cond s (Sealed n q) Unsealed) ≡ Unsealed
open_case true s at n q bad seal = absurd cc
open_case false true at n q bad seal = absurd cc
open_case false false at n q bad seal = refl

after_open : (n : ℕ) (q : Found) → q.bad ≡ false → q.sealed ≡ false → after_header n q ≡ Unsealed
after_open n q bad seal = open_case q.bad q.sealed (13 + q.whole) n q bad seal

behind_header : (gateway generation : ℕ) (base : List (List Op)) → drop 13 (base_bytes gateway generation base) ≡ body_of base
behind_header gateway generation base = refl

length_base : (gateway generation : ℕ) (base : List (List Op)) → length (base_bytes gateway generation base) ≡ 14 + length (base_of base)
length_base gateway generation base = omega (arith, length-append (base_of base) (83 ∷ []))

-- cut anywhere, the slot is unsealed
pub cut_slot : (gateway generation n : ℕ) (base : List (List Op)) → AllByRecursion IsReadable base → n < length (base_bytes gateway generation base) → slot_content gateway (take n (base_bytes gateway generation base)) ≡ Unsealed
cut_slot gateway generation n base h lt =
    let bytes = base_bytes gateway generation base in
    let xs = take n bytes in
    let size = length_base gateway generation base in
    elim (cases_lt n 13) [
      | inl short ↦ sym (content_cut gateway xs (front_begins gateway generation n base) (omega (arith, length-take n bytes)))
      | inr long ↦
          let rest : n ≡ 13 + (n - 13) = omega arith in
          let behind : drop 13 xs ≡ take (n - 13) (base_of base) =
          ap (λ k. drop 13 (take k bytes)) rest ∙ (drop-take 13 (n - 13) bytes ∙ (ap (λ ys. take (n - 13) ys) (behind_header gateway generation base) ∙ take-append-le (n - 13) (base_of base) (83 ∷ []) (omega (arith, size)))) in
          let front = open_front base (n - 13) h in
          let pieces : found 0 false (drop 13 xs) ≡ front.pieces = ap (λ ys. found 0 false ys) behind ∙ front.is in
          sym (content_whole gateway xs (front_begins gateway generation n base) (omega (arith, length-take n bytes, size)))
          ∙ (ap (λ q. after_header (from_be_bytes w64 (take 8 (drop 5 xs))) q) pieces ∙ after_open (from_be_bytes w64 (take 8 (drop 5 xs))) front.pieces front.good front.unsealed)
    ]

-- and whole, it is sealed
pub whole_slot : (gateway generation : ℕ) (base : List (List Op)) → AllByRecursion IsReadable base → generation < 2 ^ 64 → IsSealed gateway (base_bytes gateway generation base) generation (whole_of base)
whole_slot gateway generation base h fits =
    let bytes = base_bytes gateway generation base in
    let size = length_base gateway generation base in
    record {
      header = subst (λ (ys : List ℕ). begins gateway ys ≡ true) (take_all (length bytes) bytes (omega arith)) (front_begins gateway generation (length bytes) base);
      long = omega (arith, size);
      number = ap (λ ys. from_be_bytes w64 ys) (take_at (big_bytes 8 generation) (body_of base) 8 refl) ∙ from_be_bytes-to_be_bytes_8 generation fits;
      pieces = ap (λ ys. found 0 false ys) (behind_header gateway generation base) ∙ found_body base h;
      good = refl;
      seal = refl;
    }

pub whole_full : (gateway generation : ℕ) (base : List (List Op)) → 13 + (whole_of base).whole ≡ length (base_bytes gateway generation base)
whole_full gateway generation base = omega (arith, length_base gateway generation base)
