-- Where records stand: the pieces of a slot, one record after the other.
use Rattle.std.proofs.Common.{◌≡◌, ◌⊎◌, ℕ, suc, ◌+◌, ◌-◌, ◌≤◌, ◌<◌, Bool, true, false, List, [], ◌∷◌, ◌++◌, length, take, drop, get_or, refl, sym, ap, subst, ◌∙◌, inl, inr, arith, eqb-true}
use Rattle.std.specs.Prelude.{◌==◌, None}
use Rattle.std.specs.Int.{w32, from_be_bytes}
use Rattle.std.proofs.lemmas.Bool.{cases_Bool}
use Rattle.std.proofs.lemmas.List.{drop_more, take_more, drop-drop, length-drop}
use Rattle.rep_op.specs.declared.op.Op.{Op}
use Rattle.jr_journal.specs.declared.piece.Piece.TheVariants.{Whole, Seal, Torn, Bad}
use Rattle.jr_journal.specs.declared.piece.Found.{Found}
use Rattle.jr_journal.specs.declared.content.SlotContent.TheVariants.{Sealed}
use Rattle.jr_disk.specs.declared.disk.Slot.{Slot}
use Rattle.jr_disk.specs.declared.disk.Slot.TheVariants.{First, Second}
use Rattle.jr_journal.specs.declared.opening.Opening.{Opening}
use Rattle.jr_journal.specs.declared.opening.Opening.TheVariants.{New, Held}
use Rattle.jr_disk.specs.Disk.{Image}
use Rattle.jr_journal.specs.Records.{piece_at, found, slot_content, records}
use Rattle.jr_journal.specs.Faults.{fault_of}
use Rattle.jr_journal.specs.Opening.{slot_read}
use Rattle.jr_journal.specs.inner.Opening.{opening_of, deltas_of, opening_slot, IsOpening}
use Rattle.jr_journal.proofs.Pieces.{record_shape, seal_same, found_record, found_seal, found_second_seal, found_torn, found_bad, found_nothing, found_skip}
use Rattle.jr_journal.proofs.Contents.{sealed_shape}
use Rattle.jr_journal.proofs.Sound.{image_at}
use Rattle.jr_journal.proofs.Opened.{Ruled, ruled, opening_records, opening_place}
use Rattle.jr_read.specs.declared.places.Place.{Place}
use Rattle.jr_read.specs.Places.{octets_in, piece_in, IsPlaced, ArePlaced}
use Rattle.jr_read.specs.inner.Places.{Holds, after_seal}

-- ---- one record

-- in front stands the whole record of this delta, and after it these are the records
pub record IsNext (start : List ℕ) (delta : List Op) (deltas : List (List Op)) : Type 0 where
  pub size : ℕ
  pub piece : piece_in start ≡ Whole delta size
  pub inside : 5 + size ≤ length start
  pub tells : from_be_bytes w32 (take 4 (drop 1 start)) ≡ size
  pub behind : Holds (drop (5 + size) start) deltas

front_is : (x d : List Op) (xs ds : List (List Op)) → x ∷ xs ≡ d ∷ ds → (x ≡ d) × (xs ≡ ds)
front_is x d xs ds e = (cc, cc)

nothing_left : (d : List Op) (ds : List (List Op)) (f : Found) → f.deltas ≡ [] → f.deltas ≡ d ∷ ds → ⊥
nothing_left d ds f none h = let wrong : [] ≡ d ∷ ds = sym none ∙ h in cc

behind_tag : (b : ℕ) (rest : List ℕ) (n : ℕ) → drop (5 + n) (b ∷ rest) ≡ drop (4 + n) rest
behind_tag b rest n = let more : 5 + n ≡ suc (4 + n) = omega arith in ap (λ k. drop k (b ∷ rest)) more

whole_next : (s : Bool) (b : ℕ) (rest : List ℕ) (x : List Op) (n : ℕ) (d : List Op) (ds : List (List Op)) → piece_at b rest ≡ Whole x n → (found 0 s (b ∷ rest)).deltas ≡ d ∷ ds → IsNext (b ∷ rest) d ds
whole_next s b rest x n d ds e h =
    let shape = record_shape b rest x n e in
    let one : (found 0 s (b ∷ rest)).deltas ≡ x ∷ (found (4 + n) s rest).deltas = ap (λ (f : Found). f.deltas) (found_record s b rest x n e) in
    let parts = front_is x d (found (4 + n) s rest).deltas ds (sym one ∙ h) in
    let skip : found (4 + n) s rest ≡ found 0 s (drop (5 + n) (b ∷ rest)) = found_skip (4 + n) s rest ∙ ap (λ xs. found 0 s xs) (sym (behind_tag b rest n)) in
    record {
      size = n;
      piece = e ∙ ap (λ y. Whole y n) parts.0;
      inside = let i = shape.inside in omega arith;
      tells = shape.size;
      behind = (s, sym (ap (λ (f : Found). f.deltas) skip) ∙ parts.1);
    }

-- ---- the seal

seal_stands : (b : ℕ) (rest : List ℕ) → (b == 83) ≡ true → piece_at b rest ≡ Seal
unfolding piece_at
seal_stands b rest is =
    let other : (b == 68) ≡ false = ap (λ k. k == 68) (eqb-true b 83 is) in
    rw (other, is) refl

no_seal : (b : ℕ) (rest : List ℕ) → (b == 83) ≡ false → piece_at b rest ≡ Seal → ⊥
unfolding piece_at
no_seal b rest other e =
    let alone : piece_at b [] ≡ Seal = seal_same b rest [] e in
    elim (cases_Bool (b == 68)) [
      | inl is ↦ (let wrong : Torn ≡ Seal = rw is at alone in cc)
      | inr bad ↦ (let wrong : Bad ≡ Seal = rw (bad, other) at alone in cc)
    ]

-- after the seal the next piece is a record
sealed_next : (bytes : List ℕ) (d : List Op) (ds : List (List Op)) → (found 0 true bytes).deltas ≡ d ∷ ds → IsNext bytes d ds
sealed_next [] d ds h = absurd (nothing_left d ds (found 0 true []) (ap (λ (f : Found). f.deltas) (found_nothing 0 true)) h)
sealed_next (b ∷ rest) d ds h =
    elim (piece_at b rest) as (λ p. piece_at b rest ≡ p → IsNext (b ∷ rest) d ds) [
      | Whole x n ↦ λ e. whole_next true b rest x n d ds e h
      | Seal ↦ λ e. absurd (nothing_left d ds (found 0 true (b ∷ rest)) (ap (λ (f : Found). f.deltas) (found_second_seal b rest e)) h)
      | Torn ↦ λ e. absurd (nothing_left d ds (found 0 true (b ∷ rest)) (ap (λ (f : Found). f.deltas) (found_torn true b rest e)) h)
      | Bad ↦ λ e. absurd (nothing_left d ds (found 0 true (b ∷ rest)) (ap (λ (f : Found). f.deltas) (found_bad true b rest e)) h)
    ] refl

record_next : (s : Bool) (b : ℕ) (rest : List ℕ) (d : List Op) (ds : List (List Op)) → (b == 83) ≡ false → (found 0 s (b ∷ rest)).deltas ≡ d ∷ ds → IsNext (b ∷ rest) d ds
record_next s b rest d ds other h =
    elim (piece_at b rest) as (λ p. piece_at b rest ≡ p → IsNext (b ∷ rest) d ds) [
      | Whole x n ↦ λ e. whole_next s b rest x n d ds e h
      | Seal ↦ λ e. absurd (no_seal b rest other e)
      | Torn ↦ λ e. absurd (nothing_left d ds (found 0 s (b ∷ rest)) (ap (λ (f : Found). f.deltas) (found_torn s b rest e)) h)
      | Bad ↦ λ e. absurd (nothing_left d ds (found 0 s (b ∷ rest)) (ap (λ (f : Found). f.deltas) (found_bad s b rest e)) h)
    ] refl

past_seal : (s : Bool) (b : ℕ) (rest : List ℕ) (d : List Op) (ds : List (List Op)) → piece_at b rest ≡ Seal → (found 0 s (b ∷ rest)).deltas ≡ d ∷ ds → (found 0 true rest).deltas ≡ d ∷ ds
past_seal false b rest d ds e h = sym (ap (λ (f : Found). f.deltas) (found_seal b rest e)) ∙ h
past_seal true b rest d ds e h = absurd (nothing_left d ds (found 0 true (b ∷ rest)) (ap (λ (f : Found). f.deltas) (found_second_seal b rest e)) h)

-- after a seal, where there is one in front, stands the next record
pub next : (bytes : List ℕ) (d : List Op) (ds : List (List Op)) → Holds bytes (d ∷ ds) → IsNext (after_seal bytes) d ds
next [] d ds h = absurd (nothing_left d ds (found 0 h.0 []) (ap (λ (f : Found). f.deltas) (found_nothing 0 h.0)) h.1)
next (b ∷ rest) d ds h =
    elim (cases_Bool (b == 83)) [
      | inl is ↦
          let place : after_seal (b ∷ rest) ≡ rest = rw is refl in
          subst (λ (xs : List ℕ). IsNext xs d ds) (sym place) (sealed_next rest d ds (past_seal h.0 b rest d ds (seal_stands b rest is) h.1))
      | inr other ↦
          let place : after_seal (b ∷ rest) ≡ b ∷ rest = rw other refl in
          subst (λ (xs : List ℕ). IsNext xs d ds) (sym place) (record_next h.0 b rest d ds other h.1)
    ]

-- ---- the records of two slots

-- the records of a slot are those behind its header, or there is none
abbrev pub AreAll : List ℕ → List (List Op) → Type 0
AreAll bytes deltas = (deltas ≡ []) ⊎ Holds bytes deltas

sealed_holds : (gateway : ℕ) (slot : Slot) (i : Image) (m : ℕ) (f : Found) → slot_content gateway (image_at i slot) ≡ Sealed m f → Holds (drop 13 (octets_in i slot)) f.deltas
sealed_holds gateway First i m f e = (false, ap (λ (g : Found). g.deltas) (sealed_shape gateway i.first m f e).pieces)
sealed_holds gateway Second i m f e = (false, ap (λ (g : Found). g.deltas) (sealed_shape gateway i.second m f e).pieces)

-- the records that are read are those of the slot that is read
pub all_records : (gateway : ℕ) (i : Image) (slot : Slot) (deltas : List (List Op)) → deltas ≡ records gateway i → slot ≡ slot_read gateway i → fault_of gateway i ≡ None → AreAll (drop 13 (octets_in i slot)) deltas
all_records gateway i slot deltas is place none =
    let o = opening_of (slot_content gateway i.first) (length i.first) (slot_content gateway i.second) (length i.second) in
    let h : IsOpening gateway i o = (none, refl) in
    go o (ruled gateway i o h) (is ∙ sym (opening_records gateway i o h)) (place ∙ sym (opening_place gateway i o h).0)
  where
    go : (o : Opening) → Ruled gateway i o → deltas ≡ deltas_of o → slot ≡ opening_slot o → AreAll (drop 13 (octets_in i slot)) deltas
    go New r same there = inl same
    go (Held used m f n) r same there =
        inr (subst (λ (s : Slot). Holds (drop 13 (octets_in i s)) deltas) (sym there) (subst (λ (ds : List (List Op)). Holds (drop 13 (octets_in i used)) ds) (sym same) (sealed_holds gateway used i m f r.0)))

-- ---- one record after the other

-- one more of the deltas, and where its record stands
pub record HasNext (left : List ℕ) (deltas : List (List Op)) (i : ℕ) : Type 0 where
  pub delta : List Op
  pub more : take (i + 1) deltas ≡ take i deltas ++ delta ∷ []
  pub stands : IsNext (after_seal left) delta (drop (i + 1) deltas)

next_of : (left : List ℕ) (deltas : List (List Op)) (i : ℕ) → i < length deltas → AreAll left (drop i deltas) → HasNext left deltas i
next_of left deltas i within h =
    let d : List Op = get_or deltas i [] in
    let from : drop i deltas ≡ d ∷ drop (i + 1) deltas = drop_more deltas i [] within in
    record {
      delta = d;
      more = take_more deltas i [] within;
      stands =
          elim h [
            | inl none ↦ absurd (let wrong : [] ≡ d ∷ drop (i + 1) deltas = sym none ∙ from in cc)
            | inr holds ↦ next left d (drop (i + 1) deltas) (subst (λ (ds : List (List Op)). Holds left ds) from holds)
          ];
    }

placed_more : (slot : List ℕ) (places : List Place) (deltas : List (List Op)) (place : Place) (delta : List Op) → ArePlaced slot places deltas → IsPlaced slot place delta → ArePlaced slot (places ++ place ∷ []) (deltas ++ delta ∷ [])
placed_more slot [] [] place delta h one = (one, tt)
placed_more slot (p ∷ places) (d ∷ deltas) place delta h one = (h.0, placed_more slot places deltas place delta h.1 one)
placed_more slot [] (d ∷ deltas) place delta h one = absurd h
placed_more slot (p ∷ places) [] place delta h one = absurd h

-- ---- what is left is an end of the slot

-- an end of an end
end_of_end : (slot left rest : List ℕ) (n : ℕ) → length left ≤ length slot → left ≡ drop (length slot - length left) slot → n ≤ length left → rest ≡ drop n left → rest ≡ drop (length slot - length rest) slot
end_of_end slot left rest n inside place fits is =
    let size : length rest ≡ length (drop n left) = ap length is in
    let from : (length slot - length left) + n ≡ length slot - length rest = omega (arith, length-drop n left) in
    is ∙ (ap (λ xs. drop n xs) place ∙ (drop-drop n (length slot - length left) slot ∙ ap (λ k. drop k slot) from))

shorter : (left : List ℕ) → length (after_seal left) ≤ length left
shorter [] = omega arith
shorter (b ∷ rest) =
    elim (cases_Bool (b == 83)) [
      | inl is ↦ let size : length (after_seal (b ∷ rest)) ≡ length rest = rw is refl in omega arith
      | inr other ↦ let size : length (after_seal (b ∷ rest)) ≡ length (b ∷ rest) = rw other refl in omega arith
    ]

seal_place : (slot left : List ℕ) → length left ≤ length slot → left ≡ drop (length slot - length left) slot → after_seal left ≡ drop (length slot - length (after_seal left)) slot
seal_place slot [] inside place = place
seal_place slot (b ∷ rest) inside place =
    elim (cases_Bool (b == 83)) [
      | inl is ↦
          let here : after_seal (b ∷ rest) ≡ rest = rw is refl in
          subst (λ (xs : List ℕ). xs ≡ drop (length slot - length xs) slot) (sym here) (end_of_end slot (b ∷ rest) rest 1 inside place (omega arith) refl)
      | inr other ↦
          let here : after_seal (b ∷ rest) ≡ b ∷ rest = rw other refl in
          subst (λ (xs : List ℕ). xs ≡ drop (length slot - length xs) slot) (sym here) place
    ]

-- so many records stand at their places, and what is left has the others
pub record AreSoFar (slot left : List ℕ) (places : List Place) (deltas : List (List Op)) (i : ℕ) : Type 0 where
  pub placed : ArePlaced slot places (take i deltas)
  pub inside : length left ≤ length slot
  pub place : left ≡ drop (length slot - length left) slot
  pub all : AreAll left (drop i deltas)

-- there is room for a length after the tag
pub has_length : (left start : List ℕ) (deltas : List (List Op)) (i : ℕ) → i < length deltas → AreAll left (drop i deltas) → start ≡ after_seal left → 5 ≤ length start
has_length left start deltas i within all is =
    let n = next_of left deltas i within all in
    let inside = n.stands.inside in
    let size : length start ≡ length (after_seal left) = ap length is in
    omega arith

-- the record that stands in front is as long as it tells
next_whole : (start : List ℕ) (delta : List Op) (deltas : List (List Op)) (size : ℕ) (h : IsNext start delta deltas) → size ≡ 5 + from_be_bytes w32 (take 4 (drop 1 start)) → size ≡ 5 + h.size
next_whole start delta deltas size h is = is ∙ ap (λ k. 5 + k) h.tells

pub has_record : (left start : List ℕ) (deltas : List (List Op)) (i size : ℕ) → i < length deltas → AreAll left (drop i deltas) → start ≡ after_seal left → size ≡ 5 + from_be_bytes w32 (take 4 (drop 1 start)) → size ≤ length start
has_record left start deltas i size within all is size_is =
    let n = next_of left deltas i within all in
    let h : IsNext start n.delta (drop (i + 1) deltas) = subst (λ (xs : List ℕ). IsNext xs n.delta (drop (i + 1) deltas)) (sym is) n.stands in
    let whole : size ≡ 5 + h.size = next_whole start n.delta (drop (i + 1) deltas) size h size_is in
    let inside = h.inside in
    omega arith

pub one_more : (slot left start rest : List ℕ) (places more : List Place) (deltas : List (List Op)) (i size : ℕ) → i < length deltas → AreSoFar slot left places deltas i → start ≡ after_seal left
    → size ≡ 5 + from_be_bytes w32 (take 4 (drop 1 start)) → rest ≡ drop size start → more ≡ places ++ record { at = length slot - length start; octets = size } ∷ [] → AreSoFar slot rest more deltas (i + 1)
one_more slot left start rest places more deltas i size within so_far is size_is rest_is more_is =
    let n = next_of left deltas i within so_far.all in
    let h : IsNext start n.delta (drop (i + 1) deltas) = subst (λ (xs : List ℕ). IsNext xs n.delta (drop (i + 1) deltas)) (sym is) n.stands in
    let whole : size ≡ 5 + h.size = next_whole start n.delta (drop (i + 1) deltas) size h size_is in
    let fits = h.inside in
    let begins : start ≡ drop (length slot - length start) slot = subst (λ (xs : List ℕ). xs ≡ drop (length slot - length xs) slot) (sym is) (seal_place slot left so_far.inside so_far.place) in
    let start_size : length start ≡ length (after_seal left) = ap length is in
    let rest_size : length rest ≡ length (drop size start) = ap length rest_is in
    let left_size = so_far.inside in
    let place : Place = record { at = length slot - length start; octets = size } in
    let one : IsPlaced slot place n.delta = (h.size, ap (λ xs. piece_in xs) (sym begins) ∙ h.piece, whole) in
    record {
      placed =
          subst (λ (ps : List Place). ArePlaced slot ps (take (i + 1) deltas)) (sym more_is)
          (subst (λ (ds : List (List Op)). ArePlaced slot (places ++ place ∷ []) ds) (sym n.more) (placed_more slot places (take i deltas) place n.delta so_far.placed one));
      inside = omega (arith, shorter left, length-drop size start);
      place = end_of_end slot start rest size (omega (arith, shorter left)) begins (omega arith) rest_is;
      all = inr (subst (λ (xs : List ℕ). Holds xs (drop (i + 1) deltas)) (sym (rest_is ∙ ap (λ k. drop k start) whole)) h.behind);
    }
