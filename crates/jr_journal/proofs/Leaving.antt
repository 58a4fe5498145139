-- What a crash leaves after an opening that failed.
use Rattle.std.proofs.Common.{◌≡◌, ℕ, ◌<◌, ◌≤◌, true, false, None, Result, Ok, Err, List, [], ◌∷◌, ◌++◌, length, take, drop, min, refl, sym, ap, subst, ◌∙◌, inl, inr, ◌⊎◌, arith}
use Rattle.std.specs.Prelude.{nat_lt, OnErr}
use Rattle.std.specs.Int.{w64, from_be_bytes}
use Rattle.std.specs.Str.{bytes_eq}
use Rattle.std.proofs.Math.ListN.{drop_of_length-le}
use Rattle.std.proofs.lemmas.Bool.{cases_lt, lt-ltb}
use Rattle.std.proofs.lemmas.List.{append-nil, take_all, take-take, take-append-le, length-take}
use Rattle.byteorder.specs.Endian.{big_bytes}
use Rattle.jr_disk.specs.declared.disk.Slot.TheVariants.{First}
use Rattle.jr_journal.specs.declared.content.SlotContent.TheVariants.{Unsealed}
use Rattle.jr_journal.specs.declared.opening.Opening.{Opening}
use Rattle.jr_journal.specs.declared.opening.Opening.TheVariants.{New, Held}
use Rattle.jr_disk.specs.Disk.{SlotBytes, Slots, Image, replaced, bytes_of, image, all_synced, left_of, after_crash}
use Rattle.jr_journal.specs.Records.{new_journal, magic, found_of, begins, after_header, found, slot_content, chosen, records}
use Rattle.jr_journal.specs.Faults.{is_fresh, slots_fault, fault_of}
use Rattle.jr_journal.specs.Crashes.{OpensAlike, LeavesNoMore}
use Rattle.jr_journal.specs.Opening.{synced_slots}
use Rattle.jr_journal.specs.inner.Opening.{IsOpening, IsPartly}
use Rattle.jr_journal.proofs.Pieces.{found_nothing}
use Rattle.jr_journal.proofs.Contents.{IsSealed, content_cut, content_whole, sealed_again}
use Rattle.jr_journal.proofs.Sound.{image_of, empty_unsealed, fault_is, alone_sound}
use Rattle.jr_journal.proofs.Opened.{begins_itself, new_sealed, synced_same, settled_is, recovered_leaves, opening_records, opening_found, ruled, fresh_empty}
use Rattle.jr_journal.proofs.Settled.{take_both}

abbrev nothing : List ℕ
nothing = []

take_nothing : (k : ℕ) → take k nothing ≡ nothing
take_nothing k = take_all k nothing (omega arith)

-- all unsynced bytes may be left
all_left : (s : SlotBytes) → left_of (length s.unsynced) s ≡ bytes_of s
all_left s = ap (λ xs. s.synced ++ xs) (take_all (length s.unsynced) s.unsynced (omega arith))

-- of a slot that is synced all is left
synced_left : (k : ℕ) (s : SlotBytes) → left_of k (all_synced s) ≡ bytes_of s
synced_left k s = ap (λ xs. bytes_of s ++ xs) (take_nothing k) ∙ append-nil (bytes_of s)

images : (a b c d : List ℕ) → a ≡ b → c ≡ d → image_of a c ≡ image_of b d
images a b c d p q = λ j. image_of (p j) (q j)

crash_all : (d : Slots) → after_crash (length d.first.unsynced) (length d.second.unsynced) d ≡ image d
crash_all d =
    images (left_of (length d.first.unsynced) d.first) (bytes_of d.first) (left_of (length d.second.unsynced) d.second) (bytes_of d.second) (all_left d.first) (all_left d.second)

crash_synced : (k l : ℕ) (d : Slots) → after_crash k l (synced_slots d) ≡ image d
crash_synced k l d =
    images (left_of k (all_synced d.first)) (bytes_of d.first) (left_of l (all_synced d.second)) (bytes_of d.second) (synced_left k d.first) (synced_left l d.second)

alike : (gateway : ℕ) (i j : Image) → i ≡ j → OpensAlike gateway i j
alike gateway i j e = (ap (λ x. records gateway x) e, ap (λ x. fault_of gateway x) e, λ begun. ap is_fresh e ∙ begun)

from_image : (gateway : ℕ) (old new : Slots) → ((k l : ℕ) → OpensAlike gateway (after_crash k l new) (image old)) → LeavesNoMore gateway old new
from_image gateway old new h = λ k l.
    let all = alike gateway (image old) (after_crash (length old.first.unsynced) (length old.second.unsynced) old) (sym (crash_all old)) in
    (length old.first.unsynced, (length old.second.unsynced, ((h k l).0 ∙ all.0, (h k l).1 ∙ all.1, λ begun. (h k l).2 (all.2 begun))))

pub same_leaves : (gateway : ℕ) (old new : Slots) → new ≡ old → LeavesNoMore gateway old new
same_leaves gateway old new e = λ k l. (k, (l, alike gateway (after_crash k l new) (after_crash k l old) (ap (λ d. after_crash k l d) e)))

pub first_leaves : (gateway : ℕ) (old new : Slots) → new ≡ replaced old First (all_synced old.first) → LeavesNoMore gateway old new
first_leaves gateway old new e = λ k l.
    let n = length old.first.unsynced in
    let is : after_crash k l new ≡ after_crash n l old =
    ap (λ d. after_crash k l d) e ∙ images (left_of k (all_synced old.first)) (left_of n old.first) (left_of l old.second) (left_of l old.second) (synced_left k old.first ∙ sym (all_left old.first)) refl in
    (n, (l, alike gateway (after_crash k l new) (after_crash n l old) is))

pub synced_leaves : (gateway : ℕ) (old new : Slots) → new ≡ synced_slots old → LeavesNoMore gateway old new
synced_leaves gateway old new e =
    from_image gateway old new (λ k l. alike gateway (after_crash k l new) (image old) (ap (λ d. after_crash k l d) e ∙ crash_synced k l old))

pub always_err : {T E P : Type 0} (r : Result T E) → P → OnErr r P
always_err (Ok x) p = tt
always_err (Err e) p = p

pub sync_leaves : (gateway : ℕ) (old new : Slots) → (new ≡ old) ⊎ (new ≡ replaced old First (all_synced old.first)) → LeavesNoMore gateway old new
sync_leaves gateway old new h =
    elim h [
      | inl same ↦ same_leaves gateway old new same
      | inr first ↦ first_leaves gateway old new first
    ]

-- ---- a new journal, as far as it went out

abbrev behind_magic : List ℕ
behind_magic = big_bytes 8 1 ++ 83 ∷ []

front_begins : (gateway n : ℕ) → begins gateway (take n (new_journal gateway)) ≡ true
front_begins gateway n =
    let xs = take n (new_journal gateway) in
    let m = min (length xs) 5 in
    let small : m ≤ n = omega (arith, length-take n (new_journal gateway)) in
    let front : take m xs ≡ take m (magic gateway) = take-take m n (new_journal gateway) small ∙ take-append-le m (magic gateway) behind_magic (omega arith) in
    ap (λ ys. bytes_eq ys (take m (magic gateway))) front ∙ begins_itself (take m (magic gateway))

front_unsealed : (gateway n : ℕ) → n < 14 → slot_content gateway (take n (new_journal gateway)) ≡ Unsealed
front_unsealed gateway n lt =
    let xs = take n (new_journal gateway) in
    let size = length-take n (new_journal gateway) in
    elim (cases_lt (length xs) 13) [
      | inl short ↦ sym (content_cut gateway xs (front_begins gateway n) short)
      | inr long ↦
          let none : drop 13 xs ≡ [] = drop_of_length-le xs {i = 13} (omega arith) in
          let pieces : found 0 false (drop 13 xs) ≡ found_of [] false 0 false = ap (λ ys. found 0 false ys) none ∙ found_nothing 0 false in
          sym (content_whole gateway xs (front_begins gateway n) long) ∙ ap (λ r. after_header (from_be_bytes w64 (take 8 (drop 5 xs))) r) pieces
    ]

front_nothing : (gateway n : ℕ) → chosen (slot_content gateway (take n (new_journal gateway))) Unsealed ≡ []
front_nothing gateway n =
    elim (cases_lt n 14) [
      | inl lt ↦ ap (λ a. chosen a Unsealed) (front_unsealed gateway n lt)
      | inr le ↦
          let all : take n (new_journal gateway) ≡ new_journal gateway = take_all n (new_journal gateway) le in
          ap (λ xs. chosen (slot_content gateway xs) Unsealed) all ∙ ap (λ a. chosen a Unsealed) (sealed_again gateway (new_journal gateway) 1 (found_of [] true 1 false) (new_sealed gateway))
    ]

front_sound : (gateway n : ℕ) (i : Image) → i.second ≡ [] → i.first ≡ take n (new_journal gateway) → fault_of gateway i ≡ None
front_sound gateway n i none is =
    elim (cases_lt n 14) [
      | inl lt ↦
          let unsealed : slot_content gateway i.first ≡ Unsealed = ap (λ xs. slot_content gateway xs) is ∙ front_unsealed gateway n lt in
          let size : length i.first ≡ length (take n (new_journal gateway)) = ap length is in
          let short : nat_lt (length i.first) 14 ≡ true = lt-ltb (length i.first) 14 (omega (arith, length-take n (new_journal gateway))) in
          fault_is gateway i none ∙ (ap (λ a. slots_fault a Unsealed (nat_lt (length i.first) 14)) unsealed ∙ ap (λ b. slots_fault Unsealed Unsealed b) short)
      | inr le ↦
          let all : i.first ≡ new_journal gateway = is ∙ take_all n (new_journal gateway) le in
          alone_sound gateway i 1 (found_of [] true 1 false) none (subst (λ (xs : List ℕ). IsSealed gateway xs 1 (found_of [] true 1 false)) (sym all) (new_sealed gateway))
    ]

abbrev begun : Slots → List ℕ → Slots
begun d bytes = replaced d First (record { synced = []; unsynced = bytes })

begun_leaves : (gateway : ℕ) (old : Slots) (w k l : ℕ) → (image old).second ≡ [] → records gateway (after_crash k l (begun (synced_slots old) (take w (new_journal gateway)))) ≡ []
begun_leaves gateway old w k l none =
    let beside : left_of l (all_synced old.second) ≡ [] = synced_left l old.second ∙ none in
    let first : take k (take w (new_journal gateway)) ≡ take (min k w) (new_journal gateway) = take_both k w (new_journal gateway) in
    ap (λ ys. chosen (slot_content gateway (take k (take w (new_journal gateway)))) (slot_content gateway ys)) beside ∙
    (ap (λ b. chosen (slot_content gateway (take k (take w (new_journal gateway)))) b) (empty_unsealed gateway) ∙
    (ap (λ xs. chosen (slot_content gateway xs) Unsealed) first ∙ front_nothing gateway (min k w)))

begun_sound : (gateway : ℕ) (old : Slots) (w k l : ℕ) → (image old).second ≡ [] → fault_of gateway (after_crash k l (begun (synced_slots old) (take w (new_journal gateway)))) ≡ None
begun_sound gateway old w k l none =
    front_sound gateway (min k w) (after_crash k l (begun (synced_slots old) (take w (new_journal gateway)))) (synced_left l old.second ∙ none) (take_both k w (new_journal gateway))

-- ---- the last step

pub partly_leaves : (gateway : ℕ) (old synced read new : Slots) (o : Opening) → synced ≡ synced_slots old → read ≡ synced → IsOpening gateway (image synced) o → IsPartly gateway o read new → LeavesNoMore gateway old new
partly_leaves gateway old synced read new o e same h part =
    let start : read ≡ synced_slots old = same ∙ e in
    let here : IsOpening gateway (image old) o = subst (λ (i : Image). IsOpening gateway i o) (ap image e ∙ synced_same old) h in
    go o here (subst (λ (d : Slots). IsPartly gateway o d new) start part)
  where
    go : (o : Opening) → IsOpening gateway (image old) o → IsPartly gateway o (synced_slots old) new → LeavesNoMore gateway old new
    go New here part =
        let fresh : is_fresh (image old) ≡ true = (ruled gateway (image old) New here).0 in
        let none : (image old).second ≡ [] = fresh_empty (image old) fresh in
        elim part [
          | inl unchanged ↦ synced_leaves gateway old new unchanged
          | inr out ↦
              from_image gateway old new (λ k l.
              let is : after_crash k l new ≡ after_crash k l (begun (synced_slots old) (take out.0 (new_journal gateway))) = ap (λ d. after_crash k l d) out.1 in (
                ap (λ i. records gateway i) is ∙ (begun_leaves gateway old out.0 k l none ∙ opening_records gateway (image old) New here),
                ap (λ i. fault_of gateway i) is ∙ (begun_sound gateway old out.0 k l none ∙ sym (opening_found gateway (image old) New here)),
                λ begun. absurd (let clash : true ≡ false = sym fresh ∙ begun in cc),
              ))
        ]
    go (Held slot m f n) here part =
        elim part [
          | inl unchanged ↦ synced_leaves gateway old new unchanged
          | inr cut ↦
              let is = settled_is gateway old (synced_slots old) new (Held slot m f n) refl (subst (λ (i : Image). IsOpening gateway i (Held slot m f n)) (sym (synced_same old)) here) cut in
              from_image gateway old new (λ k l.
              let same = ap (λ d. after_crash k l d) is in
              let there = recovered_leaves gateway (image old) (Held slot m f n) here k l in (
                ap (λ i. records gateway i) same ∙ (there.0 ∙ opening_records gateway (image old) (Held slot m f n) here),
                ap (λ i. fault_of gateway i) same ∙ (there.1 ∙ sym (opening_found gateway (image old) (Held slot m f n) here)),
                λ begun. ap is_fresh same ∙ there.2,
              ))
        ]
