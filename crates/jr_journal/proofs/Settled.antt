-- A journal's disk: what a crash leaves of it, before and after bytes are appended.
use Rattle.std.proofs.Common.{◌≡◌, ℕ, ◌+◌, true, false, None, List, [], ◌∷◌, ◌++◌, length, take, min, refl, sym, ap, subst, ◌∙◌, inl, inr, ◌⊎◌, arith}
use Rattle.std.specs.Prelude.{nat_lt}
use Rattle.std.proofs.lemmas.Bool.{cases_lt, and_parts, and_from, ltb-true, le-ltb, eqb-true, eq-eqb}
use Rattle.std.proofs.lemmas.List.{append-nil, take-take, take_all, length-take, length-append}
use Rattle.rep_op.specs.declared.op.Op.{Op}
use Rattle.jr_disk.specs.declared.disk.Slot.{Slot}
use Rattle.jr_disk.specs.declared.disk.Slot.TheVariants.{First, Second}
use Rattle.jr_journal.specs.declared.piece.Found.{Found}
use Rattle.jr_journal.specs.declared.content.SlotContent.{SlotContent}
use Rattle.jr_journal.specs.declared.content.SlotContent.TheVariants.{Alien, Unsealed, Sealed, Broken}
use Rattle.jr_disk.specs.Disk.{SlotBytes, Slots, Image, at, replaced, bytes_of, image, appended, all_synced, left_of, after_crash}
use Rattle.jr_journal.specs.inner.Disk.{synced_part}
use Rattle.jr_journal.specs.Records.{delta_bytes, written, found_joined, ended, one_record, slot_content, generation_in, chosen, records}
use Rattle.jr_journal.specs.Readable.{IsReadable}
use Rattle.jr_journal.specs.Crashes.{Leaves, LeavesOneMore}
use Rattle.jr_journal.specs.Journals.{other_slot}
use Rattle.jr_journal.specs.inner.Journals.{is_older, leads, is_settled, is_in_use}
use Rattle.jr_journal.specs.Faults.{is_nil, fault_of}
use Rattle.jr_journal.proofs.Append.{found_written, found_front, length_written}
use Rattle.jr_journal.proofs.Contents.{IsSealed, IsFull, sealed_shape, sealed_again, sealed_more}
use Rattle.jr_journal.proofs.Sound.{image_at, none_is, is_none_at, more_sound, replaced_sound, not_fresh}

-- ---- which slot is read

chosen_first : (a b : SlotContent) (m : ℕ) (f : Found) → a ≡ Sealed m f → is_older b m ≡ true → chosen a b ≡ f.deltas
chosen_first a (Sealed n g) m f e below = ap (λ x. chosen x (Sealed n g)) e ∙ (let lt : nat_lt n m ≡ true = below in rw lt refl)
chosen_first a Unsealed m f e below = ap (λ x. chosen x Unsealed) e
chosen_first a Alien m f e below = absurd cc
chosen_first a (Broken at) m f e below = absurd cc

chosen_second : (a b : SlotContent) (m : ℕ) (f : Found) → b ≡ Sealed m f → is_older a m ≡ true → chosen a b ≡ f.deltas
chosen_second (Sealed n g) b m f e below =
    ap (λ x. chosen (Sealed n g) x) e ∙
    (let lt : nat_lt n m ≡ true = below in let ge : nat_lt m n ≡ false = le-ltb m n (omega (arith, ltb-true _ _ lt)) in rw (ge, lt) refl)
chosen_second Unsealed b m f e below = ap (λ x. chosen Unsealed x) e
chosen_second Alien b m f e below = absurd cc
chosen_second (Broken at) b m f e below = absurd cc

pub records_at : (gateway : ℕ) (slot : Slot) (i : Image) (m : ℕ) (f : Found) → IsSealed gateway (image_at i slot) m f → is_older (slot_content gateway (image_at i (other_slot slot))) m ≡ true → records gateway i ≡ f.deltas
records_at gateway First i m f h below = chosen_first (slot_content gateway i.first) (slot_content gateway i.second) m f (sealed_again gateway i.first m f h) below
records_at gateway Second i m f h below = chosen_second (slot_content gateway i.first) (slot_content gateway i.second) m f (sealed_again gateway i.second m f h) below

-- ---- a journal's disk

-- this slot is in use: all is synced, it is read, it ends with a whole piece, and there is no fault
pub record IsUsed (gateway : ℕ) (slot : Slot) (d : Slots) (m : ℕ) (f : Found) : Type 0 where
  pub first_clean : d.first.unsynced ≡ []
  pub second_clean : d.second.unsynced ≡ []
  pub sealed : IsSealed gateway (at d slot).synced m f
  pub full : IsFull (at d slot).synced f
  pub below : is_older (slot_content gateway (at d (other_slot slot)).synced) m ≡ true
  pub sound : fault_of gateway (synced_part d) ≡ None

nil_is : (xs : List ℕ) → is_nil xs ≡ true → xs ≡ []
nil_is [] e = refl
nil_is (x ∷ xs) e = absurd cc

is_nil_at : (xs : List ℕ) → xs ≡ [] → is_nil xs ≡ true
is_nil_at xs e = ap is_nil e

leads_shape : (a : SlotContent) (size : ℕ) (b : SlotContent) → leads a size b ≡ true → (m : ℕ) × ((f : Found) × (a ≡ Sealed m f) × (13 + f.whole ≡ size) × (is_older b m ≡ true))
leads_shape (Sealed m f) size b e = let p = and_parts _ _ e in (m, (f, refl, eqb-true _ _ p.0, p.1))
leads_shape Alien size b e = absurd cc
leads_shape Unsealed size b e = absurd cc
leads_shape (Broken at) size b e = absurd cc

pub settled_shape : (gateway : ℕ) (slot : Slot) (d : Slots) → is_settled gateway slot d ≡ true → (m : ℕ) × ((f : Found) × IsUsed gateway slot d m f)
settled_shape gateway slot d e =
    let all = and_parts _ _ e in
    let p = and_parts _ _ all.0 in
    let q = and_parts _ _ p.0 in
    let l = leads_shape (slot_content gateway (at d slot).synced) (length (at d slot).synced) (slot_content gateway (at d (other_slot slot)).synced) p.1 in (
      l.0,
      (
        l.1.0,
        record {
          first_clean = nil_is d.first.unsynced q.0;
          second_clean = nil_is d.second.unsynced q.1;
          sealed = sealed_shape gateway (at d slot).synced l.0 l.1.0 l.1.1;
          full = l.1.2;
          below = l.1.3;
          sound = none_is (fault_of gateway (synced_part d)) all.1;
        },
      ),
    )

pub settled_again : (gateway : ℕ) (slot : Slot) (d : Slots) (m : ℕ) (f : Found) → IsUsed gateway slot d m f → is_settled gateway slot d ≡ true
settled_again gateway slot d m f h =
    let content : slot_content gateway (at d slot).synced ≡ Sealed m f = sealed_again gateway (at d slot).synced m f h.sealed in
    let size = (at d slot).synced in
    let beside = slot_content gateway (at d (other_slot slot)).synced in
    let leading : leads (slot_content gateway (at d slot).synced) (length size) beside ≡ true =
    ap (λ x. leads x (length size) beside) content ∙ and_from _ _ (eq-eqb (13 + f.whole) (length size) h.full) h.below in
    and_from _ _ (and_from _ _ (and_from _ _ (is_nil_at d.first.unsynced h.first_clean) (is_nil_at d.second.unsynced h.second_clean)) leading) (is_none_at (fault_of gateway (synced_part d)) h.sound)

-- it is settled, and the generation is that of the slot in use
pub in_use_again : (gateway : ℕ) (slot : Slot) (d : Slots) (m : ℕ) (f : Found) → IsUsed gateway slot d m f → is_in_use gateway slot m d ≡ true
in_use_again gateway slot d m f h =
    and_from _ _ (settled_again gateway slot d m f h) (eq-eqb (generation_in (slot_content gateway (at d slot).synced)) m (ap generation_in (sealed_again gateway (at d slot).synced m f h.sealed)))

pub in_use_shape : (gateway : ℕ) (slot : Slot) (generation : ℕ) (d : Slots) → is_in_use gateway slot generation d ≡ true → (f : Found) × IsUsed gateway slot d generation f
in_use_shape gateway slot generation d e =
    let p = and_parts _ _ e in
    let u = settled_shape gateway slot d p.0 in
    let number : u.0 ≡ generation =
    sym (ap generation_in (sealed_again gateway (at d slot).synced u.0 u.1.0 u.1.1.sealed)) ∙ eqb-true (generation_in (slot_content gateway (at d slot).synced)) generation p.1
    in
    (u.1.0, subst (λ (n : ℕ). IsUsed gateway slot d n u.1.0) number u.1.1)

-- ---- crashes

abbrev nothing : List ℕ
nothing = []

take_nothing : (k : ℕ) → take k nothing ≡ nothing
take_nothing k = take_all k nothing (omega arith)

pub left_clean : (k : ℕ) (s : SlotBytes) → s.unsynced ≡ [] → left_of k s ≡ s.synced
left_clean k s e = ap (λ xs. s.synced ++ take k xs) e ∙ (ap (λ xs. s.synced ++ xs) (take_nothing k) ∙ append-nil s.synced)

left_more : (k : ℕ) (s : SlotBytes) (bytes : List ℕ) → s.unsynced ≡ [] → left_of k (appended s bytes) ≡ s.synced ++ take k bytes
left_more k s bytes e = ap (λ xs. s.synced ++ take k (xs ++ bytes)) e

bytes_clean : (s : SlotBytes) → s.unsynced ≡ [] → bytes_of s ≡ s.synced
bytes_clean s e = ap (λ xs. s.synced ++ xs) e ∙ append-nil s.synced

-- where nothing is unsynced, a crash leaves all
pub clean_crash : (slot : Slot) (d : Slots) (k l : ℕ) → d.first.unsynced ≡ [] → d.second.unsynced ≡ [] → image_at (after_crash k l d) slot ≡ (at d slot).synced
clean_crash First d k l a b = left_clean k d.first a
clean_crash Second d k l a b = left_clean l d.second b

clean_image : (slot : Slot) (d : Slots) → d.first.unsynced ≡ [] → d.second.unsynced ≡ [] → image_at (image d) slot ≡ (at d slot).synced
clean_image First d a b = bytes_clean d.first a
clean_image Second d a b = bytes_clean d.second b

pub sealed_at : (gateway : ℕ) (xs ys : List ℕ) (m : ℕ) (f : Found) → ys ≡ xs → IsSealed gateway xs m f → IsSealed gateway ys m f
sealed_at gateway xs ys m f e h = subst (λ (zs : List ℕ). IsSealed gateway zs m f) (sym e) h

pub below_at : (gateway : ℕ) (xs ys : List ℕ) (m : ℕ) → ys ≡ xs → is_older (slot_content gateway xs) m ≡ true → is_older (slot_content gateway ys) m ≡ true
below_at gateway xs ys m e h = subst (λ (zs : List ℕ). is_older (slot_content gateway zs) m ≡ true) (sym e) h

pub clean_all : (d : Slots) (k l : ℕ) → d.first.unsynced ≡ [] → d.second.unsynced ≡ [] → after_crash k l d ≡ synced_part d
clean_all d k l a b =
    let p : left_of k d.first ≡ d.first.synced = left_clean k d.first a in
    let q : left_of l d.second ≡ d.second.synced = left_clean l d.second b in
    λ j. record { first = p j; second = q j }

pub used_leaves : (gateway : ℕ) (slot : Slot) (d : Slots) (m : ℕ) (f : Found) → IsUsed gateway slot d m f → Leaves gateway d f.deltas
used_leaves gateway slot d m f h = λ k l.
    let sealed : IsSealed gateway (image_at (after_crash k l d) slot) m f =
    sealed_at gateway (at d slot).synced (image_at (after_crash k l d) slot) m f (clean_crash slot d k l h.first_clean h.second_clean) h.sealed in
    let now : records gateway (after_crash k l d) ≡ f.deltas =
    records_at gateway slot (after_crash k l d) m f sealed
    (below_at gateway (at d (other_slot slot)).synced (image_at (after_crash k l d) (other_slot slot)) m (clean_crash (other_slot slot) d k l h.first_clean h.second_clean) h.below) in
    let sound : fault_of gateway (after_crash k l d) ≡ None = ap (λ i. fault_of gateway i) (clean_all d k l h.first_clean h.second_clean) ∙ h.sound in
    (now, sound, not_fresh gateway slot (after_crash k l d) m f sealed)

pub used_records : (gateway : ℕ) (slot : Slot) (d : Slots) (m : ℕ) (f : Found) → IsUsed gateway slot d m f → records gateway (image d) ≡ f.deltas
used_records gateway slot d m f h =
    records_at gateway slot (image d) m f
    (sealed_at gateway (at d slot).synced (image_at (image d) slot) m f (clean_image slot d h.first_clean h.second_clean) h.sealed)
    (below_at gateway (at d (other_slot slot)).synced (image_at (image d) (other_slot slot)) m (clean_image (other_slot slot) d h.first_clean h.second_clean) h.below)

-- ---- bytes after the slot in use

abbrev pub with_more : Slots → Slot → List ℕ → Slots
with_more d slot bytes = replaced d slot (appended (at d slot) bytes)

pub crash_more : (slot : Slot) (d : Slots) (bytes : List ℕ) (k l : ℕ) → d.first.unsynced ≡ [] → d.second.unsynced ≡ []
    → (j : ℕ) × (image_at (after_crash k l (with_more d slot bytes)) slot ≡ (at d slot).synced ++ take j bytes) × (image_at (after_crash k l (with_more d slot bytes)) (other_slot slot) ≡ (at d (other_slot slot)).synced)
crash_more First d bytes k l a b = (k, left_more k d.first bytes a, left_clean l d.second b)
crash_more Second d bytes k l a b = (l, left_more l d.second bytes b, left_clean k d.first a)

pub take_both : (j w : ℕ) (xs : List ℕ) → take j (take w xs) ≡ take (min j w) xs
take_both j w xs =
    elim (cases_lt w j) [
      | inl lt ↦ let m : min j w ≡ w = omega arith in take_all j (take w xs) (omega (arith, length-take w xs)) ∙ ap (λ k. take k xs) (sym m)
      | inr le ↦ let m : min j w ≡ j = omega arith in take-take j w xs le ∙ ap (λ k. take k xs) (sym m)
    ]

-- after whole pieces the front of a record is nothing, and the whole of it is the record
pub front_sealed : (gateway : ℕ) (xs : List ℕ) (m : ℕ) (f : Found) (delta : List Op) (n : ℕ) → IsSealed gateway xs m f → IsFull xs f → IsReadable delta
    → (q : Found) × IsSealed gateway (xs ++ take n (written delta)) m q × ((q.deltas ≡ f.deltas) ⊎ (q.deltas ≡ f.deltas ++ delta ∷ []))
front_sealed gateway xs m f delta n h full readable =
    elim (cases_lt n (length (written delta))) [
      | inl lt ↦
          (found_joined f (ended true false), sealed_more gateway xs (take n (written delta)) m f (ended true false) h full (found_front true delta n readable lt) refl refl, inl (append-nil f.deltas))
      | inr le ↦
          let all : take n (written delta) ≡ written delta = take_all n (written delta) le in
          let one = one_record delta (length (delta_bytes delta)) true in (
            found_joined f one,
            sealed_at gateway (xs ++ written delta) (xs ++ take n (written delta)) m (found_joined f one) (ap (λ ys. xs ++ ys) all)
                (sealed_more gateway xs (written delta) m f one h full (found_written true delta readable) refl refl),
            inr refl,
          )
    ]

pub more_leaves : (gateway : ℕ) (slot : Slot) (d : Slots) (m : ℕ) (f : Found) (delta : List Op) (w : ℕ) → IsUsed gateway slot d m f → IsReadable delta
    → LeavesOneMore gateway (with_more d slot (take w (written delta))) (records gateway (image d)) delta
more_leaves gateway slot d m f delta w h readable = λ k l.
    let new = with_more d slot (take w (written delta)) in
    let c = crash_more slot d (take w (written delta)) k l h.first_clean h.second_clean in
    let front : image_at (after_crash k l new) slot ≡ (at d slot).synced ++ take (min c.0 w) (written delta) = c.1 ∙ ap (λ ys. (at d slot).synced ++ ys) (take_both c.0 w (written delta)) in
    let s = front_sealed gateway (at d slot).synced m f delta (min c.0 w) h.sealed h.full readable in
    let sealed : IsSealed gateway (image_at (after_crash k l new) slot) m s.0 =
    sealed_at gateway ((at d slot).synced ++ take (min c.0 w) (written delta)) (image_at (after_crash k l new) slot) m s.0 front s.1 in
    let sound : fault_of gateway (after_crash k l new) ≡ None = more_sound gateway slot d (after_crash k l new) m f s.0 h.sealed sealed c.2 h.sound in
    let now : records gateway (after_crash k l new) ≡ s.0.deltas =
    records_at gateway slot (after_crash k l new) m s.0 sealed
    (below_at gateway (at d (other_slot slot)).synced (image_at (after_crash k l new) (other_slot slot)) m c.2 h.below) in
    let before : f.deltas ≡ records gateway (image d) = sym (used_records gateway slot d m f h) in
    let begun = not_fresh gateway slot (after_crash k l new) m s.0 sealed in
    elim s.2 [
      | inl same ↦ inl (now ∙ (same ∙ before), sound, begun)
      | inr longer ↦ inr (now ∙ (longer ∙ ap (λ xs. xs ++ delta ∷ []) before), sound, begun)
    ]

-- ---- and synced

pub replaced_used : (gateway : ℕ) (slot : Slot) (d : Slots) (s : SlotBytes) (m : ℕ) (f : Found) → d.first.unsynced ≡ [] → d.second.unsynced ≡ [] → s.unsynced ≡ [] → IsSealed gateway s.synced m f → IsFull s.synced f
    → is_older (slot_content gateway (at d (other_slot slot)).synced) m ≡ true → fault_of gateway (synced_part (replaced d slot s)) ≡ None → IsUsed gateway slot (replaced d slot s) m f
replaced_used gateway First d s m f a b clean h full below sound = record { first_clean = clean; second_clean = b; sealed = h; full = full; below = below; sound = sound }
replaced_used gateway Second d s m f a b clean h full below sound = record { first_clean = a; second_clean = clean; sealed = h; full = full; below = below; sound = sound }

pub clean_at : (slot : Slot) (d : Slots) → d.first.unsynced ≡ [] → d.second.unsynced ≡ [] → (at d slot).unsynced ≡ []
clean_at First d a b = a
clean_at Second d a b = b

pub synced_used : (gateway : ℕ) (slot : Slot) (d : Slots) (m : ℕ) (f : Found) (delta : List Op) → IsUsed gateway slot d m f → IsReadable delta
    → IsUsed gateway slot (replaced d slot (all_synced (appended (at d slot) (written delta)))) m (found_joined f (one_record delta (length (delta_bytes delta)) true))
synced_used gateway slot d m f delta h readable =
    let one = one_record delta (length (delta_bytes delta)) true in
    let s = all_synced (appended (at d slot) (written delta)) in
    let clean : (at d slot).unsynced ≡ [] = clean_at slot d h.first_clean h.second_clean in
    let is : s.synced ≡ (at d slot).synced ++ written delta = ap (λ xs. (at d slot).synced ++ (xs ++ written delta)) clean in
    let full = h.full in
    let size : length s.synced ≡ length ((at d slot).synced ++ written delta) = ap length is in
    let sealed : IsSealed gateway s.synced m (found_joined f one) =
    sealed_at gateway ((at d slot).synced ++ written delta) s.synced m (found_joined f one) is
    (sealed_more gateway (at d slot).synced (written delta) m f one h.sealed h.full (found_written true delta readable) refl refl) in
    replaced_used gateway slot d s m (found_joined f one) h.first_clean h.second_clean refl sealed
    (omega (arith, length-append (at d slot).synced (written delta), length_written delta)) h.below
    (replaced_sound gateway slot d s m f (found_joined f one) h.sealed sealed h.sound)
