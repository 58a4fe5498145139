-- When there is no fault in two slots, either of which may be in use; and when there is a journal.
use Rattle.std.proofs.Common.{◌≡◌, ℕ, ◌<◌, ◌≤◌, Bool, true, false, cond, ◌&&◌, List, [], ◌∷◌, length, drop, Option, Some, None, refl, sym, ap, ◌∙◌, inl, inr, arith}
use Rattle.std.specs.Prelude.{nat_lt}
use Rattle.std.proofs.Math.ListN.{drop_of_length-le}
use Rattle.std.proofs.lemmas.Bool.{cases_lt, le-ltb}
use Rattle.jr_disk.specs.declared.disk.Slot.{Slot}
use Rattle.jr_disk.specs.declared.disk.Slot.TheVariants.{First, Second}
use Rattle.jr_journal.specs.declared.fault.JournalFault.{JournalFault}
use Rattle.jr_journal.specs.declared.fault.JournalFault.TheVariants.{Foreign}
use Rattle.jr_journal.specs.declared.piece.Found.{Found}
use Rattle.jr_journal.specs.declared.content.SlotContent.{SlotContent}
use Rattle.jr_journal.specs.declared.content.SlotContent.TheVariants.{Alien, Unsealed, Sealed, Broken}
use Rattle.jr_disk.specs.Disk.{SlotBytes, Slots, Image, at, replaced}
use Rattle.jr_journal.specs.inner.Disk.{synced_part}
use Rattle.jr_journal.specs.Records.{found, slot_content}
use Rattle.jr_journal.specs.Faults.{is_nil, is_fresh, slots_fault, fault_of}
use Rattle.jr_journal.specs.inner.Faults.{is_none}
use Rattle.jr_journal.specs.Journals.{other_slot}
use Rattle.jr_journal.specs.inner.Journals.{is_older}
use Rattle.jr_journal.proofs.Pieces.{found_nothing}
use Rattle.jr_journal.proofs.Contents.{IsSealed, sealed_again}

abbrev pub image_at : Image → Slot → List ℕ
image_at i First = i.first
image_at i Second = i.second

abbrev pub image_of : List ℕ → List ℕ → Image
image_of a b = record { first = a; second = b }

pub none_is : (o : Option JournalFault) → is_none o ≡ true → o ≡ None
none_is None e = refl
none_is (Some fault) e = absurd cc

pub is_none_at : (o : Option JournalFault) → o ≡ None → is_none o ≡ true
is_none_at o e = ap is_none e

pub empty_unsealed : (gateway : ℕ) → slot_content gateway [] ≡ Unsealed
unfolding slot_content
empty_unsealed gateway = refl

-- the fault of an image whose second slot is empty
pub fault_is : (gateway : ℕ) (i : Image) → i.second ≡ [] → fault_of gateway i ≡ slots_fault (slot_content gateway i.first) Unsealed (nat_lt (length i.first) 14)
fault_is gateway i none =
    let front : fault_of gateway i ≡ fault_of gateway (image_of i.first []) = ap (λ xs. fault_of gateway (image_of i.first xs)) none in
    front ∙ ap (λ b. slots_fault (slot_content gateway i.first) b (nat_lt (length i.first) 14)) (empty_unsealed gateway)

-- a sealed slot alone
pub alone_sound : (gateway : ℕ) (i : Image) (m : ℕ) (f : Found) → i.second ≡ [] → IsSealed gateway i.first m f → fault_of gateway i ≡ None
alone_sound gateway i m f none h = fault_is gateway i none ∙ ap (λ a. slots_fault a Unsealed (nat_lt (length i.first) 14)) (sealed_again gateway i.first m f h)

-- ---- one sealed slot in the place of another of its generation

sealed_too : (b : SlotContent) (m : ℕ) (f q : Found) (x y : Bool) → slots_fault (Sealed m f) b x ≡ None → slots_fault (Sealed m q) b y ≡ None
sealed_too Alien m f q x y e = absurd cc
sealed_too Unsealed m f q x y e = refl
sealed_too (Sealed n g) m f q x y e = e
sealed_too (Broken from) m f q x y e = absurd cc

sealed_behind : (a : SlotContent) (m : ℕ) (f q : Found) (x y : Bool) → slots_fault a (Sealed m f) x ≡ None → slots_fault a (Sealed m q) y ≡ None
sealed_behind Alien m f q x y e = absurd cc
sealed_behind Unsealed m f q x y e = refl
sealed_behind (Sealed n g) m f q x y e = e
sealed_behind (Broken from) m f q x y e = absurd cc

stays_first : (gateway : ℕ) (i j : Image) (m : ℕ) (f q : Found) → IsSealed gateway i.first m f → IsSealed gateway j.first m q → j.second ≡ i.second → fault_of gateway i ≡ None → fault_of gateway j ≡ None
stays_first gateway i j m f q h r same e =
    let beside = slot_content gateway i.second in
    let before : slots_fault (Sealed m f) beside (is_fresh i) ≡ None = sym (ap (λ a. slots_fault a beside (is_fresh i)) (sealed_again gateway i.first m f h)) ∙ e in
    ap (λ a. slots_fault a (slot_content gateway j.second) (is_fresh j)) (sealed_again gateway j.first m q r)
    ∙ (ap (λ ys. slots_fault (Sealed m q) (slot_content gateway ys) (is_fresh j)) same ∙ sealed_too beside m f q (is_fresh i) (is_fresh j) before)

stays_second : (gateway : ℕ) (i j : Image) (m : ℕ) (f q : Found) → IsSealed gateway i.second m f → IsSealed gateway j.second m q → j.first ≡ i.first → fault_of gateway i ≡ None → fault_of gateway j ≡ None
stays_second gateway i j m f q h r same e =
    let beside = slot_content gateway i.first in
    let before : slots_fault beside (Sealed m f) (is_fresh i) ≡ None = sym (ap (λ b. slots_fault beside b (is_fresh i)) (sealed_again gateway i.second m f h)) ∙ e in
    ap (λ b. slots_fault (slot_content gateway j.first) b (is_fresh j)) (sealed_again gateway j.second m q r)
    ∙ (ap (λ ys. slots_fault (slot_content gateway ys) (Sealed m q) (is_fresh j)) same ∙ sealed_behind beside m f q (is_fresh i) (is_fresh j) before)

pub more_sound : (gateway : ℕ) (slot : Slot) (d : Slots) (j : Image) (m : ℕ) (f q : Found) → IsSealed gateway (at d slot).synced m f → IsSealed gateway (image_at j slot) m q → image_at j (other_slot slot) ≡ (at d (other_slot slot)).synced
    → fault_of gateway (synced_part d) ≡ None → fault_of gateway j ≡ None
more_sound gateway First d j m f q h r same e = stays_first gateway (synced_part d) j m f q h r same e
more_sound gateway Second d j m f q h r same e = stays_second gateway (synced_part d) j m f q h r same e

pub replaced_sound : (gateway : ℕ) (slot : Slot) (d : Slots) (s : SlotBytes) (m : ℕ) (f q : Found) → IsSealed gateway (at d slot).synced m f → IsSealed gateway s.synced m q → fault_of gateway (synced_part d) ≡ None
    → fault_of gateway (synced_part (replaced d slot s)) ≡ None
replaced_sound gateway First d s m f q h r e = stays_first gateway (synced_part d) (synced_part (replaced d First s)) m f q h r refl e
replaced_sound gateway Second d s m f q h r e = stays_second gateway (synced_part d) (synced_part (replaced d Second s)) m f q h r refl e

-- ---- a sealed slot beside one of which nothing is read

abbrev verdict : Bool → Bool → Option JournalFault
verdict p q = cond p None (cond q None (Some Foreign))

newer_second : (p q : Bool) → q ≡ true → verdict p q ≡ None
newer_second true q e = refl
newer_second false true e = refl
newer_second false false e = absurd cc

newer_first : (p q : Bool) → p ≡ true → verdict p q ≡ None
newer_first true q e = refl
newer_first false q e = absurd cc

beside_below : (b : SlotContent) (m : ℕ) (f : Found) (x : Bool) → is_older b m ≡ true → slots_fault (Sealed m f) b x ≡ None
beside_below Alien m f x e = absurd cc
beside_below Unsealed m f x e = refl
beside_below (Sealed n g) m f x e = newer_second (nat_lt m n) (nat_lt n m) e
beside_below (Broken from) m f x e = absurd cc

below_beside : (a : SlotContent) (m : ℕ) (f : Found) (x : Bool) → is_older a m ≡ true → slots_fault a (Sealed m f) x ≡ None
below_beside Alien m f x e = absurd cc
below_beside Unsealed m f x e = refl
below_beside (Sealed n g) m f x e = newer_first (nat_lt n m) (nat_lt m n) e
below_beside (Broken from) m f x e = absurd cc

-- the slot is sealed, and beside it nothing is read: there is no fault
pub used_sound : (gateway : ℕ) (slot : Slot) (i : Image) (m : ℕ) (f : Found) → IsSealed gateway (image_at i slot) m f → is_older (slot_content gateway (image_at i (other_slot slot))) m ≡ true → fault_of gateway i ≡ None
used_sound gateway First i m f h e = ap (λ a. slots_fault a (slot_content gateway i.second) (is_fresh i)) (sealed_again gateway i.first m f h) ∙ beside_below (slot_content gateway i.second) m f (is_fresh i) e
used_sound gateway Second i m f h e = ap (λ b. slots_fault (slot_content gateway i.first) b (is_fresh i)) (sealed_again gateway i.second m f h) ∙ below_beside (slot_content gateway i.first) m f (is_fresh i) e

-- ---- a sealed slot in either place

-- a sealed slot has its header and its seal
sealed_long : (gateway : ℕ) (xs : List ℕ) (m : ℕ) (f : Found) → IsSealed gateway xs m f → 14 ≤ length xs
sealed_long gateway xs m f h =
    elim (cases_lt (length xs) 14) [
      | inl lt ↦
          let none : drop 13 xs ≡ [] = drop_of_length-le xs {i = 13} (omega arith) in
          let flag : false ≡ f.sealed = ap (λ (r : Found). r.sealed) (sym (found_nothing 0 false) ∙ (ap (λ ys. found 0 false ys) (sym none) ∙ h.pieces)) in
          absurd (let clash : false ≡ true = flag ∙ h.seal in cc)
      | inr le ↦ le
    ]

not_nil : (xs : List ℕ) → 0 < length xs → is_nil xs ≡ false
not_nil [] lt = absurd (omega arith)
not_nil (x ∷ xs) lt = refl

and_not : (a b : Bool) → b ≡ false → (a && b) ≡ false
and_not true b e = e
and_not false b e = refl

not_and : (a b : Bool) → a ≡ false → (a && b) ≡ false
not_and true b e = absurd cc
not_and false b e = refl

pub not_fresh : (gateway : ℕ) (slot : Slot) (i : Image) (m : ℕ) (f : Found) → IsSealed gateway (image_at i slot) m f → is_fresh i ≡ false
not_fresh gateway First i m f h = and_not (is_nil i.second) (nat_lt (length i.first) 14) (le-ltb (length i.first) 14 (sealed_long gateway i.first m f h))
not_fresh gateway Second i m f h =
    let long = sealed_long gateway i.second m f h in
    not_and (is_nil i.second) (nat_lt (length i.first) 14) (not_nil i.second (omega arith))
