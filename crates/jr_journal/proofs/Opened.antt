-- What an opened journal is, by the image that was there.
use Rattle.std.proofs.Common.{◌≡◌, ℕ, ◌+◌, ◌-◌, ◌≤◌, Bool, true, false, cond, List, [], ◌∷◌, ◌++◌, length, take, drop, Some, None, refl, sym, ap, subst, ◌∙◌, inl, inr, arith}
use Rattle.std.specs.Prelude.{nat_lt}
use Rattle.std.specs.Str.{bytes_eq}
use Rattle.std.proofs.lemmas.Bool.{cases_Bool, and_parts}
use Rattle.std.proofs.lemmas.List.{append-nil, take_all, length-take, length-append, length-drop}
use Rattle.std.proofs.lemmas.Slice.Eq.{bytes_eq-Decides}
use Rattle.rep_op.specs.declared.op.Op.{Op}
use Rattle.jr_disk.specs.declared.disk.Slot.{Slot}
use Rattle.jr_disk.specs.declared.disk.Slot.TheVariants.{First, Second}
use Rattle.jr_journal.specs.declared.fault.JournalFault.TheVariants.{Foreign}
use Rattle.jr_journal.specs.declared.piece.Piece.TheVariants.{Seal}
use Rattle.jr_journal.specs.declared.piece.Found.{Found}
use Rattle.jr_journal.specs.declared.content.SlotContent.{SlotContent}
use Rattle.jr_journal.specs.declared.content.SlotContent.TheVariants.{Alien, Unsealed, Sealed, Broken}
use Rattle.jr_journal.specs.declared.opening.Opening.{Opening}
use Rattle.jr_journal.specs.declared.opening.Opening.TheVariants.{New, Held}
use Rattle.jr_disk.specs.Disk.{SlotBytes, Slots, Image, at, replaced, bytes_of, image, cut_to}
use Rattle.jr_journal.specs.Records.{new_journal, magic, piece_at, found_of, found_joined, one_seal, slot_content, generation_in, chosen, records}
use Rattle.jr_journal.specs.Faults.{is_nil, is_fresh, slots_fault, fault_of}
use Rattle.jr_journal.specs.Crashes.{Leaves, synced_bytes, reads_first, cut_end, recovered}
use Rattle.jr_journal.specs.Journals.{other_slot}
use Rattle.jr_journal.specs.Opening.{synced_slots, slot_read, generation_read}
use Rattle.jr_journal.specs.inner.Journals.{is_older, is_in_use}
use Rattle.jr_journal.specs.inner.Opening.{synced_image, opening_of, deltas_of, opening_slot, opening_generation, IsOpening, IsSized, settled, is_new}
use Rattle.jr_journal.proofs.Pieces.{found_seal, found_nothing}
use Rattle.jr_journal.proofs.Append.{found_inside}
use Rattle.jr_journal.proofs.Contents.{IsSealed, sealed_shape, sealed_cut}
use Rattle.jr_journal.proofs.Sound.{image_at, image_of, empty_unsealed, alone_sound, used_sound, not_fresh}
use Rattle.jr_journal.proofs.Settled.{IsUsed, in_use_again, used_leaves, records_at}

-- ---- what is to be done, by what the slots are

abbrev pub is_first : Slot → Bool
is_first First = true
is_first Second = false

-- the first slot is the one that is read
abbrev reads : ℕ → Image → Bool
reads gateway i = reads_first (slot_content gateway i.first) (slot_content gateway i.second)

abbrev pub Ruled : ℕ → Image → Opening → Type 0
Ruled gateway i New = (is_fresh i ≡ true) × (slot_content gateway i.first ≡ Unsealed) × (slot_content gateway i.second ≡ Unsealed)
Ruled gateway i (Held slot m f size) =
    (slot_content gateway (image_at i slot) ≡ Sealed m f) × (is_older (slot_content gateway (image_at i (other_slot slot))) m ≡ true) × (reads gateway i ≡ is_first slot)
    × (size ≡ length (image_at i slot))

fresh_so : (b : Bool) → cond b None (Some Foreign) ≡ None → b ≡ true
fresh_so true e = refl
fresh_so false e = absurd cc

newer : (p q : Bool) → cond p None (cond q None (Some Foreign)) ≡ None → q ≡ false → p ≡ true
newer true q e f = refl
newer false true e f = absurd cc
newer false false e f = absurd cc

module _ (gateway : ℕ) (i : Image) where
  by_both : (x y : SlotContent) → slot_content gateway i.first ≡ x → slot_content gateway i.second ≡ y → slots_fault x y (is_fresh i) ≡ None → Ruled gateway i (opening_of x (length i.first) y (length i.second))
  by_both Alien Alien e g sound = absurd cc
  by_both Alien Unsealed e g sound = absurd cc
  by_both Alien (Sealed n q) e g sound = absurd cc
  by_both Alien (Broken from) e g sound = absurd cc
  by_both (Broken start) Alien e g sound = absurd cc
  by_both (Broken start) Unsealed e g sound = absurd cc
  by_both (Broken start) (Sealed n q) e g sound = absurd cc
  by_both (Broken start) (Broken from) e g sound = absurd cc
  by_both Unsealed Alien e g sound = absurd cc
  by_both Unsealed (Broken from) e g sound = absurd cc
  by_both Unsealed Unsealed e g sound = (fresh_so (is_fresh i) sound, e, g)
  by_both Unsealed (Sealed n q) e g sound = (g, ap (λ c. is_older c n) e, ap (λ c. reads_first c (slot_content gateway i.second)) e, refl)
  by_both (Sealed m f) Alien e g sound = absurd cc
  by_both (Sealed m f) (Broken from) e g sound = absurd cc
  by_both (Sealed m f) Unsealed e g sound =
      (e, ap (λ c. is_older c m) g, ap (λ c. reads_first c (slot_content gateway i.second)) e ∙ ap (λ c. reads_first (Sealed m f) c) g, refl)
  by_both (Sealed m f) (Sealed n q) e g sound =
      let here : reads gateway i ≡ nat_lt n m = ap (λ c. reads_first c (slot_content gateway i.second)) e ∙ ap (λ c. reads_first (Sealed m f) c) g in
      let first = Held First m f (length i.first) in
      let second = Held Second n q (length i.second) in
      elim (cases_Bool (nat_lt n m)) [
        | inl later ↦ subst (λ (b : Bool). Ruled gateway i (cond b first second)) (sym later) (e, ap (λ c. is_older c m) g ∙ later, here ∙ later, refl)
        | inr sooner ↦
            subst (λ (b : Bool). Ruled gateway i (cond b first second)) (sym sooner)
            (g, ap (λ c. is_older c n) e ∙ newer (nat_lt m n) (nat_lt n m) sound sooner, here ∙ sooner, refl)
      ]

pub ruled : (gateway : ℕ) (i : Image) (o : Opening) → IsOpening gateway i o → Ruled gateway i o
ruled gateway i o h =
    subst (λ (p : Opening). Ruled gateway i p) (sym h.1) (by_both gateway i (slot_content gateway i.first) (slot_content gateway i.second) refl refl h.0)

pub opening_found : (gateway : ℕ) (i : Image) (o : Opening) → IsOpening gateway i o → fault_of gateway i ≡ None
opening_found gateway i o h = h.0

-- ---- fresh, or not

nil_is : (xs : List ℕ) → is_nil xs ≡ true → xs ≡ []
nil_is [] e = refl
nil_is (x ∷ xs) e = absurd cc

held_stale : (gateway : ℕ) (i : Image) (slot : Slot) (m : ℕ) (f : Found) → slot_content gateway (image_at i slot) ≡ Sealed m f → is_fresh i ≡ false
held_stale gateway i slot m f e = not_fresh gateway slot i m f (sealed_shape gateway (image_at i slot) m f e)

pub fresh_empty : (i : Image) → is_fresh i ≡ true → i.second ≡ []
fresh_empty i e = nil_is i.second (and_parts _ _ e).0

-- a new journal is begun exactly where the image is fresh
pub opening_fresh : (gateway : ℕ) (i : Image) (o : Opening) → IsOpening gateway i o → is_fresh i ≡ is_new o
opening_fresh gateway i o h = go o (ruled gateway i o h) where
  go : (o : Opening) → Ruled gateway i o → is_fresh i ≡ is_new o
  go New r = r.0
  go (Held slot m f n) r = held_stale gateway i slot m f r.0

-- ---- which slot is read

pub opening_place : (gateway : ℕ) (i : Image) (o : Opening) → IsOpening gateway i o → (opening_slot o ≡ slot_read gateway i) × (opening_generation o ≡ generation_read gateway i)
opening_place gateway i o h = go o (ruled gateway i o h) where
  m_first : ℕ
  m_first = generation_in (slot_content gateway i.first)

  m_second : ℕ
  m_second = generation_in (slot_content gateway i.second)

  go : (o : Opening) → Ruled gateway i o → (opening_slot o ≡ slot_read gateway i) × (opening_generation o ≡ generation_read gateway i)
  go New r = (sym (ap (λ b. cond b First (cond (reads gateway i) First Second)) r.0), sym (ap (λ b. cond b 1 (cond (reads gateway i) m_first m_second)) r.0))
  go (Held First m f n) r =
      let stale = held_stale gateway i First m f r.0 in (
        sym (ap (λ b. cond b First (cond (reads gateway i) First Second)) stale ∙ ap (λ b. cond b First Second) r.2),
        sym (ap (λ b. cond b 1 (cond (reads gateway i) m_first m_second)) stale ∙ (ap (λ b. cond b m_first m_second) r.2 ∙ ap generation_in r.0)),
      )
  go (Held Second m f n) r =
      let stale = held_stale gateway i Second m f r.0 in (
        sym (ap (λ b. cond b First (cond (reads gateway i) First Second)) stale ∙ ap (λ b. cond b First Second) r.2),
        sym (ap (λ b. cond b 1 (cond (reads gateway i) m_first m_second)) stale ∙ (ap (λ b. cond b m_first m_second) r.2 ∙ ap generation_in r.0)),
      )

-- ---- the slots

abbrev pair : SlotBytes → SlotBytes → Slots
pair a b = record { first = a; second = b }

recovered_new : (gateway : ℕ) (i : Image) → is_fresh i ≡ true → recovered gateway i ≡ pair (synced_bytes (new_journal gateway)) (synced_bytes i.second)
recovered_new gateway i fresh = rw fresh refl

-- the end of the slot that is read is cut away
abbrev cut_at : Image → Slot → Found → Slots
cut_at i slot f = replaced (synced_image i) slot (synced_bytes (take (13 + f.whole) (image_at i slot)))

recovered_held : (gateway : ℕ) (i : Image) (slot : Slot) (m : ℕ) (f : Found) → slot_content gateway (image_at i slot) ≡ Sealed m f → reads gateway i ≡ is_first slot → recovered gateway i ≡ cut_at i slot f
recovered_held gateway i slot m f is which = by_slot slot is which (held_stale gateway i slot m f is) where
  A : Slots
  A = pair (synced_bytes (cut_end (slot_content gateway i.first) i.first)) (synced_bytes i.second)

  B : Slots
  B = pair (synced_bytes i.first) (synced_bytes (cut_end (slot_content gateway i.second) i.second))

  new : Slots
  new = pair (synced_bytes (new_journal gateway)) (synced_bytes i.second)

  by_slot : (slot : Slot) → slot_content gateway (image_at i slot) ≡ Sealed m f → reads gateway i ≡ is_first slot → is_fresh i ≡ false → recovered gateway i ≡ cut_at i slot f
  by_slot First is which stale =
      ap (λ b. cond b new (cond (reads gateway i) A B)) stale ∙ (ap (λ b. cond b A B) which ∙ ap (λ c. pair (synced_bytes (cut_end c i.first)) (synced_bytes i.second)) is)
  by_slot Second is which stale =
      ap (λ b. cond b new (cond (reads gateway i) A B)) stale ∙ (ap (λ b. cond b A B) which ∙ ap (λ c. pair (synced_bytes i.first) (synced_bytes (cut_end c i.second))) is)

-- the image is that of the slots when both are synced
synced_first : (d : Slots) → (image (synced_slots d)).first ≡ (image d).first
synced_first d = append-nil (bytes_of d.first)

pub synced_same : (d : Slots) → image (synced_slots d) ≡ image d
synced_same d =
    let a : bytes_of d.first ++ [] ≡ bytes_of d.first = append-nil (bytes_of d.first) in
    let b : bytes_of d.second ++ [] ≡ bytes_of d.second = append-nil (bytes_of d.second) in
    λ j. record { first = a j; second = b j }

abbrev nothing : List ℕ
nothing = []

cut_synced : (xs : List ℕ) (n : ℕ) → cut_to (synced_bytes xs) n ≡ synced_bytes (take n xs)
cut_synced xs n = let none : take (n - length xs) nothing ≡ nothing = take_all (n - length xs) nothing (omega arith) in λ j. record { synced = take n xs; unsynced = none j }

settled_held : (slot : Slot) (d : Slots) (f : Found) → replaced (synced_slots d) slot (cut_to (at (synced_slots d) slot) (13 + f.whole)) ≡ cut_at (image d) slot f
settled_held First d f = ap (λ s. pair s (synced_bytes (image d).second)) (cut_synced (bytes_of d.first) (13 + f.whole))
settled_held Second d f = ap (λ s. pair (synced_bytes (image d).first) s) (cut_synced (bytes_of d.second) (13 + f.whole))

pub settled_is : (gateway : ℕ) (old synced new : Slots) (o : Opening) → synced ≡ synced_slots old → IsOpening gateway (image synced) o → new ≡ settled gateway o synced → new ≡ recovered gateway (image old)
settled_is gateway old synced new o e h is =
    let i = image old in
    let same : image synced ≡ i = ap image e ∙ synced_same old in
    let here : IsOpening gateway i o = subst (λ (x : Image). IsOpening gateway x o) same h in
    let now : new ≡ settled gateway o (synced_slots old) = is ∙ ap (λ d. settled gateway o d) e in
    now ∙ go o (ruled gateway i o here)
  where
    go : (o : Opening) → Ruled gateway (image old) o → settled gateway o (synced_slots old) ≡ recovered gateway (image old)
    go New r = sym (recovered_new gateway (image old) r.0)
    go (Held slot m f n) r = settled_held slot old f ∙ sym (recovered_held gateway (image old) slot m f r.0 r.2)

-- ---- its records

pub begins_itself : (xs : List ℕ) → bytes_eq xs xs ≡ true
begins_itself xs = (bytes_eq-Decides xs xs).1 refl

seal_piece : piece_at 83 [] ≡ Seal
unfolding piece_at
seal_piece = refl

pub new_sealed : (gateway : ℕ) → IsSealed gateway (new_journal gateway) 1 (found_of [] true 1 false)
new_sealed gateway = record {
  header = begins_itself (magic gateway);
  long = omega arith;
  number = refl;
  pieces = found_seal 83 [] seal_piece ∙ ap (λ q. found_joined one_seal q) (found_nothing 0 true);
  good = refl;
  seal = refl;
}

record IsOpened (gateway : ℕ) (d : Slots) (slot : Slot) (generation : ℕ) (deltas : List (List Op)) : Type 0 where
  pieces : Found
  used : IsUsed gateway slot d generation pieces
  same : pieces.deltas ≡ deltas

opened_new : (gateway : ℕ) (i : Image) → i.second ≡ [] → IsOpened gateway (pair (synced_bytes (new_journal gateway)) (synced_bytes i.second)) First 1 []
opened_new gateway i none = record {
  pieces = found_of [] true 1 false;
  used = record {
    first_clean = refl;
    second_clean = refl;
    sealed = new_sealed gateway;
    full = refl;
    below = ap (λ a. is_older a 1) (ap (λ xs. slot_content gateway xs) none ∙ empty_unsealed gateway);
    sound = alone_sound gateway (image_of (new_journal gateway) i.second) 1 (found_of [] true 1 false) none (new_sealed gateway);
  };
  same = refl;
}

cut_full : (gateway : ℕ) (xs : List ℕ) (m : ℕ) (f : Found) → IsSealed gateway xs m f → 13 + f.whole ≡ length (take (13 + f.whole) xs)
cut_full gateway xs m f h =
    let long = h.long in
    let within : 0 + f.whole ≤ length (drop 13 xs) = found_inside 0 false (drop 13 xs) f h.pieces (omega arith) in
    omega (arith, length-take (13 + f.whole) xs, length-drop 13 xs)

opened_held : (gateway : ℕ) (i : Image) (slot : Slot) (m : ℕ) (f : Found) → IsSealed gateway (image_at i slot) m f → is_older (slot_content gateway (image_at i (other_slot slot))) m ≡ true
    → IsOpened gateway (cut_at i slot f) slot m f.deltas
opened_held gateway i First m f h below =
    let cut = sealed_cut gateway i.first m f h in
    record {
      pieces = f;
      used = record {
        first_clean = refl;
        second_clean = refl;
        sealed = cut;
        full = cut_full gateway i.first m f h;
        below = below;
        sound = used_sound gateway First (image_of (take (13 + f.whole) i.first) i.second) m f cut below;
      };
      same = refl;
    }
opened_held gateway i Second m f h below =
    let cut = sealed_cut gateway i.second m f h in
    record {
      pieces = f;
      used = record {
        first_clean = refl;
        second_clean = refl;
        sealed = cut;
        full = cut_full gateway i.second m f h;
        below = below;
        sound = used_sound gateway Second (image_of i.first (take (13 + f.whole) i.second)) m f cut below;
      };
      same = refl;
    }

opened : (gateway : ℕ) (i : Image) (o : Opening) → IsOpening gateway i o → IsOpened gateway (recovered gateway i) (opening_slot o) (opening_generation o) (deltas_of o)
opened gateway i o h = go o (ruled gateway i o h) where
  go : (o : Opening) → Ruled gateway i o → IsOpened gateway (recovered gateway i) (opening_slot o) (opening_generation o) (deltas_of o)
  go New r = subst (λ (d : Slots). IsOpened gateway d First 1 []) (sym (recovered_new gateway i r.0)) (opened_new gateway i (fresh_empty i r.0))
  go (Held slot m f n) r =
      subst (λ (d : Slots). IsOpened gateway d slot m f.deltas) (sym (recovered_held gateway i slot m f r.0 r.2))
      (opened_held gateway i slot m f (sealed_shape gateway (image_at i slot) m f r.0) r.1)

pub opening_records : (gateway : ℕ) (i : Image) (o : Opening) → IsOpening gateway i o → deltas_of o ≡ records gateway i
opening_records gateway i o h = go o (ruled gateway i o h) where
  go : (o : Opening) → Ruled gateway i o → deltas_of o ≡ records gateway i
  go New r = sym (ap (λ a. chosen a (slot_content gateway i.second)) r.1 ∙ ap (λ b. chosen Unsealed b) r.2)
  go (Held slot m f n) r = sym (records_at gateway slot i m f (sealed_shape gateway (image_at i slot) m f r.0) r.1)

pub recovered_in_use : (gateway : ℕ) (i : Image) (o : Opening) → IsOpening gateway i o → is_in_use gateway (opening_slot o) (opening_generation o) (recovered gateway i) ≡ true
recovered_in_use gateway i o h = let p = opened gateway i o h in in_use_again gateway (opening_slot o) (recovered gateway i) (opening_generation o) p.pieces p.used

pub recovered_leaves : (gateway : ℕ) (i : Image) (o : Opening) → IsOpening gateway i o → Leaves gateway (recovered gateway i) (deltas_of o)
recovered_leaves gateway i o h =
    let p = opened gateway i o h in
    subst (λ (xs : List (List Op)). Leaves gateway (recovered gateway i) xs) p.same (used_leaves gateway (opening_slot o) (recovered gateway i) (opening_generation o) p.pieces p.used)

-- a cut after the end does nothing
pub cut_nothing : (s : SlotBytes) (len : ℕ) → length (bytes_of s) ≤ len → s ≡ cut_to s len
cut_nothing s len le =
    let size = length-append s.synced s.unsynced in
    let a : take len s.synced ≡ s.synced = take_all len s.synced (omega arith) in
    let b : take (len - length s.synced) s.unsynced ≡ s.unsynced = take_all (len - length s.synced) s.unsynced (omega arith) in
    λ j. record { synced = sym a j; unsynced = sym b j }

-- ---- the three steps of an opening

pub record IsRecovered (gateway : ℕ) (old new : Slots) (o : Opening) : Type 0 where
  pub known : new ≡ recovered gateway (image old)
  pub opening : IsOpening gateway (image old) o

pub all_steps : (gateway : ℕ) (old synced read new : Slots) (o : Opening) → synced ≡ synced_slots old → read ≡ synced → IsOpening gateway (image synced) o × IsSized o synced → (IsSized o read → new ≡ settled gateway o read)
    → IsRecovered gateway old new o
all_steps gateway old synced read new o e same h step =
    let sized : IsSized o read = subst (λ (d : Slots). IsSized o d) (sym same) h.1 in
    let is : new ≡ settled gateway o synced = step sized ∙ ap (λ d. settled gateway o d) same in
    record {
      known = settled_is gateway old synced new o e h.0 is;
      opening = subst (λ (i : Image). IsOpening gateway i o) (ap image e ∙ synced_same old) h.0;
    }

pub steps_in_use : (gateway : ℕ) (old new : Slots) (o : Opening) (slot : Slot) (generation : ℕ) → IsRecovered gateway old new o → slot ≡ opening_slot o → generation ≡ opening_generation o → is_in_use gateway slot generation new ≡ true
steps_in_use gateway old new o slot generation h place number =
    ap (λ d. is_in_use gateway slot generation d) h.known
    ∙ (ap (λ s. is_in_use gateway s generation (recovered gateway (image old))) place
    ∙ (ap (λ n. is_in_use gateway (opening_slot o) n (recovered gateway (image old))) number ∙ recovered_in_use gateway (image old) o h.opening))

pub steps_leave : (gateway : ℕ) (old new : Slots) (o : Opening) (deltas : List (List Op)) → IsRecovered gateway old new o → deltas ≡ deltas_of o → Leaves gateway new deltas
steps_leave gateway old new o deltas h same =
    subst (λ (d : Slots). Leaves gateway d deltas) (sym h.known) (subst (λ (xs : List (List Op)). Leaves gateway (recovered gateway (image old)) xs) (sym same) (recovered_leaves gateway (image old) o h.opening))
