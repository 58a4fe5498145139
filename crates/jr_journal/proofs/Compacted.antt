-- A compaction that is stopped anywhere leaves the old records or the base.
use Rattle.std.proofs.Common.{◌≡◌, ℕ, ◌+◌, ◌-◌, ◌^◌, ◌<◌, Bool, true, false, None, List, [], ◌++◌, length, take, min, refl, sym, ap, subst, ◌∙◌, inl, inr, ◌⊎◌, arith}
use Rattle.std.specs.List.{AllByRecursion}
use Rattle.std.proofs.lemmas.Bool.{cases_lt, lt-ltb}
use Rattle.std.proofs.lemmas.List.{take_all, append-nil}
use Rattle.rep_op.specs.declared.op.Op.{Op}
use Rattle.jr_disk.specs.declared.disk.Slot.{Slot}
use Rattle.jr_disk.specs.declared.disk.Slot.TheVariants.{First, Second}
use Rattle.jr_journal.specs.declared.piece.Found.{Found}
use Rattle.jr_disk.specs.Disk.{SlotBytes, Slots, at, bytes_of, all_synced, image, after_crash}
use Rattle.jr_journal.specs.inner.Disk.{synced_part}
use Rattle.jr_journal.specs.Records.{base_bytes, slot_content, records}
use Rattle.jr_journal.specs.Readable.{IsReadable}
use Rattle.jr_journal.specs.Crashes.{Opens, Leaves, LeavesEither}
use Rattle.jr_journal.specs.Arranged.{after_append}
use Rattle.jr_journal.specs.Journals.{other_slot, emptied}
use Rattle.jr_journal.specs.Opening.{synced_slots}
use Rattle.jr_journal.specs.inner.Journals.{is_older, is_in_use}
use Rattle.jr_journal.proofs.Contents.{IsSealed, sealed_again}
use Rattle.jr_journal.proofs.Sound.{image_at, used_sound, not_fresh}
use Rattle.jr_journal.proofs.Settled.{IsUsed, in_use_shape, in_use_again, used_leaves, used_records, records_at, with_more, crash_more, take_both, sealed_at}
use Rattle.jr_journal.proofs.Bases.{whole_of, cut_slot, whole_slot, whole_full}
use Rattle.jr_journal.proofs.Appending.{IsKept, going_on}

pub nothing_left : (n : ℕ) (xs : List ℕ) → xs ≡ [] → take n xs ≡ []
nothing_left n xs e = ap (λ ys. take n ys) e ∙ take_all n [] (omega arith)

pub crash_compact : (slot : Slot) (d : Slots) (bytes : List ℕ) (w k l : ℕ) → d.first.unsynced ≡ [] → d.second.unsynced ≡ []
    → (j : ℕ) × (image_at (after_crash k l (with_more (emptied d (other_slot slot)) (other_slot slot) (take w bytes))) (other_slot slot) ≡ take j bytes)
    × (image_at (after_crash k l (with_more (emptied d (other_slot slot)) (other_slot slot) (take w bytes))) slot ≡ (at d slot).synced)
crash_compact First d bytes w k l a b =
    let c = crash_more Second (emptied d Second) (take w bytes) k l a (nothing_left (0 - length d.second.synced) d.second.unsynced b) in
    (min c.0 w, c.1 ∙ take_both c.0 w bytes, c.2)
crash_compact Second d bytes w k l a b =
    let c = crash_more First (emptied d First) (take w bytes) k l (nothing_left (0 - length d.first.synced) d.first.unsynced a) b in
    (min c.0 w, c.1 ∙ take_both c.0 w bytes, c.2)

other_twice : (slot : Slot) → other_slot (other_slot slot) ≡ slot
other_twice First = refl
other_twice Second = refl

-- whatever a crash leaves then
pub compact_leaves : (gateway : ℕ) (slot : Slot) (d : Slots) (m : ℕ) (f : Found) (base : List (List Op)) (w k l : ℕ) → IsUsed gateway slot d m f → AllByRecursion IsReadable base → m + 1 < 2 ^ 64
    → Opens gateway f.deltas (after_crash k l (with_more (emptied d (other_slot slot)) (other_slot slot) (take w (base_bytes gateway (m + 1) base))))
    ⊎ Opens gateway (base ++ []) (after_crash k l (with_more (emptied d (other_slot slot)) (other_slot slot) (take w (base_bytes gateway (m + 1) base))))
compact_leaves gateway slot d m f base w k l h readable fits =
    let bytes = base_bytes gateway (m + 1) base in
    let i = after_crash k l (with_more (emptied d (other_slot slot)) (other_slot slot) (take w bytes)) in
    let c = crash_compact slot d bytes w k l h.first_clean h.second_clean in
    let here : IsSealed gateway (image_at i slot) m f = sealed_at gateway (at d slot).synced (image_at i slot) m f c.2 h.sealed in
    elim (cases_lt c.0 (length bytes)) [
      | inl lt ↦
          let below : is_older (slot_content gateway (image_at i (other_slot slot))) m ≡ true =
          ap (λ x. is_older x m) (ap (λ ys. slot_content gateway ys) c.1 ∙ cut_slot gateway (m + 1) c.0 base readable lt) in
          inl (records_at gateway slot i m f here below, used_sound gateway slot i m f here below, not_fresh gateway slot i m f here)
      | inr le ↦
          let all : image_at i (other_slot slot) ≡ bytes = c.1 ∙ take_all c.0 bytes le in
          let there : IsSealed gateway (image_at i (other_slot slot)) (m + 1) (whole_of base) = sealed_at gateway bytes (image_at i (other_slot slot)) (m + 1) (whole_of base) all (whole_slot gateway (m + 1) base readable fits) in
          let older : is_older (slot_content gateway (image_at i (other_slot (other_slot slot)))) (m + 1) ≡ true =
          ap (λ s. is_older (slot_content gateway (image_at i s)) (m + 1)) (other_twice slot) ∙ (ap (λ x. is_older x (m + 1)) (sealed_again gateway (image_at i slot) m f here) ∙ lt-ltb m (m + 1) (omega arith)) in
          inr (
            records_at gateway (other_slot slot) i (m + 1) (whole_of base) there older,
            used_sound gateway (other_slot slot) i (m + 1) (whole_of base) there older,
            not_fresh gateway (other_slot slot) i (m + 1) (whole_of base) there,
          )
    ]

-- ---- and synced

pub compact_used : (gateway : ℕ) (slot : Slot) (d : Slots) (m : ℕ) (f : Found) (base : List (List Op)) → IsUsed gateway slot d m f → AllByRecursion IsReadable base → m + 1 < 2 ^ 64
    → IsUsed gateway (other_slot slot) (after_append None (emptied d (other_slot slot)) (other_slot slot) (base_bytes gateway (m + 1) base)) (m + 1) (whole_of base)
compact_used gateway First d m f base used readable fits =
    let bytes = base_bytes gateway (m + 1) base in
    let new = after_append None (emptied d Second) Second bytes in
    let is : new.second.synced ≡ bytes = ap (λ xs. xs ++ bytes) (nothing_left (0 - length d.second.synced) d.second.unsynced used.second_clean) in
    let sealed = sealed_at gateway bytes new.second.synced (m + 1) (whole_of base) is (whole_slot gateway (m + 1) base readable fits) in
    let below : is_older (slot_content gateway d.first.synced) (m + 1) ≡ true = ap (λ c. is_older c (m + 1)) (sealed_again gateway d.first.synced m f used.sealed) ∙ lt-ltb m (m + 1) (omega arith) in
    record {
      first_clean = used.first_clean;
      second_clean = refl;
      sealed = sealed;
      full = whole_full gateway (m + 1) base ∙ ap length (sym is);
      below = below;
      sound = used_sound gateway Second (synced_part new) (m + 1) (whole_of base) sealed below;
    }
compact_used gateway Second d m f base used readable fits =
    let bytes = base_bytes gateway (m + 1) base in
    let new = after_append None (emptied d First) First bytes in
    let is : new.first.synced ≡ bytes = ap (λ xs. xs ++ bytes) (nothing_left (0 - length d.first.synced) d.first.unsynced used.first_clean) in
    let sealed = sealed_at gateway bytes new.first.synced (m + 1) (whole_of base) is (whole_slot gateway (m + 1) base readable fits) in
    let below : is_older (slot_content gateway d.second.synced) (m + 1) ≡ true = ap (λ c. is_older c (m + 1)) (sealed_again gateway d.second.synced m f used.sealed) ∙ lt-ltb m (m + 1) (omega arith) in
    record {
      first_clean = refl;
      second_clean = used.second_clean;
      sealed = sealed;
      full = whole_full gateway (m + 1) base ∙ ap length (sym is);
      below = below;
      sound = used_sound gateway First (synced_part new) (m + 1) (whole_of base) sealed below;
    }

-- ---- the exits of a compaction

-- what is known where a journal that goes on is compacted
pub record IsCompacting (gateway : ℕ) (slot : Slot) (generation next : ℕ) (halted : Bool) (old : Slots) (base : List (List Op)) (bytes : List ℕ) : Type 0 where
  pub kept : IsKept gateway slot generation halted old
  pub runs : halted ≡ false
  pub readable : AllByRecursion IsReadable base
  pub number : next ≡ generation + 1
  pub fits : generation + 1 < 2 ^ 64
  pub spelled : bytes ≡ base_bytes gateway next base

module _ (gateway : ℕ) (slot : Slot) (generation next : ℕ) (halted : Bool) (old new : Slots) (base : List (List Op)) (bytes : List ℕ) (h : IsCompacting gateway slot generation next halted old base bytes) where
  in_use : (f : Found) × IsUsed gateway slot old generation f
  in_use = going_on gateway slot generation halted old h.kept h.runs

  fits : generation + 1 < 2 ^ 64
  fits = h.fits

  is : bytes ≡ base_bytes gateway (generation + 1) base
  is = h.spelled ∙ ap (λ n. base_bytes gateway n base) h.number

  before : records gateway (image old) ≡ in_use.0.deltas
  before = used_records gateway slot old generation in_use.0 in_use.1

  pub torn_compact : (new ≡ old) ⊎ ((n : ℕ) × (new ≡ with_more (emptied old (other_slot slot)) (other_slot slot) (take n bytes))) → LeavesEither gateway new (records gateway (image old)) base
  torn_compact part =
      elim part [
        | inl same ↦ λ k l.
            let opens = used_leaves gateway slot old generation in_use.0 in_use.1 k l in
            inl (subst (λ (d : Slots). Opens gateway (records gateway (image old)) (after_crash k l d)) (sym same) (opens.0 ∙ sym before, opens.1, opens.2))
        | inr out ↦ λ k l.
            let more = with_more (emptied old (other_slot slot)) (other_slot slot) (take out.0 (base_bytes gateway (generation + 1) base)) in
            let there : new ≡ more = out.1 ∙ ap (λ xs. with_more (emptied old (other_slot slot)) (other_slot slot) (take out.0 xs)) is in
            subst (λ (d : Slots). Opens gateway (records gateway (image old)) (after_crash k l d) ⊎ Opens gateway base (after_crash k l d)) (sym there)
            (elim (compact_leaves gateway slot old generation in_use.0 base out.0 k l in_use.1 h.readable fits) [
              | inl opens ↦ inl (opens.0 ∙ sym before, opens.1, opens.2)
              | inr opens ↦ inr (opens.0 ∙ append-nil base, opens.1, opens.2)
            ])
      ]

  abbrev done : Slots
  done = after_append None (emptied old (other_slot slot)) (other_slot slot) (base_bytes gateway (generation + 1) base)

  used_now : IsUsed gateway (other_slot slot) done (generation + 1) (whole_of base)
  used_now = compact_used gateway slot old generation in_use.0 base in_use.1 h.readable fits

  now_is : new ≡ after_append None (emptied old (other_slot slot)) (other_slot slot) bytes → new ≡ done
  now_is e = e ∙ ap (λ xs. after_append None (emptied old (other_slot slot)) (other_slot slot) xs) is

  pub compact_settles : new ≡ after_append None (emptied old (other_slot slot)) (other_slot slot) bytes → is_in_use gateway (other_slot slot) next new ≡ true
  compact_settles e =
      ap (λ d. is_in_use gateway (other_slot slot) next d) (now_is e)
      ∙ (ap (λ n. is_in_use gateway (other_slot slot) n done) h.number ∙ in_use_again gateway (other_slot slot) done (generation + 1) (whole_of base) used_now)

  pub compact_durable : new ≡ after_append None (emptied old (other_slot slot)) (other_slot slot) bytes → Leaves gateway new base
  compact_durable e = λ k l.
      let opens = used_leaves gateway (other_slot slot) done (generation + 1) (whole_of base) used_now k l in
      subst (λ (d : Slots). Opens gateway base (after_crash k l d)) (sym (now_is e)) (opens.0 ∙ append-nil base, opens.1, opens.2)

-- ---- an opening that changed nothing

synced_clean : (s : SlotBytes) → s.unsynced ≡ [] → all_synced s ≡ s
synced_clean s e =
    let front : bytes_of s ≡ s.synced = ap (λ xs. s.synced ++ xs) e ∙ append-nil s.synced in
    λ j. record { synced = front j; unsynced = sym e j }

-- slots that were in use are as they were, once they are synced
pub still_kept : (gateway : ℕ) (slot : Slot) (generation : ℕ) (halted : Bool) (old new : Slots) → IsKept gateway slot generation halted old → new ≡ synced_slots old → IsKept gateway slot generation halted new
still_kept gateway slot generation true old new h e = refl
still_kept gateway slot generation false old new h e =
    let u = in_use_shape gateway slot generation old h in
    let a : all_synced old.first ≡ old.first = synced_clean old.first u.1.first_clean in
    let b : all_synced old.second ≡ old.second = synced_clean old.second u.1.second_clean in
    let same : synced_slots old ≡ old = λ j. record { first = a j; second = b j } in
    subst (λ (d : Slots). IsKept gateway slot generation false d) (sym (e ∙ same)) h
