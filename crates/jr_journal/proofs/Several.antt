-- Records one behind the other: read again, cut anywhere, and written at once.
use Rattle.std.proofs.Common.{◌≡◌, ℕ, suc, ◌-◌, Bool, true, false, None, List, [], ◌∷◌, ◌++◌, length, take, min, refl, sym, ap, subst, ◌∙◌, inl, inr, arith}
use Rattle.std.specs.List.{AllByRecursion}
use Rattle.std.proofs.lemmas.Bool.{cases_lt}
use Rattle.std.proofs.lemmas.List.{take_all, take-append-le, length-append, flat_map_more}
use Rattle.rep_op.specs.declared.op.Op.{Op}
use Rattle.jr_disk.specs.declared.disk.Slot.{Slot}
use Rattle.jr_journal.specs.declared.piece.Found.{Found}
use Rattle.jr_disk.specs.Disk.{Slots, at, replaced, image, appended, all_synced, after_crash}
use Rattle.jr_journal.specs.Records.{delta_bytes, written, written_all, ended, found_joined, one_record, found, records}
use Rattle.jr_journal.specs.Readable.{IsReadable, deltas_in, AreRecords}
use Rattle.jr_journal.specs.Crashes.{Leaves, LeavesSome}
use Rattle.jr_journal.specs.Journals.{other_slot}
use Rattle.jr_journal.specs.Faults.{fault_of}
use Rattle.jr_journal.specs.inner.Journals.{is_in_use}
use Rattle.jr_journal.proofs.Pieces.{found_nothing}
use Rattle.jr_journal.proofs.Append.{found_append, found_written, found_front, length_written}
use Rattle.jr_journal.proofs.Contents.{IsSealed, sealed_more}
use Rattle.jr_journal.proofs.Sound.{image_at, more_sound, replaced_sound, not_fresh}
use Rattle.jr_journal.proofs.Settled.{IsUsed, in_use_again, used_leaves, used_records, records_at, below_at, sealed_at, with_more, crash_more, take_both, replaced_used, clean_at}
use Rattle.jr_journal.proofs.Bases.{many, found_many, take_behind}
use Rattle.jr_journal.proofs.Appending.{IsKept, going_on}

-- ---- records that are read again

-- bytes that are these records hold these deltas
deltas_found : (bytes : List ℕ) (deltas : List (List Op)) → bytes ≡ written_all deltas → AllByRecursion IsReadable deltas → deltas_in bytes ≡ deltas
deltas_found bytes deltas is h = ap (λ xs. deltas_in xs) is ∙ ap (λ (f : Found). f.deltas) (found_many true deltas h)

are_records : (bytes : List ℕ) (deltas : List (List Op)) → bytes ≡ written_all deltas → AllByRecursion IsReadable deltas → AreRecords bytes
are_records bytes deltas is h =
    let same : deltas_in bytes ≡ deltas = deltas_found bytes deltas is h in
    record {
      are = is ∙ ap (λ ds. written_all ds) (sym same);
      readable = subst (λ (ds : List (List Op)). AllByRecursion IsReadable ds) (sym same) h;
    }

-- no bytes are no records
pub none_are : (bytes : List ℕ) → bytes ≡ [] → AreRecords bytes
none_are bytes is = are_records bytes [] is tt

pub none_in : (bytes : List ℕ) → bytes ≡ [] → deltas_in bytes ≡ []
none_in bytes is = deltas_found bytes [] is tt

one_behind : (deltas : List (List Op)) (delta : List Op) → AllByRecursion IsReadable deltas → IsReadable delta → AllByRecursion IsReadable (deltas ++ delta ∷ [])
one_behind [] delta h readable = (readable, tt)
one_behind (first ∷ deltas) delta h readable = (h.0, one_behind deltas delta h.1 readable)

longer : (bytes new : List ℕ) (delta : List Op) → AreRecords bytes → new ≡ bytes ++ written delta → new ≡ written_all (deltas_in bytes ++ delta ∷ [])
longer bytes new delta h is = is ∙ ap (λ xs. xs ++ written delta) h.are ∙ flat_map_more written [] (deltas_in bytes) delta

-- a record more
pub more_are : (bytes new : List ℕ) (delta : List Op) → AreRecords bytes → IsReadable delta → new ≡ bytes ++ written delta → AreRecords new
more_are bytes new delta h readable is = are_records new (deltas_in bytes ++ delta ∷ []) (longer bytes new delta h is) (one_behind (deltas_in bytes) delta h.readable readable)

pub more_in : (bytes new : List ℕ) (delta : List Op) → AreRecords bytes → IsReadable delta → new ≡ bytes ++ written delta → deltas_in new ≡ deltas_in bytes ++ delta ∷ []
more_in bytes new delta h readable is = deltas_found new (deltas_in bytes ++ delta ∷ []) (longer bytes new delta h is) (one_behind (deltas_in bytes) delta h.readable readable)

-- ---- records that are cut

-- behind a seal these bytes are some first ones of the records, and nothing bad
record IsFront (deltas : List (List Op)) (bytes : List ℕ) : Type 0 where
  pub pieces : Found
  pub is : found 0 true bytes ≡ pieces
  pub sealed : pieces.sealed ≡ true
  pub good : pieces.bad ≡ false
  pub count : ℕ
  pub deltas_are : pieces.deltas ≡ take count deltas

front_at : (deltas : List (List Op)) (xs ys : List ℕ) → ys ≡ xs → IsFront deltas xs → IsFront deltas ys
front_at deltas xs ys e h = subst (λ (zs : List ℕ). IsFront deltas zs) (sym e) h

front_of : (deltas : List (List Op)) (n : ℕ) → AllByRecursion IsReadable deltas → IsFront deltas (take n (written_all deltas))
front_of [] n h = front_at [] [] (take n []) (take_all n [] (omega arith)) (record { pieces = ended true false; is = found_nothing 0 true; sealed = refl; good = refl; count = 0; deltas_are = refl })
front_of (delta ∷ deltas) n h =
    let size = length_written delta in
    elim (cases_lt n (length (written delta))) [
      | inl lt ↦ front_at (delta ∷ deltas) (take n (written delta)) (take n (written delta ++ written_all deltas)) (take-append-le n (written delta) (written_all deltas) (omega arith))
          (record { pieces = ended true false; is = found_front true delta n h.0 lt; sealed = refl; good = refl; count = 0; deltas_are = refl })
      | inr le ↦
          let one = one_record delta (length (delta_bytes delta)) true in
          let rest = front_of deltas (n - length (written delta)) h.1 in
          front_at (delta ∷ deltas) (written delta ++ take (n - length (written delta)) (written_all deltas)) (take n (written delta ++ written_all deltas)) (take_behind n (written delta) (written_all deltas) le)
          (record {
            pieces = found_joined one rest.pieces;
            is = found_append 0 true (written delta) (take (n - length (written delta)) (written_all deltas)) one (found_written true delta h.0) refl (omega (arith, size)) ∙ ap (λ q. found_joined one q) rest.is;
            sealed = rest.sealed;
            good = rest.good;
            count = suc rest.count;
            deltas_are = ap (λ ds. delta ∷ ds) rest.deltas_are;
          })
    ]

some_leaves : (gateway : ℕ) (slot : Slot) (d : Slots) (m : ℕ) (f : Found) (deltas : List (List Op)) (w : ℕ) → IsUsed gateway slot d m f → AllByRecursion IsReadable deltas
    → LeavesSome gateway (with_more d slot (take w (written_all deltas))) (records gateway (image d)) deltas
some_leaves gateway slot d m f deltas w h readable = λ k l.
    let bytes = written_all deltas in
    let new = with_more d slot (take w bytes) in
    let c = crash_more slot d (take w bytes) k l h.first_clean h.second_clean in
    let front : image_at (after_crash k l new) slot ≡ (at d slot).synced ++ take (min c.0 w) bytes = c.1 ∙ ap (λ ys. (at d slot).synced ++ ys) (take_both c.0 w bytes) in
    let s = front_of deltas (min c.0 w) readable in
    let q : Found = found_joined f s.pieces in
    let sealed : IsSealed gateway (image_at (after_crash k l new) slot) m q =
    sealed_at gateway ((at d slot).synced ++ take (min c.0 w) bytes) (image_at (after_crash k l new) slot) m q front
    (sealed_more gateway (at d slot).synced (take (min c.0 w) bytes) m f s.pieces h.sealed h.full s.is s.good s.sealed) in
    let sound : fault_of gateway (after_crash k l new) ≡ None = more_sound gateway slot d (after_crash k l new) m f q h.sealed sealed c.2 h.sound in
    let now : records gateway (after_crash k l new) ≡ q.deltas =
    records_at gateway slot (after_crash k l new) m q sealed
    (below_at gateway (at d (other_slot slot)).synced (image_at (after_crash k l new) (other_slot slot)) m c.2 h.below) in
    let before : f.deltas ≡ records gateway (image d) = sym (used_records gateway slot d m f h) in
    let are : q.deltas ≡ records gateway (image d) ++ take s.count deltas = ap (λ ds. f.deltas ++ ds) s.deltas_are ∙ ap (λ ds. ds ++ take s.count deltas) before in
    (s.count, (now ∙ are, sound, not_fresh gateway slot (after_crash k l new) m q sealed))

-- ---- and synced

several_used : (gateway : ℕ) (slot : Slot) (d : Slots) (m : ℕ) (f : Found) (deltas : List (List Op)) → IsUsed gateway slot d m f → AllByRecursion IsReadable deltas
    → IsUsed gateway slot (replaced d slot (all_synced (appended (at d slot) (written_all deltas)))) m (found_joined f (many true deltas))
several_used gateway slot d m f deltas h readable =
    let bytes = written_all deltas in
    let all = many true deltas in
    let s = all_synced (appended (at d slot) bytes) in
    let clean : (at d slot).unsynced ≡ [] = clean_at slot d h.first_clean h.second_clean in
    let is : s.synced ≡ (at d slot).synced ++ bytes = ap (λ xs. (at d slot).synced ++ (xs ++ bytes)) clean in
    let full = h.full in
    let size : length s.synced ≡ length ((at d slot).synced ++ bytes) = ap length is in
    let sealed : IsSealed gateway s.synced m (found_joined f all) =
    sealed_at gateway ((at d slot).synced ++ bytes) s.synced m (found_joined f all) is
    (sealed_more gateway (at d slot).synced bytes m f all h.sealed h.full (found_many true deltas readable) refl refl) in
    replaced_used gateway slot d s m (found_joined f all) h.first_clean h.second_clean refl sealed
    (omega (arith, length-append (at d slot).synced bytes)) h.below
    (replaced_sound gateway slot d s m f (found_joined f all) h.sealed sealed h.sound)

-- ---- the exits of an append of several records

-- what is known where a journal that goes on appends them
pub record IsAppending (gateway : ℕ) (slot : Slot) (generation : ℕ) (halted : Bool) (old : Slots) (deltas : List (List Op)) (bytes : List ℕ) : Type 0 where
  pub kept : IsKept gateway slot generation halted old
  pub runs : halted ≡ false
  pub readable : AllByRecursion IsReadable deltas
  pub spelled : bytes ≡ written_all deltas

module _ (gateway : ℕ) (slot : Slot) (generation : ℕ) (halted : Bool) (old new : Slots) (deltas : List (List Op)) (bytes : List ℕ) (h : IsAppending gateway slot generation halted old deltas bytes) where
  in_use : (f : Found) × IsUsed gateway slot old generation f
  in_use = going_on gateway slot generation halted old h.kept h.runs

  abbrev done : Slots
  done = replaced old slot (all_synced (appended (at old slot) (written_all deltas)))

  used_now : IsUsed gateway slot done generation (found_joined in_use.0 (many true deltas))
  used_now = several_used gateway slot old generation in_use.0 deltas in_use.1 h.readable

  now_is : new ≡ replaced old slot (all_synced (appended (at old slot) bytes)) → new ≡ done
  now_is e = e ∙ ap (λ xs. replaced old slot (all_synced (appended (at old slot) xs))) h.spelled

  pub several_torn : (w : ℕ) → new ≡ replaced old slot (appended (at old slot) (take w bytes)) → LeavesSome gateway new (records gateway (image old)) deltas
  several_torn w is =
      let more : new ≡ with_more old slot (take w (written_all deltas)) = is ∙ ap (λ xs. replaced old slot (appended (at old slot) (take w xs))) h.spelled in
      subst (λ (d : Slots). LeavesSome gateway d (records gateway (image old)) deltas) (sym more) (some_leaves gateway slot old generation in_use.0 deltas w in_use.1 h.readable)

  pub several_settles : new ≡ replaced old slot (all_synced (appended (at old slot) bytes)) → is_in_use gateway slot generation new ≡ true
  several_settles e = ap (λ d. is_in_use gateway slot generation d) (now_is e) ∙ in_use_again gateway slot done generation (found_joined in_use.0 (many true deltas)) used_now

  pub several_durable : new ≡ replaced old slot (all_synced (appended (at old slot) bytes)) → Leaves gateway new (records gateway (image old) ++ deltas)
  several_durable e =
      let before : in_use.0.deltas ≡ records gateway (image old) = sym (used_records gateway slot old generation in_use.0 in_use.1) in
      let leaves = used_leaves gateway slot done generation (found_joined in_use.0 (many true deltas)) used_now in
      subst (λ (d : Slots). Leaves gateway d (records gateway (image old) ++ deltas)) (sym (now_is e))
      (subst (λ (xs : List (List Op)). Leaves gateway done (xs ++ deltas)) before leaves)
