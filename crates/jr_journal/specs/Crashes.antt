-- What a crash leaves of a journal, and what the next opening makes of that.
use Rattle.std.specs.Prelude.{None, ◌≡◌, ◌⊎◌, ℕ, ◌+◌, Bool, true, false, if◌then◌else◌, nat_lt, List, [], ◌∷◌, ◌++◌, take}
use Rattle.rep_op.specs.declared.op.Op.{Op}
use Rattle.jr_journal.specs.declared.content.SlotContent.{SlotContent}
use Rattle.jr_journal.specs.declared.content.SlotContent.TheVariants.{Sealed}
use Rattle.jr_disk.specs.Disk.{SlotBytes, Slots, Image, after_crash, EachCrash}
use Rattle.jr_journal.specs.Records.{new_journal, slot_content, records}
use Rattle.jr_journal.specs.Faults.{is_fresh, fault_of}

-- ---- what a crash leaves

-- an opening finds these records and no fault, and begins no journal
abbrev pub Opens : ℕ → List (List Op) → Image → Type 0
Opens gateway deltas i =
    (records gateway i ≡ deltas) × (fault_of gateway i ≡ None) × (is_fresh i ≡ false)

-- a crash now leaves a journal of these records and no others
abbrev pub Leaves : ℕ → Slots → List (List Op) → Type 0
Leaves gateway d deltas = EachCrash (λ i. Opens gateway deltas i) d

-- a crash now leaves a journal of these records, or of these and one more
abbrev pub LeavesOneMore : ℕ → Slots → List (List Op) → List Op → Type 0
LeavesOneMore gateway d deltas delta =
    EachCrash (λ i. Opens gateway deltas i ⊎ Opens gateway (deltas ++ delta ∷ []) i) d

-- a crash now leaves a journal of these records and of some first ones of others, each whole
abbrev pub LeavesSome : ℕ → Slots → List (List Op) → List (List Op) → Type 0
LeavesSome gateway d deltas more =
    EachCrash (λ i. (n : ℕ) × Opens gateway (deltas ++ take n more) i) d

-- a crash now leaves a journal of these records, or of the base instead
abbrev pub LeavesEither : ℕ → Slots → List (List Op) → List (List Op) → Type 0
LeavesEither gateway d deltas base =
    EachCrash (λ i. Opens gateway deltas i ⊎ Opens gateway base i) d

-- An opening finds the same in both: the same records and the same fault, if any. If it begins no
-- journal in the second, it begins none in the first.
abbrev pub OpensAlike : ℕ → Image → Image → Type 0
OpensAlike gateway i j =
    (records gateway i ≡ records gateway j) × (fault_of gateway i ≡ fault_of gateway j)
    × (is_fresh j ≡ false → is_fresh i ≡ false)

-- whatever a crash leaves now, a crash before would have left what opens alike
abbrev pub LeavesNoMore : ℕ → Slots → Slots → Type 0
LeavesNoMore gateway old new =
    (k l : ℕ) → (m : ℕ) × ((n : ℕ) × OpensAlike gateway (after_crash k l new) (after_crash m n old))

-- ---- the slots after an opening

-- a slot with these bytes, all of them synced
abbrev pub synced_bytes : List ℕ → SlotBytes
synced_bytes bytes = record { synced = bytes; unsynced = [] }

-- whether the first slot is the one that is read
abbrev pub reads_first : SlotContent → SlotContent → Bool
reads_first (Sealed m f) (Sealed n g) = nat_lt n m
reads_first (Sealed m f) other = true
reads_first content other = false

-- the bytes of a slot without what comes after its whole pieces
abbrev pub cut_end : SlotContent → List ℕ → List ℕ
cut_end (Sealed m f) bytes = take (13 + f.whole) bytes
cut_end content bytes = bytes

-- The slots of an opened journal, all synced. If there was no journal, it begins in the first slot.
-- Else the torn end of the slot that is read is cut away.
abbrev pub recovered : ℕ → Image → Slots
recovered gateway i =
    if is_fresh i then record {
      first = synced_bytes (new_journal gateway);
      second = synced_bytes i.second;
    } else (
    if reads_first (slot_content gateway i.first) (slot_content gateway i.second)
    then record {
      first = synced_bytes (cut_end (slot_content gateway i.first) i.first);
      second = synced_bytes i.second;
    }
    else record {
      first = synced_bytes i.first;
      second = synced_bytes (cut_end (slot_content gateway i.second) i.second);
    })
