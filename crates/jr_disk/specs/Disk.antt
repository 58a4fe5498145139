-- A disk of two slots: what is in them, what a crash leaves, and when a call may fail.
use Rattle.std.specs.Prelude.{Option, Some, None, ◌≡◌, ℕ, ◌+◌, ◌-◌, ◌≤◌, min, List, [], ◌++◌, length, take, Result, IsOk, IsErr, IsErrAnd, MatchResult}
use Rattle.jr_disk.specs.declared.disk.Slot.{Slot}
use Rattle.jr_disk.specs.declared.disk.Slot.TheVariants.{First, Second}
use Rattle.jr_disk.specs.declared.disk.DiskFault.{DiskFault}
use Rattle.jr_disk.specs.declared.disk.Short.{Short}
use Rattle.jr_disk.specs.declared.disk.Failure.{Failure}
use Rattle.jr_disk.specs.declared.disk.Failure.TheVariants.{Stop, KeepBack, FailSync}

-- the bytes of a slot: those that are synced, and those that were appended since
pub record SlotBytes : Type 0 where
  pub synced : List ℕ
  pub unsynced : List ℕ

-- the two slots of a disk
pub record Slots : Type 0 where
  pub first : SlotBytes
  pub second : SlotBytes

-- what a read of the slots gives, or what a crash leaves of them
pub record Image : Type 0 where
  pub first : List ℕ
  pub second : List ℕ

-- what a slot holds
abbrev pub at : Slots → Slot → SlotBytes
at d First = d.first
at d Second = d.second

-- the slots once one of them holds this
abbrev pub replaced : Slots → Slot → SlotBytes → Slots
replaced d First s = record { first = s; second = d.second }
replaced d Second s = record { first = d.first; second = s }

-- all that was written, synced or not
abbrev pub bytes_of : SlotBytes → List ℕ
bytes_of s = s.synced ++ s.unsynced

-- what a read of both slots gives now
abbrev pub image : Slots → Image
image d = record { first = bytes_of d.first; second = bytes_of d.second }

-- the slot after an append: the bytes are there, and not synced yet
abbrev pub appended : SlotBytes → List ℕ → SlotBytes
appended s bytes = record { synced = s.synced; unsynced = s.unsynced ++ bytes }

-- the slot after a sync: all its bytes are synced
abbrev pub all_synced : SlotBytes → SlotBytes
all_synced s = record { synced = bytes_of s; unsynced = [] }

-- the slot cut to its first `len` bytes; those that were synced stay so
abbrev pub cut_to : SlotBytes → ℕ → SlotBytes
cut_to s len =
    record { synced = take len s.synced; unsynced = take (len - length s.synced) s.unsynced }

-- ---- crashes

-- what a crash leaves of a slot if this many unsynced bytes survive, or all if there are fewer
abbrev pub left_of : ℕ → SlotBytes → List ℕ
left_of kept s = s.synced ++ take kept s.unsynced

-- the slot after a crash that leaves this many unsynced bytes
abbrev pub crashed : ℕ → SlotBytes → SlotBytes
crashed kept s = record { synced = left_of kept s; unsynced = [] }

-- what a crash leaves: of each slot the synced bytes, and so many of the others, from the first on
abbrev pub after_crash : ℕ → ℕ → Slots → Image
after_crash k l d = record { first = left_of k d.first; second = left_of l d.second }

-- each crash leaves what has P
abbrev pub EachCrash : (Image → Type 0) → Slots → Type 0
EachCrash P d = (k l : ℕ) → P (after_crash k l d)

-- ---- failures

-- a call that succeeds leaves the count of failures as it was, and one that fails raises it by one
abbrev pub HasCause : {T E : Type 0} → ℕ → ℕ → Result T E → Type 0
HasCause old new result = (old ≤ new) × MatchResult result (λ _. new ≡ old) (λ _. new ≡ old + 1)

-- what an append of this many bytes does by the failure that is arranged: nothing is known, none,
-- or this one
abbrev pub AppendsAs : Option (Option Failure) → ℕ → Result (Unit {0}) Short
    → Option (Option Failure)
    → Type 0
AppendsAs None n result after = Unit {0}
AppendsAs (Some None) n result after = IsOk result × (after ≡ Some None)
AppendsAs (Some (Some (Stop k))) n result after =
    IsErrAnd result (λ short. short.written ≡ min k n) × (after ≡ Some None)
AppendsAs (Some (Some KeepBack)) n result after = IsOk result × (after ≡ Some (Some FailSync))
AppendsAs (Some (Some FailSync)) n result after = IsOk result × (after ≡ Some (Some FailSync))

-- What a sync does by the failure that is arranged. If that is not known, nothing is said. It fails
-- by `FailSync`, which is over then; else it succeeds.
abbrev pub SyncsAs : Option (Option Failure) → Result (Unit {0}) DiskFault → Option (Option Failure)
    → Type 0
SyncsAs None result after = Unit {0}
SyncsAs (Some None) result after = IsOk result × (after ≡ Some None)
SyncsAs (Some (Some (Stop k))) result after = IsOk result × (after ≡ Some (Some (Stop k)))
SyncsAs (Some (Some KeepBack)) result after = IsOk result × (after ≡ Some (Some KeepBack))
SyncsAs (Some (Some FailSync)) result after = IsErr result × (after ≡ Some None)

-- any other call: the failure that is arranged is not for it, so it succeeds and leaves that
-- arranged
abbrev pub GoesAs : {T E : Type 0} → Option (Option Failure) → Result T E → Option (Option Failure)
    → Type 0
GoesAs None result after = Unit {0}
GoesAs (Some plan) result after = IsOk result × (after ≡ Some plan)

-- whatever became of the call, what is known to be arranged still is
abbrev pub StaysArranged : Option (Option Failure) → Option (Option Failure) → Type 0
StaysArranged None after = Unit {0}
StaysArranged (Some plan) after = after ≡ Some plan

-- memory was refused in the call: it failed, nothing went out, and what is arranged still is
abbrev pub WantsMemory : {T E : Type 0} → Result T E → Slots → Slots → Option (Option Failure)
    → Option (Option Failure)
    → Type 0
WantsMemory result old new before after = IsErr result × (new ≡ old) × (after ≡ before)
