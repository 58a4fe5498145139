-- What a failure that is arranged makes of an append and of an opening; only fields whose disks are
-- to fail need it.
use Rattle.std.specs.Prelude.{Option, Some, None, ◌≡◌, ℕ, Bool, true, false, not, min, List, length, take, Result, Ok, Err, IsSome, IsErrOf}
use Rattle.jr_disk.specs.declared.disk.Slot.{Slot}
use Rattle.jr_disk.specs.declared.disk.Failure.{Failure}
use Rattle.jr_disk.specs.declared.disk.Failure.TheVariants.{Stop, KeepBack, FailSync}
use Rattle.jr_journal.specs.declared.fault.JournalFault.{JournalFault}
use Rattle.jr_journal.specs.declared.fault.JournalFault.TheVariants.{Disk}
use Rattle.jr_disk.specs.Disk.{Slots, at, replaced, appended, all_synced}

-- ---- an append

-- the slots after an append and its sync, by the failure that was arranged
abbrev pub after_append : Option Failure → Slots → Slot → List ℕ → Slots
after_append None d slot bytes = replaced d slot (all_synced (appended (at d slot) bytes))
after_append (Some (Stop k)) d slot bytes =
    replaced d slot (appended (at d slot) (take (min k (length bytes)) bytes))
after_append (Some KeepBack) d slot bytes = replaced d slot (appended (at d slot) bytes)
after_append (Some FailSync) d slot bytes = replaced d slot (appended (at d slot) bytes)

-- if the premise holds, the slots are as some failure of the append leaves them
abbrev pub IsStruck : Type 0 → Slots → Slot → List ℕ → Slots → Type 0
IsStruck Honest old slot bytes new =
    (failure : Failure) × (Honest → new ≡ after_append (Some failure) old slot bytes)

-- If it is known what is arranged: it succeeds only if no failure is, and fails as Disk only if one
-- is. The slots are as that leaves them. Of other faults nothing is said.
abbrev pub AppendedAs : Option (Option Failure) → Slots → Slot → List ℕ
    → Result (Unit {0}) JournalFault → Slots → Option (Option Failure) → Type 0
AppendedAs (Some plan) old slot bytes (Ok done) new after =
    (plan ≡ None) × (new ≡ after_append plan old slot bytes) × (after ≡ Some None)
AppendedAs (Some plan) old slot bytes (Err Disk) new after =
    IsSome plan × (new ≡ after_append plan old slot bytes) × (after ≡ Some None)
AppendedAs known old slot bytes result new after = Unit {0}

-- ---- an opening

-- an opening does not meet the failure that is arranged: it appends only if the journal is new
abbrev pub misses_failure : Option (Option Failure) → Bool → Bool
misses_failure None fresh = false
misses_failure (Some None) fresh = true
misses_failure (Some (Some (Stop k))) fresh = not fresh
misses_failure (Some (Some KeepBack)) fresh = not fresh
misses_failure (Some (Some FailSync)) fresh = false

-- the disk is not to blame, and the same failure is arranged as before
abbrev pub IsUnhurt : {T : Type 0} → Result T JournalFault → Option (Option Failure)
    → Option (Option Failure) → Type 0
IsUnhurt result old new = (IsErrOf result Disk → ⊥) × (new ≡ old)
