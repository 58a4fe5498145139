-- What contracts see of a disk in memory.
use Rattle.std.specs.Prelude.{Option, Some, None, ℕ, Bool, false, if◌then◌else◌, []}
use Rattle.jr_disk.specs.declared.disk.Failure.{Failure}
use Rattle.jr_disk.specs.declared.disk.Failure.TheVariants.{Stop, KeepBack}
use Rattle.jr_disk.specs.Disk.{Slots, SlotBytes, crashed}

-- the slots of a disk in memory, the failure that is arranged, and how often calls failed
pub record MemoryState : Type 0 where
  pub slots : Slots
  -- the failure that is arranged
  pub plan : Option Failure
  -- memory was refused in it
  pub starved : Bool
  -- how many calls have failed
  pub failures : ℕ

-- a slot with nothing in it
abbrev pub no_bytes : SlotBytes
no_bytes = record { synced = []; unsynced = [] }

-- a disk on which nothing was written and no call has failed
abbrev pub empty_disk : MemoryState
empty_disk =
    record {
      slots = record { first = no_bytes; second = no_bytes };
      plan = None;
      starved = false;
      failures = 0;
    }

-- both slots after a crash that leaves so many unsynced bytes of each
abbrev pub crashed_disk : ℕ → MemoryState → MemoryState
crashed_disk kept d =
    record d {
      slots = record {
        first = crashed kept d.slots.first;
        second = crashed kept d.slots.second;
      };
    }

-- a failure is arranged: the next append stops after so many bytes, or its sync fails
abbrev pub failing : ℕ → Bool → MemoryState → MemoryState
failing bytes sync d = record d { plan = Some (if sync then KeepBack else Stop bytes) }
