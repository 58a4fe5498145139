-- A disk in memory on which one call fails.
use Rattle.std.specs.Prelude.{Option, Some, None, ℕ}
use Rattle.jr_disk.specs.declared.disk.Failure.{Failure}
use Rattle.jr_disk.specs.declared.once.OnceCall.{OnceCall}
use Rattle.jr_disk.specs.Memory.{MemoryState}

-- the disk in memory, which kind of call is counted, and which of them fails
pub record OnceState : Type 0 where
  pub disk : MemoryState
  -- calls of this kind are counted
  pub call : OnceCall
  -- after so many more of them one fails; None: none fails from now on
  pub due : Option ℕ

-- nothing is known of what will fail as long as a call is to fail; else the failure that is
-- arranged on the disk
abbrev pub outlook_of : Option ℕ → Option Failure → Option (Option Failure)
outlook_of None plan = Some plan
outlook_of (Some after) plan = None
