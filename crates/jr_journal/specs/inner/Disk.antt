-- What of a disk is synced, and whether a failure that is arranged waits for an append.
use Rattle.std.specs.Prelude.{Option, Some, None, Bool, true, false}
use Rattle.jr_disk.specs.declared.disk.Failure.{Failure}
use Rattle.jr_disk.specs.declared.disk.Failure.TheVariants.{FailSync}
use Rattle.jr_disk.specs.Disk.{Slots, Image}

-- what of the slots is synced
abbrev pub synced_part : Slots → Image
synced_part d = record { first = d.first.synced; second = d.second.synced }

-- neither a sync nor any call but an append meets the failure that is arranged
abbrev pub is_calm : Option (Option Failure) → Bool
is_calm None = false
is_calm (Some (Some FailSync)) = false
is_calm known = true
