-- How the files of a journal are named.
use Rattle.std.specs.Prelude.{ℕ}
use Rattle.jr_disk.specs.declared.disk.Slot.TheVariants.{First, Second}
use Rattle.jr_disk.specs.declared.disk.Slot.{Slot}

-- how the name of a slot's file ends
abbrev pub ending_of : Slot → ℕ
ending_of First = 0
ending_of Second = 1
