-- What is cut of a journal, and what is left of it.
use Rattle.std.specs.Prelude.{ℕ, ◌==◌, Bool, List, take}
use Rattle.std.specs.List.{list_all}
use Rattle.jr_disk.specs.declared.disk.Slot.TheVariants.{First, Second}
use Rattle.jr_disk.specs.declared.disk.Slot.{Slot}
use Rattle.jr_disk.specs.Disk.{Image}
use Rattle.jr_read.specs.Places.{slots_of}
use Rattle.jr_mend.specs.declared.mending.Cut.{Cut}

-- whether all octets are 0
abbrev pub are_zeros : List ℕ → Bool
are_zeros octets = list_all (λ octet. octet == 0) octets

-- two slots of which one has only its first octets, so many
abbrev pub slots_shortened : List ℕ → List ℕ → Slot → ℕ → Image
slots_shortened first second First at = slots_of (take at first) second
slots_shortened first second Second at = slots_of first (take at second)

-- what is left without what is cut
abbrev pub without : List ℕ → List ℕ → Cut → Image
without first second cut = slots_shortened first second cut.slot cut.at
