-- What is known of a file that holds a slot, and what became of it when it was cut.
use Rattle.std.specs.Prelude.{◌≡◌, ℕ}
use Rattle.jr_disk.specs.Memory.{no_bytes}
use Rattle.file_disk.specs.declared.cutting.Trust.{Trust}
use Rattle.file_disk.specs.declared.cutting.Trust.TheVariants.{Sound, Fresh, Doubtful}
use Rattle.file_disk.specs.declared.cutting.Shortened.{Shortened}
use Rattle.file_disk.specs.declared.cutting.Shortened.TheVariants.{Kept, Loose, Done}
use Rattle.file_disk.specs.Files.{FileState, IsCertain, shortened, file_settled, suspected}

-- what is known of a file is so
abbrev pub IsTrusted : Trust → FileState → Type 0
IsTrusted Sound s = IsCertain s
IsTrusted Fresh s = (s.octets ≡ no_bytes) × IsCertain s
IsTrusted Doubtful s = Unit {0}

-- the file before and after it was to be cut to `len` octets, by what became of that
abbrev pub IsShortened : FileState → ℕ → Shortened → FileState → Type 0
IsShortened old len Kept new = new ≡ old
IsShortened old len Loose new = new ≡ suspected (shortened old len)
IsShortened old len Done new = new ≡ file_settled (shortened old len)
