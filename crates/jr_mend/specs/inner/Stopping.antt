-- With which status the program ends.
use Rattle.std.specs.Prelude.{ℕ}
use Rattle.jr_mend.specs.declared.stop.Stop.{Stop}
use Rattle.jr_mend.specs.declared.stop.Stop.TheVariants as stops

-- the status of the program
abbrev pub mend_status : Stop → ℕ
mend_status (stops.Journal number) = 2
mend_status stop = 1
