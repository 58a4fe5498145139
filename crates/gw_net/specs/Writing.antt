-- What goes out over a link.
use Rattle.std.specs.Prelude.{ℕ, ◌<◌, List, length, take, Option}
use Rattle.std.specs.Io.KnownBytes.{Appends, Keeps}
use Rattle.gw_net.specs.declared.fault.LinkOutFault.{LinkOutFault}
use Rattle.gw_net.specs.declared.fault.LinkOutFault.TheVariants.{Write, Memory}

-- exactly the first octets of a message went out, and not all; or memory ran out, and nothing did
abbrev pub IsCutShort : Option (List ℕ) → Option (List ℕ) → List ℕ → LinkOutFault → Type 0
IsCutShort old new text (Write written) =
    (written < length text) × Appends old new (take written text)
IsCutShort old new text Memory = Keeps old new
