-- What goes out over a link.
use Rattle.std.specs.Prelude.{◌≡◌, ℕ, ◌+◌, ◌<◌, List, length, take, Option}
use Rattle.std.specs.Io.KnownBytes.{Appends}
use Rattle.gw_net.specs.declared.fault.LinkOutFault.{LinkOutFault}
use Rattle.gw_net.specs.declared.fault.LinkOutFault.TheVariants.{Write, Memory}

-- after so many octets that went out before it, exactly the first of a message went out, and not
-- all
abbrev pub IsCutBehind : ℕ → Option (List ℕ) → Option (List ℕ) → List ℕ → LinkOutFault → Type 0
IsCutBehind before old new text (Write written) =
    (n : ℕ) × (written ≡ before + n) × (n < length text) × Appends old new (take n text)
IsCutBehind before old new text Memory = ⊥
