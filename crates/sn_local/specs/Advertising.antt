-- When the gateway advertised itself last (MQTT-SN 1.2 section 6.1).
use Rattle.std.specs.Prelude.{ℕ, List, fold, Option, Some}
use Rattle.sn_local.specs.declared.local.LocalChange.{LocalChange}
use Rattle.sn_local.specs.declared.local.LocalChange.TheVariants.{Advertised}

-- the moment of the last ADVERTISE after this change; only sending one sets it
abbrev pub advertised_change : Option ℕ → LocalChange → Option ℕ
advertised_change before (Advertised now) = Some now
advertised_change before change = before

-- the moment of the last ADVERTISE after these changes
abbrev pub advertised_after : Option ℕ → List LocalChange → Option ℕ
advertised_after before changes = fold advertised_change before changes
