-- Names of clients (MQTT-SN 1.2 section 5.3.1).
use Rattle.std.specs.Prelude.{ℕ, ◌≤◌, List, length}
use Rattle.octets.specs.declared.client_id.TheConstants.{MAX_CLIENT_ID}

-- a client's name has 1 to 23 octets (5.3.1)
abbrev pub IsClientId : List ℕ → Type 0
IsClientId octets = (1 ≤ length octets) × (length octets ≤ MAX_CLIENT_ID)
