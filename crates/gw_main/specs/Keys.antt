-- The keys of the settings.
use Rattle.std.specs.Prelude.{ℕ, List, codes}
use Rattle.gw_main.specs.declared.fault.Key.{Key}
use Rattle.gw_main.specs.declared.fault.Key.TheVariants as keys

-- how a key is written
abbrev pub key_text : Key → List ℕ
key_text keys.Gateway = codes "gateway"
key_text keys.Listen = codes "listen"
key_text keys.Link = codes "link"
key_text keys.Journal = codes "journal"
key_text keys.Workers = codes "workers"
key_text keys.Steps = codes "steps"
key_text keys.Advertise = codes "advertise"
key_text keys.Lifetime = codes "lifetime"
key_text keys.Field = codes "field"
key_text keys.Peers = codes "peers"
key_text keys.Predefined = codes "predefined"
key_text keys.Numbers = codes "numbers"
key_text keys.Clients = codes "clients"
key_text keys.Newcomers = codes "newcomers"
key_text keys.Status = codes "status"
key_text keys.Log = codes "log"
