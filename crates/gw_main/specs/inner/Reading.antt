-- What a document says of each key, and which key is the first that it says nothing good of.
use Rattle.std.specs.Prelude.{◌≡◌, Option, Some, None, string_bytes}
use Rattle.toml.specs.Data.{Members}
use Rattle.gw_main.specs.declared.fault.Key.{Key}
use Rattle.gw_main.specs.declared.fault.SettingsFault.{SettingsFault}
use Rattle.gw_main.specs.declared.fault.SettingsFault.TheVariants as faults
use Rattle.gw_main.specs.declared.parsing.Plain.{Plain}
use Rattle.gw_main.specs.declared.parsing.Lists.{Lists}
use Rattle.gw_main.specs.declared.parsing.Shown.{Shown}
use Rattle.gw_main.specs.Reading.{first_bad, gateway_in, listen_in, link_in, journal_in, workers_in, shift_steps_in, advertise_in, lifetime_in, field_in, peers_in, predefined_in, numbers_in, clients_in, newcomers_in, status_in, log_in}

-- why members are refused whose first bad key is this
abbrev pub IsBadOf : Option Key → SettingsFault → Type 0
IsBadOf first faults.Text = ⊥
IsBadOf first (faults.Key key) = first ≡ Some key
IsBadOf first faults.Memory = Unit {0}

-- why these members are refused: their first bad key, unless memory ran out
abbrev pub IsBad : Members → SettingsFault → Type 0
IsBad members fault = IsBadOf (first_bad members) fault

-- why members are refused for this key
abbrev pub IsBadAt : {A : Type 0} → Option A → Key → SettingsFault → Type 0
IsBadAt read key faults.Text = ⊥
IsBadAt read key (faults.Key told) = (read ≡ None) × (told ≡ key)
IsBadAt read key faults.Memory = Unit {0}

-- what the keys before the lists say, or their defaults
pub record SaysPlain (members : Members) (plain : Plain) : Type 0 where
  pub gateway : gateway_in members ≡ Some plain.gateway
  pub listen : listen_in members ≡ Some plain.listen
  pub link : link_in members ≡ Some plain.link
  pub journal : journal_in members ≡ Some (string_bytes plain.journal)
  pub workers : workers_in members ≡ Some plain.workers
  pub steps : shift_steps_in members ≡ Some plain.steps
  pub advertise : advertise_in members ≡ Some plain.advertise
  pub lifetime : lifetime_in members ≡ Some plain.lifetime

-- what the lists and the key after them say, or their defaults
pub record SaysLists (members : Members) (lists : Lists) : Type 0 where
  pub field : field_in members ≡ Some lists.field.items
  pub peers : peers_in members ≡ Some lists.peers.items
  pub predefined : predefined_in members ≡ Some lists.predefined
  pub numbers : numbers_in members ≡ Some lists.numbers.items
  pub clients : clients_in members ≡ Some lists.clients.items
  pub newcomers : newcomers_in members ≡ Some lists.newcomers

-- why members are refused whose keys before the lists are good
abbrev pub IsBadAfter : Members → SettingsFault → Type 0
IsBadAfter members fault = (plain : Plain) → SaysPlain members plain → IsBad members fault

-- what the keys say by which a gateway is seen, or their defaults
pub record SaysShown (members : Members) (shown : Shown) : Type 0 where
  pub status : status_in members ≡ Some shown.status
  pub log : log_in members ≡ Some shown.log

-- why members are refused whose other keys are good
abbrev pub IsBadLast : Members → SettingsFault → Type 0
IsBadLast members fault =
    (plain : Plain) → SaysPlain members plain → (lists : Lists) → SaysLists members lists
    → IsBad members fault
