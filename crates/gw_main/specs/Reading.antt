-- What a document says of each key, and which key is the first that it says nothing good of.
use Rattle.std.specs.Prelude.{◌≡◌, ℕ, ℤ, pos, negsuc, ◌&&◌, nat_le, List, [], ◌∷◌, Option, Some, None, option_and_then, option_map, if◌then◌else◌, codes, string_bytes}
use Rattle.sn_local.specs.declared.config.Addr.{Addr}
use Rattle.sn_topic.specs.Topics.{name_asked}
use Rattle.sn_topic.specs.Table.{Entries, is_table}
use Rattle.toml.specs.Data.{Data, Items, no_items, item, Members, get_member, as_str, as_integer, as_array, as_table}
use Rattle.toml.specs.Parse.{parse_document}
use Rattle.gw_shift.specs.declared.shift.TheConstants.{MAX_STEPS}
use Rattle.gw_main.specs.declared.fault.Key.{Key}
use Rattle.gw_main.specs.declared.fault.Key.TheVariants as keys
use Rattle.gw_main.specs.declared.fault.SettingsFault.{SettingsFault}
use Rattle.gw_main.specs.declared.fault.SettingsFault.TheVariants as faults
use Rattle.gw_main.specs.declared.options.Settings.{Settings}
use Rattle.gw_main.specs.Addresses.{read_address}
use Rattle.gw_main.specs.Keys.{key_text}
use Rattle.gw_main.specs.Patterns.{is_pattern}
use Rattle.gw_main.specs.Levels.{read_level}

-- ---- values

-- a whole number from one to another
abbrev pub within : ℕ → ℕ → ℤ → Option ℕ
within low high (pos n) = if nat_le low n && nat_le n high then Some n else None
within low high (negsuc n) = None

-- the number that is found, if it is in the range; another if nothing is found
abbrev pub number_in : ℕ → ℕ → Option ℕ → Option Data → Option ℕ
number_in low high missing None = missing
number_in low high missing (Some found) = option_and_then (within low high) (as_integer found)

-- the address that is found as a text `a.b.c.d:port`; none if nothing is found or it is no address
abbrev pub address_in : Option Data → Option Addr
address_in found = option_and_then read_address (option_and_then as_str found)

-- the octets of the text that is found; none if nothing is found or it is no text
abbrev pub text_in : Option Data → Option (List ℕ)
text_in found = option_and_then as_str found

-- what each item is read as
abbrev pub each : {A : Type 0} → (Data → Option A) → Items → Option (List A)
each read no_items = Some []
each read (item first rest) =
    option_and_then (λ one. option_map (λ more. one ∷ more) (each read rest)) (read first)

-- what the items of a list that is found are read as; an empty list if nothing is found
abbrev pub list_in : {A : Type 0} → (Data → Option A) → Option Data → Option (List A)
list_in read None = Some []
list_in read (Some found) = option_and_then (each read) (as_array found)

-- an item that is the text of an address
abbrev pub address_item : Data → Option Addr
address_item found = option_and_then read_address (as_str found)

-- a topic's name: 1 to 256 octets without a wildcard
abbrev pub name_in : Option Data → Option (List ℕ)
name_in found = option_and_then name_asked (option_and_then as_str found)

-- an id and the name that it stands for
abbrev pub entry_from : Members → Option (ℕ × List ℕ)
entry_from members =
    option_and_then (λ id. option_map (λ name. (id, name))
    (name_in (get_member (codes "topic") members)))
    (number_in 0 65535 None (get_member (codes "id") members))

-- an item that is a table of an id and a topic's name
abbrev pub entry_item : Data → Option (ℕ × List ℕ)
entry_item found = option_and_then entry_from (as_table found)

-- an item that is a gateway's number
abbrev pub number_item : Data → Option ℕ
number_item found = number_in 1 255 None (Some found)

-- a text that is a pattern of client ids
abbrev pub pattern_from : List ℕ → Option (List ℕ)
pattern_from text = if is_pattern text then Some text else None

-- an item that is such a text
abbrev pub pattern_item : Data → Option (List ℕ)
pattern_item found = option_and_then pattern_from (as_str found)

-- what is found, if anything is, as it is read
abbrev pub optional : {A : Type 0} → (Data → Option A) → Option Data → Option (Option A)
optional read None = Some None
optional read (Some found) = option_map (λ value. Some value) (read found)

-- an item that is the word of a level, as its number
abbrev pub level_item : Data → Option ℕ
level_item found = option_and_then read_level (as_str found)

-- the number of the level that is found; 0 if nothing is found
abbrev pub level_in : Option Data → Option ℕ
level_in None = Some 0
level_in (Some found) = level_item found

-- entries none of whose ids is reserved or occurs twice
abbrev pub table_from : Entries → Option Entries
table_from entries = if is_table entries then Some entries else None

-- ---- keys

-- what the document has under a key
abbrev pub value_at : Key → Members → Option Data
value_at key members = get_member (key_text key) members

-- the gateway's number: 1 to 255, with no default
abbrev pub gateway_in : Members → Option ℕ
gateway_in members = number_in 1 255 None (value_at keys.Gateway members)

-- the address of the UDP socket, with no default
abbrev pub listen_in : Members → Option Addr
listen_in members = address_in (value_at keys.Listen members)

-- the address at which links are accepted, with no default
abbrev pub link_in : Members → Option Addr
link_in members = address_in (value_at keys.Link members)

-- the path of the journal, with no default
abbrev pub journal_in : Members → Option (List ℕ)
journal_in members = text_in (value_at keys.Journal members)

-- how many threads make calls for datagrams: 1 to 8; 2 if it is not said
abbrev pub workers_in : Members → Option ℕ
workers_in members = number_in 1 8 (Some 2) (value_at keys.Workers members)

-- how many calls a shift has: 1 to 4,096; 4,096 if it is not said
abbrev pub shift_steps_in : Members → Option ℕ
shift_steps_in members = number_in 1 MAX_STEPS (Some MAX_STEPS) (value_at keys.Steps members)

-- the seconds between two ADVERTISE; 0, for no ADVERTISE, if it is not said
abbrev pub advertise_in : Members → Option ℕ
advertise_in members = number_in 0 65535 (Some 0) (value_at keys.Advertise members)

-- for how many seconds a message waits at most, up to a year; 0, for no such time, if it is not
-- said
abbrev pub lifetime_in : Members → Option ℕ
lifetime_in members = number_in 0 31536000 (Some 0) (value_at keys.Lifetime members)

-- the addresses to which ADVERTISE goes; none if it is not said
abbrev pub field_in : Members → Option (List Addr)
field_in members = list_in address_item (value_at keys.Field members)

-- the addresses of the gateways to be dialled; none if it is not said
abbrev pub peers_in : Members → Option (List Addr)
peers_in members = list_in address_item (value_at keys.Peers members)

-- the predefined topic ids with their names; none if it is not said
abbrev pub predefined_in : Members → Option Entries
predefined_in members =
    option_and_then table_from (list_in entry_item (value_at keys.Predefined members))

-- the gateways that may be linked; none if it is not said
abbrev pub numbers_in : Members → Option (List ℕ)
numbers_in members = list_in number_item (value_at keys.Numbers members)

-- the patterns of client ids that are let in; none if it is not said
abbrev pub clients_in : Members → Option (List (List ℕ))
clients_in members = list_in pattern_item (value_at keys.Clients members)

-- how many new client ids come in within a minute; 0, for any number, if it is not said
abbrev pub newcomers_in : Members → Option ℕ
newcomers_in members = number_in 0 65535 (Some 0) (value_at keys.Newcomers members)

-- the address at which the gateway shows itself, if it is said
abbrev pub status_in : Members → Option (Option Addr)
status_in members = optional address_item (value_at keys.Status members)

-- the greatest number of a level whose events are written; 0, for none, if it is not said
abbrev pub log_in : Members → Option ℕ
log_in members = level_in (value_at keys.Log members)

-- ---- the whole

-- the settings hold what the document says of each key, or the key's default
pub record SaysSettings (members : Members) (settings : Settings) : Type 0 where
  pub gateway : gateway_in members ≡ Some settings.gateway
  pub listen : listen_in members ≡ Some settings.listen
  pub link : link_in members ≡ Some settings.link
  pub journal : journal_in members ≡ Some (string_bytes settings.journal)
  pub workers : workers_in members ≡ Some settings.workers
  pub steps : shift_steps_in members ≡ Some settings.steps
  pub advertise : advertise_in members ≡ Some settings.advertise
  pub lifetime : lifetime_in members ≡ Some settings.lifetime
  pub field : field_in members ≡ Some settings.field.items
  pub peers : peers_in members ≡ Some settings.peers.items
  pub predefined : predefined_in members ≡ Some settings.predefined
  pub numbers : numbers_in members ≡ Some settings.numbers.items
  pub clients : clients_in members ≡ Some settings.clients.items
  pub newcomers : newcomers_in members ≡ Some settings.newcomers
  pub status : status_in members ≡ Some settings.status
  pub log : log_in members ≡ Some settings.log

-- the key, if nothing was read, else what is found after it
abbrev pub or_else : {A : Type 0} → Option A → Key → Option Key → Option Key
or_else None key behind = Some key
or_else (Some value) key behind = behind

-- the first key that is missing without a default, out of range or of another kind, in the order of
-- the keys
abbrev pub first_bad : Members → Option Key
first_bad members =
    or_else (gateway_in members) keys.Gateway
    (or_else (listen_in members) keys.Listen
    (or_else (link_in members) keys.Link
    (or_else (journal_in members) keys.Journal
    (or_else (workers_in members) keys.Workers
    (or_else (shift_steps_in members) keys.Steps
    (or_else (advertise_in members) keys.Advertise
    (or_else (lifetime_in members) keys.Lifetime
    (or_else (field_in members) keys.Field
    (or_else (peers_in members) keys.Peers
    (or_else (predefined_in members) keys.Predefined
    (or_else (numbers_in members) keys.Numbers
    (or_else (clients_in members) keys.Clients
    (or_else (newcomers_in members) keys.Newcomers
    (or_else (status_in members) keys.Status
    (or_else (log_in members) keys.Log None)))))))))))))))

-- the text is a document that says these settings
abbrev pub IsSettingsText : List ℕ → Settings → Type 0
IsSettingsText text settings =
    (members : Members) × (parse_document text ≡ Some members) × SaysSettings members settings

-- why a text is refused: it is no document, or this key is the first bad one, or memory ran out
abbrev pub IsTextFault : List ℕ → SettingsFault → Type 0
IsTextFault text faults.Text = parse_document text ≡ None
IsTextFault text (faults.Key key) =
    (members : Members) × (parse_document text ≡ Some members) × (first_bad members ≡ Some key)
IsTextFault text faults.Memory = Unit {0}
