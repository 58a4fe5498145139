-- the table of predefined ids
use Rattle.std.specs.Prelude.{ℕ, Bool, true, ◌==◌, ◌&&◌, not, nat_le, List, [], ◌∷◌, map, filter, find, fold, Option, min, None, Some}
use Rattle.std.specs.List.{list_any}
use Rattle.std.specs.Option.{option_map}
use Rattle.std.specs.Str.{bytes_eq}
use Rattle.sn_topic.specs.declared.predefined.TheConstants.{MAX_TOPIC_ID}

-- the entries of a table: ids with the octets of their names
abbrev pub Entries : Type 0
Entries = List (ℕ × List ℕ)

-- an id that is not reserved: 0 and 65,535 are (5.3.11)
abbrev pub is_topic_id : ℕ → Bool
is_topic_id id = nat_le 1 id && nat_le id MAX_TOPIC_ID

-- whether an id is in the table
abbrev pub has_id : ℕ → Entries → Bool
has_id id entries = list_any (λ entry. entry.0 == id) entries

-- no id is reserved, 0 or 65,535, and none occurs twice (5.3.11, 6.7)
abbrev pub is_table : Entries → Bool
is_table [] = true
is_table (entry ∷ later) = is_topic_id entry.0 && not (has_id entry.0 later) && is_table later

-- the name that an id stands for
abbrev pub name_of_id : ℕ → Entries → Option (List ℕ)
name_of_id id entries = option_map (λ entry. entry.1) (find (λ entry. entry.0 == id) entries)

-- the ids that stand for a name
abbrev pub ids_of : List ℕ → Entries → List ℕ
ids_of name entries = map (λ entry. entry.0) (filter (λ entry. bytes_eq entry.1 name) entries)

-- the lesser of the number that is known so far and another
abbrev pub lesser : Option ℕ → ℕ → Option ℕ
lesser None n = Some n
lesser (Some known) n = Some (min known n)

-- the least of some numbers
abbrev pub least : List ℕ → Option ℕ
least numbers = fold lesser None numbers
