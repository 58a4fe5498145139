-- The digest of a set: what a gateway has taken, in few words.
use Rattle.std.specs.Prelude.{ℕ, zero, suc, ◌+◌, ◌==◌, Bool, ◌||◌, nat_lt, if◌then◌else◌, List, [], ◌∷◌, length, map, filter, Option, Some, None, option_map}
use Rattle.std.specs.List.{filter_map}
use Rattle.rep_op.specs.declared.op.Put.{Put}
use Rattle.rep_op.specs.declared.op.Op.{Op}
use Rattle.rep_model.specs.Views.{visible, history, pending, clients}
use Rattle.rep_model.specs.Limits.{joined, acknowledged}
use Rattle.rep_model.specs.Topics.{latest, topics}
use Rattle.rep_digest.specs.declared.entry.OriginEntry.{OriginEntry}
use Rattle.rep_digest.specs.declared.entry.ClientEntry.{ClientEntry}
use Rattle.rep_digest.specs.declared.entry.RetainedEntry.{RetainedEntry}

-- the sequence number of a message of the origin, as a range of one
abbrev pub number_as_range : ℕ → Put → Option (ℕ × ℕ)
number_as_range origin put = if origin == put.origin then Some (put.seq, put.seq) else None

-- the sequence numbers of an origin's messages that wait for the client, as ranges in ascending
-- order that do not touch
abbrev pub waiting : List ℕ → ℕ → List Op → List (ℕ × ℕ)
waiting c origin S = joined (filter_map (number_as_range origin) (pending c S))

-- what the set says of an origin's messages for the client
abbrev pub origin_entry : List ℕ → List Op → ℕ → OriginEntry
origin_entry c S origin =
    record { origin = origin; acknowledged = acknowledged c origin S; waiting = waiting c origin S }

-- whether anything is said of the origin
abbrev pub has_ranges : OriginEntry → Bool
has_ranges entry = nat_lt 0 (length entry.acknowledged) || nat_lt 0 (length entry.waiting)

-- n numbers from start on
unfoldable pub numbers_from : ℕ → ℕ → List ℕ
numbers_from start zero = []
numbers_from start (suc n) = start ∷ numbers_from (start + 1) n

-- the origins 1 to 255 from which messages for the client wait or are acknowledged
unfoldable pub origin_entries : List ℕ → List Op → List OriginEntry
origin_entries c S = filter has_ranges (map (origin_entry c S) (numbers_from 1 255))

-- what the set says of a client: the visible stamp, the length of its prefix, and each origin whose
-- messages wait or are acknowledged
abbrev pub client_entry : List Op → List ℕ → ClientEntry
client_entry S c =
    record {
      client = c;
      stamp = visible c S;
      prefix = length (history c S);
      origins = origin_entries c S;
    }

-- an entry for each client of the set, in ascending order
abbrev pub client_entries : List Op → List ClientEntry
client_entries S = map (client_entry S) (clients S)

-- an entry of a topic, of its name and the name of what was retained of it last
abbrev pub entry_of_topic : List ℕ → ℕ × ℕ → RetainedEntry
entry_of_topic t name = record { topic = t; clock = name.0; gateway = name.1 }

-- what the set says of a topic: what was retained of it last
abbrev pub topic_entry : List Op → List ℕ → Option RetainedEntry
topic_entry S t = option_map (entry_of_topic t) (latest t S)

-- an entry for each topic of which something was ever retained, in ascending order
abbrev pub topic_entries : List Op → List RetainedEntry
topic_entries S = filter_map (topic_entry S) (topics S)

-- what contracts see of a digest: the entries of clients, and those of topics
pub record Digested : Type 0 where
  pub clients : List ClientEntry
  pub topics : List RetainedEntry

-- these entries, of clients and of topics
abbrev pub digested : List ClientEntry → List RetainedEntry → Digested
digested clients topics = record { clients = clients; topics = topics }

-- the digest of the set
abbrev pub digest : List Op → Digested
digest S = digested (client_entries S) (topic_entries S)
