-- Reading a digest from left to right, up to the first fault, by the readers of deltas.
use Rattle.std.specs.Prelude.{ℕ, ◌+◌, ◌==◌, Bool, true, ◌&&◌, if◌then◌else◌, nat_le, nat_lt, List, [], ◌∷◌, length, Option, Some, None, Result, Ok, Err}
use Rattle.std.specs.Int.{w16, w32, w64}
use Rattle.std.specs.List.{list_all}
use Rattle.std.specs.Ordering.{is_lt}
use Rattle.rep_op.specs.declared.fault.OpsFault.{OpsFault}
use Rattle.rep_op.specs.declared.fault.OpsFault.TheVariants as faults
use Rattle.rep_op.specs.declared.op.TheConstants.{MAX_OPERATIONS}
use Rattle.rep_op.specs.declared.op.Stamp.{Stamp}
use Rattle.rep_op.specs.Orders.{client_cmp, topic_name_cmp}
use Rattle.rep_read.specs.Reading.{Reader, ◌>>=◌, both, made_from, ranged, octet_at, number_at, is_positive, client_id_at, topic_at, range_at, counted_by}
use Rattle.rep_ops.specs.Reading.{follows_last, values_at, reading_by}
use Rattle.rep_digest.specs.declared.entry.OriginEntry.{OriginEntry}
use Rattle.rep_digest.specs.declared.entry.ClientEntry.{ClientEntry}
use Rattle.rep_digest.specs.declared.entry.RetainedEntry.{RetainedEntry}
use Rattle.rep_digest.specs.Digests.{has_ranges, Digested}

-- ---- the parts of an entry

-- how many ranges, and the ranges
unfoldable pub ranges_at : Reader (List (ℕ × ℕ))
ranges_at = counted_by (number_at w32) range_at

-- the entry of an origin, of its number, what is acknowledged and what waits
abbrev pub origin_of : ℕ × (List (ℕ × ℕ) × List (ℕ × ℕ)) → OriginEntry
origin_of x = record { origin = x.0; acknowledged = x.1.0; waiting = x.1.1 }

-- an origin with ranges
unfoldable pub origin_at : Reader OriginEntry
origin_at =
    ranged has_ranges (made_from origin_of
    (both (ranged is_positive octet_at) (both ranges_at ranges_at)))

-- epoch, gateway and prefix are all 0, or none of them is
abbrev pub is_seen : ℕ × (ℕ × ℕ) → Bool
is_seen x =
    if x.0 == 0 then (x.1.0 == 0) && (x.1.1 == 0)
    else nat_le 1 x.1.0 && nat_le 1 x.1.1 && nat_le x.1.1 MAX_OPERATIONS

-- the visible stamp of an epoch and a gateway; none if the epoch is 0
abbrev pub stamp_from : ℕ × (ℕ × ℕ) → Option Stamp
stamp_from x = if x.0 == 0 then None else Some (record { epoch = x.0; gateway = x.1.0 })

-- what a client's entry says of its session: epoch, gateway, and the length of the prefix
unfoldable pub seen_at : Reader (ℕ × (ℕ × ℕ))
seen_at = ranged is_seen (both (number_at w64) (both octet_at (number_at w16)))

-- a count of two octets, and so many origins
unfoldable pub origins_at : Reader (List OriginEntry)
origins_at = counted_by (number_at w16) origin_at

-- a client's entry, of its name, what it says of the session, and its origins
abbrev pub client_entry_from : List ℕ × ((ℕ × (ℕ × ℕ)) × List OriginEntry) → ClientEntry
client_entry_from x =
    record { client = x.0; stamp = stamp_from x.1.0; prefix = x.1.0.1.1; origins = x.1.1 }

-- a client's entry: its name, epoch, gateway, prefix, and origins
unfoldable pub client_entry_at : Reader ClientEntry
client_entry_at = made_from client_entry_from (both client_id_at (both seen_at origins_at))

-- a topic's entry, of its name, clock and gateway
abbrev pub retained_entry_from : List ℕ × (ℕ × ℕ) → RetainedEntry
retained_entry_from x = record { topic = x.0; clock = x.1.0; gateway = x.1.1 }

-- a topic's entry: its name, a clock and a gateway
unfoldable pub retained_at : Reader RetainedEntry
retained_at =
    made_from retained_entry_from (both topic_at
    (both (ranged is_positive (number_at w64)) (ranged is_positive octet_at)))

-- ---- the order, looked at when an entry is whole

-- each range leaves out a number after the one before it
abbrev pub ranges_apart : List (ℕ × ℕ) → Bool
ranges_apart [] = true
ranges_apart (r ∷ []) = true
ranges_apart (r ∷ s ∷ rest) = nat_lt (r.1 + 1) s.0 && ranges_apart (s ∷ rest)

-- what is acknowledged of an origin, and what waits, are ranges that are apart
abbrev pub are_apart : OriginEntry → Bool
are_apart o = ranges_apart o.acknowledged && ranges_apart o.waiting

-- the test of `OriginsAscend`
abbrev pub origins_ascend : List OriginEntry → Bool
origins_ascend [] = true
origins_ascend (a ∷ []) = true
origins_ascend (a ∷ b ∷ rest) = nat_lt a.origin b.origin && origins_ascend (b ∷ rest)

-- the ranges of each origin are apart, and the origins ascend
abbrev pub is_ordered : ClientEntry → Bool
is_ordered e = list_all are_apart e.origins && origins_ascend e.origins

-- whether the client of the first entry comes before that of the second
abbrev pub is_client_next : ClientEntry → ClientEntry → Bool
is_client_next a b = is_lt (client_cmp a.client b.client)

-- whether the entry is in order, and may follow these
abbrev pub entry_may_follow : List ClientEntry → ClientEntry → Bool
entry_may_follow entries e = is_ordered e && follows_last is_client_next entries e

-- whether the topic of the first entry comes before that of the second
abbrev pub is_next_topic : RetainedEntry → RetainedEntry → Bool
is_next_topic a b = is_lt (topic_name_cmp a.topic b.topic)

-- whether the entry of a topic may follow these
abbrev pub topic_may_follow : List RetainedEntry → RetainedEntry → Bool
topic_may_follow entries e = follows_last is_next_topic entries e

-- ---- the whole

-- entries of topics, which version 2 needs. That there is one is checked after them.
unfoldable pub retained_entries_at : Reader (List RetainedEntry)
retained_entries_at bytes =
    values_at retained_at topic_may_follow bytes >>= λ x.
    if length x.0 == 0 then Err faults.Version else Ok x

-- a digest of clients alone
abbrev pub of_clients : List ClientEntry → Digested
of_clients clients = record { clients = clients; topics = [] }

-- a digest of clients and topics
abbrev pub of_both : List ClientEntry × List RetainedEntry → Digested
of_both x = record { clients = x.0; topics = x.1 }

-- the entries of clients
abbrev pub clients_at : Reader (List ClientEntry)
clients_at = values_at client_entry_at entry_may_follow

-- a digest of version 1, after its version
abbrev pub alone_at : Reader Digested
alone_at = made_from of_clients clients_at

-- a digest of version 2, after its version
abbrev pub both_at : Reader Digested
both_at = made_from of_both (both clients_at retained_entries_at)

-- the version, the entries of clients, and in version 2 the entries of topics
unfoldable pub digest_at : Reader Digested
digest_at bytes =
    octet_at bytes >>= λ version.
    if version.0 == 1 then alone_at version.1
    else (if version.0 == 2 then both_at version.1 else Err faults.Version)

-- What the octets say, or the first fault for which they are no digest. The order is checked when
-- an entry is whole.
abbrev pub digest_reading : List ℕ → Result Digested OpsFault
digest_reading bytes = reading_by digest_at bytes
