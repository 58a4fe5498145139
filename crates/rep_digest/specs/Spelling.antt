-- The one spelling of a digest as octets: version 2 if it has a topic, else version 1. Numbers have
-- the most significant octet first.
use Rattle.std.specs.Prelude.{ℕ, ◌+◌, ◌≤◌, List, [], ◌∷◌, ◌++◌, length, Option, Some, None}
use Rattle.std.specs.List.{flat_map}
use Rattle.byteorder.specs.Endian.{big_bytes}
use Rattle.rep_op.specs.declared.op.Stamp.{Stamp}
use Rattle.rep_op.specs.declared.version.Version.TheVariants.{One, Two}
use Rattle.rep_op.specs.Sessions.{text_octets}
use Rattle.rep_op.specs.Spelling.{client_octets}
use Rattle.rep_ops.specs.Spelling.{text_of, max_octets}
use Rattle.rep_digest.specs.declared.entry.OriginEntry.{OriginEntry}
use Rattle.rep_digest.specs.declared.entry.ClientEntry.{ClientEntry}
use Rattle.rep_digest.specs.declared.entry.RetainedEntry.{RetainedEntry}
use Rattle.rep_digest.specs.Digests.{Digested}

-- a range: its first and its last number
abbrev pub range_octets : ℕ × ℕ → List ℕ
range_octets r = big_bytes 8 r.0 ++ big_bytes 8 r.1

-- how many ranges there are, and the ranges
abbrev pub ranges_octets : List (ℕ × ℕ) → List ℕ
ranges_octets ranges = big_bytes 4 (length ranges) ++ flat_map range_octets ranges

-- an origin: its number, what is acknowledged, what waits
abbrev pub origin_octets : OriginEntry → List ℕ
origin_octets o = o.origin ∷ ranges_octets o.acknowledged ++ ranges_octets o.waiting

-- how many origins there are, and the origins
abbrev pub origins_octets : List OriginEntry → List ℕ
origins_octets origins = big_bytes 2 (length origins) ++ flat_map origin_octets origins

-- epoch and gateway of the stamp, and the prefix; all are 0 without a stamp
abbrev pub seen_octets : Option Stamp → ℕ → List ℕ
seen_octets None prefix = big_bytes 8 0 ++ 0 ∷ big_bytes 2 prefix
seen_octets (Some stamp) prefix = big_bytes 8 stamp.epoch ++ stamp.gateway ∷ big_bytes 2 prefix

-- an entry: client, stamp, prefix and origins
abbrev pub entry_octets : ClientEntry → List ℕ
entry_octets e =
    client_octets e.client ++ (seen_octets e.stamp e.prefix ++ origins_octets e.origins)

-- an entry of a topic: topic, clock and gateway
abbrev pub retained_entry_octets : RetainedEntry → List ℕ
retained_entry_octets e = text_octets e.topic ++ (big_bytes 8 e.clock ++ e.gateway ∷ [])

-- how many entries of topics there are, and the entries
abbrev pub topics_octets : List RetainedEntry → List ℕ
topics_octets topics = big_bytes 4 (length topics) ++ flat_map retained_entry_octets topics

-- the text of the entries of clients, in version 1 if there is no topic, and else in version 2;
-- then the entries of topics
abbrev pub spelled : List ClientEntry → List RetainedEntry → List ℕ
spelled clients [] = text_of One entry_octets clients
spelled clients (e ∷ rest) = text_of Two entry_octets clients ++ topics_octets (e ∷ rest)

-- the octets of a digest
abbrev pub digest_spelling : Digested → List ℕ
digest_spelling d = spelled d.clients d.topics

-- the octets of the digest are at most 8 MiB
abbrev pub IsDigestWithinLimit : Digested → Type 0
IsDigestWithinLimit d = length (digest_spelling d) ≤ max_octets
