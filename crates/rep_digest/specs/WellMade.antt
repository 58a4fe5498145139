-- Which entries make a digest.
use Rattle.std.specs.Prelude.{◌≡◌, ℕ, ◌≤◌, ◌<◌, ◌^◌, List, [], ◌∷◌, Option, Some, None, IsTrue}
use Rattle.std.specs.List.{AllByRecursion}
use Rattle.std.specs.declared.cmp.Ordering.TheVariants.{Less}
use Rattle.rep_op.specs.ClientIds.{IsClientId}
use Rattle.rep_op.specs.declared.op.TheConstants.{MAX_OPERATIONS}
use Rattle.rep_op.specs.declared.op.Stamp.{Stamp}
use Rattle.rep_op.specs.Orders.{client_cmp, topic_name_cmp}
use Rattle.sn_topic.specs.Topics.{IsName}
use Rattle.rep_model.specs.Ranges.{AreApart}
use Rattle.rep_digest.specs.declared.entry.OriginEntry.{OriginEntry}
use Rattle.rep_digest.specs.declared.entry.ClientEntry.{ClientEntry}
use Rattle.rep_digest.specs.declared.entry.RetainedEntry.{RetainedEntry}
use Rattle.rep_digest.specs.Digests.{has_ranges, Digested}

-- a range begins at 1 or later, and does not end before it begins; its numbers have 64 bits
pub record IsRange (r : ℕ × ℕ) : Type 0 where
  pub first : 1 ≤ r.0
  pub last : r.0 ≤ r.1
  pub wide : r.1 < 2 ^ 64

-- an origin 1 to 255 with ranges, which are apart
pub record IsOriginEntry (o : OriginEntry) : Type 0 where
  pub number : 1 ≤ o.origin
  pub octet : o.origin < 2 ^ 8
  pub some : IsTrue (has_ranges o)
  pub acknowledged : AllByRecursion IsRange o.acknowledged × AreApart o.acknowledged
  pub waiting : AllByRecursion IsRange o.waiting × AreApart o.waiting

-- no stamp and no prefix; or a stamp, and 1 to 256 of its operations without a gap
abbrev pub IsSeen : Option Stamp → ℕ → Type 0
IsSeen None prefix = prefix ≡ 0
IsSeen (Some s) prefix =
    (1 ≤ s.epoch) × (s.epoch < 2 ^ 64) × (1 ≤ s.gateway) × (s.gateway < 2 ^ 8) × (1 ≤ prefix)
    × (prefix ≤ MAX_OPERATIONS)

-- origins in strictly ascending order
abbrev pub OriginsAscend : List OriginEntry → Type 0
OriginsAscend [] = Unit {0}
OriginsAscend (a ∷ []) = Unit {0}
OriginsAscend (a ∷ b ∷ rest) = (a.origin < b.origin) × OriginsAscend (b ∷ rest)

-- an entry that a digest may have: a client's name, what is visible of its session, and its
-- origins, ascending
pub record IsDigestEntry (e : ClientEntry) : Type 0 where
  pub client : IsClientId e.client
  pub seen : IsSeen e.stamp e.prefix
  pub origins : AllByRecursion IsOriginEntry e.origins
  pub ascend : OriginsAscend e.origins

-- clients in strictly ascending order
abbrev pub ClientsAscend : List ClientEntry → Type 0
ClientsAscend [] = Unit {0}
ClientsAscend (a ∷ []) = Unit {0}
ClientsAscend (a ∷ b ∷ rest) = (client_cmp a.client b.client ≡ Less) × ClientsAscend (b ∷ rest)

-- an entry for each client, in ascending order
pub record AreClients (d : List ClientEntry) : Type 0 where
  pub entries : AllByRecursion IsDigestEntry d
  pub ascend : ClientsAscend d

-- an entry of a topic: its name, a clock of 64 bits and a gateway of 8, which begin at 1
pub record IsRetained (e : RetainedEntry) : Type 0 where
  pub topic : IsName e.topic
  pub clock : (1 ≤ e.clock) × (e.clock < 2 ^ 64)
  pub gateway : (1 ≤ e.gateway) × (e.gateway < 2 ^ 8)

-- topics in strictly ascending order
abbrev pub TopicsAscend : List RetainedEntry → Type 0
TopicsAscend [] = Unit {0}
TopicsAscend (a ∷ []) = Unit {0}
TopicsAscend (a ∷ b ∷ rest) = (topic_name_cmp a.topic b.topic ≡ Less) × TopicsAscend (b ∷ rest)

-- an entry for each topic, in ascending order
pub record AreTopics (d : List RetainedEntry) : Type 0 where
  pub entries : AllByRecursion IsRetained d
  pub ascend : TopicsAscend d

-- an entry for each client and for each topic, in ascending order
pub record IsDigest (d : Digested) : Type 0 where
  pub clients : AreClients d.clients
  pub topics : AreTopics d.topics
