-- The answer to a digest: what must be kept and what the digest does not cover.
use Rattle.std.specs.Prelude.{◌≡◌, ℕ, ◌==◌, Bool, false, not, ◌&&◌, ◌||◌, if◌then◌else◌, List, [], Option, Some, None}
use Rattle.std.specs.List.{find}
use Rattle.std.specs.Ordering.{is_lt}
use Rattle.rep_op.specs.declared.op.Stamp.{Stamp}
use Rattle.rep_op.specs.declared.op.Op.{Op}
use Rattle.rep_op.specs.Orders.{clock_cmp}
use Rattle.rep_op.specs.Sets.{same_client, same_topic, operation_at, put_at, is_acknowledged, retain_at}
use Rattle.rep_ops.specs.Splitting.{AreDeltasOf}
use Rattle.rep_model.specs.Keep.{is_below, keep}
use Rattle.rep_model.specs.Limits.{is_in_prefix}
use Rattle.rep_model.specs.Ranges.{in_ranges}
use Rattle.rep_digest.specs.declared.entry.OriginEntry.{OriginEntry}
use Rattle.rep_digest.specs.declared.entry.ClientEntry.{ClientEntry}
use Rattle.rep_digest.specs.declared.entry.RetainedEntry.{RetainedEntry}
use Rattle.rep_digest.specs.Digests.{Digested}

-- the entry of a client, if there is one
abbrev pub entry_of : List ℕ → List ClientEntry → Option ClientEntry
entry_of c clients = find (λ entry. same_client c entry.client) clients

-- the entry of a topic, if there is one
abbrev pub topic_entry_of : List ℕ → List RetainedEntry → Option RetainedEntry
topic_entry_of t topics = find (λ entry. same_topic t entry.topic) topics

-- the ranges of an origin's entry, or none
abbrev pub ranges_of : (OriginEntry → List (ℕ × ℕ)) → Option OriginEntry → List (ℕ × ℕ)
ranges_of ranges None = []
ranges_of ranges (Some o) = ranges o

-- the ranges that an entry of a client has of an origin, or none
abbrev pub entry_ranges : (OriginEntry → List (ℕ × ℕ)) → ℕ → Option ClientEntry → List (ℕ × ℕ)
entry_ranges ranges origin None = []
entry_ranges ranges origin (Some entry) =
    ranges_of ranges (find (λ o. origin == o.origin) entry.origins)

-- the sequence numbers of an origin that the client's entry has as acknowledged
abbrev pub acknowledged_in : ℕ → Option ClientEntry → List (ℕ × ℕ)
acknowledged_in origin entry = entry_ranges (λ o. o.acknowledged) origin entry

-- the sequence numbers of an origin that the client's entry has as waiting
abbrev pub waiting_in : ℕ → Option ClientEntry → List (ℕ × ℕ)
waiting_in origin entry = entry_ranges (λ o. o.waiting) origin entry

-- whether an entry sees a session operation: it is below the stamp, or at it without a gap from 0
-- on
abbrev pub sees : Option ClientEntry → Stamp × ℕ → Bool
sees None name = false
sees (Some entry) name = is_below name.0 entry.stamp || is_in_prefix entry.stamp entry.prefix name

-- whether a digest covers a session operation of the client: its entry sees it
abbrev pub covers_operation : Digested → List ℕ → Stamp × ℕ → Bool
covers_operation digest c name = sees (entry_of c digest.clients) name

-- whether a digest covers a message of the client: it waits there, or is acknowledged
abbrev pub covers_put : Digested → List ℕ → ℕ × ℕ → Bool
covers_put digest c name =
    in_ranges name.0 (waiting_in name.1 (entry_of c digest.clients))
    || in_ranges name.0 (acknowledged_in name.1 (entry_of c digest.clients))

-- whether a digest covers the acknowledgement of a message: it has it
abbrev pub covers_acknowledgement : Digested → List ℕ → ℕ × ℕ → Bool
covers_acknowledgement digest c name =
    in_ranges name.0 (acknowledged_in name.1 (entry_of c digest.clients))

-- whether an entry says that what was retained last is what has this name, or came after it
abbrev pub is_as_late : Option RetainedEntry → ℕ × ℕ → Bool
is_as_late None name = false
is_as_late (Some entry) name = not (is_lt (clock_cmp (entry.clock, entry.gateway) name))

-- whether a digest covers what was retained of the topic under a name: its entry is as late
abbrev pub covers_retain : Digested → List ℕ → ℕ × ℕ → Bool
covers_retain digest t name = is_as_late (topic_entry_of t digest.topics) name

-- X is the set S without what the digest covers
pub record IsRest (digest : Digested) (S X : List Op) : Type 0 where
  pub operations_left : (c : List ℕ) (name : Stamp × ℕ)
      → operation_at c X name
      ≡ (if covers_operation digest c name then None else operation_at c S name)
  pub puts_left : (c : List ℕ) (name : ℕ × ℕ)
      → put_at c X name ≡ (if covers_put digest c name then None else put_at c S name)
  pub acknowledgements_left : (c : List ℕ) (name : ℕ × ℕ)
      → is_acknowledged c X name
      ≡ (not (covers_acknowledgement digest c name) && is_acknowledged c S name)
  pub retains_left : (t : List ℕ) (name : ℕ × ℕ)
      → retain_at t X name ≡ (if covers_retain digest t name then None else retain_at t S name)

-- the deltas, one after the other and as full as they can be, are what must be kept of S and the
-- digest does not cover
abbrev pub IsAnswer : Digested → List Op → List (List Op) → Type 0
IsAnswer digest S deltas = (X : List Op) × IsRest digest (keep S) X × AreDeltasOf X deltas
