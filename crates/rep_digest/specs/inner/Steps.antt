-- How a digest is worked out of what a replica hands out.
use Rattle.std.specs.Prelude.{◌≡◌, ℕ, ◌+◌, ◌==◌, if◌then◌else◌, List, [], ◌∷◌, map, filter, fold, Option, Some, None}
use Rattle.std.specs.List.{filter_map}
use Rattle.rep_op.specs.declared.op.Put.{Put}
use Rattle.rep_op.specs.declared.op.Op.{Op}
use Rattle.rep_op.specs.declared.op.Op.TheVariants.{Ack}
use Rattle.rep_op.specs.Sets.{same_client}
use Rattle.rep_digest.specs.declared.groups.Acknowledged.{Acknowledged}
use Rattle.rep_model.specs.declared.view.ClientView.{ClientView}
use Rattle.rep_digest.specs.declared.entry.OriginEntry.{OriginEntry}
use Rattle.rep_digest.specs.declared.entry.ClientEntry.{ClientEntry}
use Rattle.rep_op.specs.declared.op.Retained.{Retained}
use Rattle.rep_op.specs.Orders.{clock_of}
use Rattle.rep_digest.specs.declared.entry.RetainedEntry.{RetainedEntry}
use Rattle.rep_digest.specs.Digests.{has_ranges, numbers_from, entry_of_topic}

-- ---- the acknowledgements of each client

-- the client's acknowledgements in one operation
abbrev pub acknowledged_by : List ℕ → Op → Option Acknowledged
acknowledged_by c (Ack d origin first last) =
    if same_client c d then Some (record { origin = origin; first = first; last = last }) else None
acknowledged_by c op = None

-- the client's acknowledgements in these operations
abbrev pub group : List Op → List ℕ → List Acknowledged
group W c = filter_map (acknowledged_by c) W

-- the acknowledgements of each of these clients, in their order
abbrev pub groups : List (List ℕ) → List Op → List (List Acknowledged)
groups clients W = map (group W) clients

-- ---- the entry of an origin

-- the range of an acknowledgement, if it is of this origin
abbrev pub numbers_of : ℕ → Acknowledged → Option (ℕ × ℕ)
numbers_of origin a = if origin == a.origin then Some (a.first, a.last) else None

-- the sequence number of a message of this origin; none of another's
abbrev pub seq_if_own : ℕ → Put → Option ℕ
seq_if_own origin put = if origin == put.origin then Some put.seq else None

-- a number after the others; it joins the last range if it touches it
abbrev pub with_number : List (ℕ × ℕ) → ℕ → List (ℕ × ℕ)
with_number [] n = (n, n) ∷ []
with_number (r ∷ []) n = if r.1 + 1 == n then (r.0, n) ∷ [] else r ∷ (n, n) ∷ []
with_number (r ∷ s ∷ rest) n = r ∷ with_number (s ∷ rest) n

-- ascending numbers as ranges, as few as there can be
abbrev pub in_ranges_of : List ℕ → List (ℕ × ℕ)
in_ranges_of ns = fold with_number [] ns

-- the entry of an origin: what these acknowledgements and waiting messages say of it
abbrev pub drafted : List Acknowledged → List Put → ℕ → OriginEntry
drafted acks pending origin = record {
  origin = origin;
  acknowledged = filter_map (numbers_of origin) acks;
  waiting = in_ranges_of (filter_map (seq_if_own origin) pending);
}

-- the origins 1 to 255 that have ranges
abbrev pub drafted_origins : List Acknowledged → List Put → List OriginEntry
drafted_origins acks pending = filter has_ranges (map (drafted acks pending) (numbers_from 1 255))

-- origins that some acknowledgements and messages make
abbrev pub AreDrafted : List OriginEntry → Type 0
AreDrafted origins =
    (acks : List Acknowledged) × (pending : List Put) × (origins ≡ drafted_origins acks pending)

-- the entry of a client, of its view and its acknowledgements
abbrev pub drafted_entry : List ℕ → ClientView → List Acknowledged → ClientEntry
drafted_entry c view acks = record {
  client = c;
  stamp = view.stamp;
  prefix = view.prefix;
  origins = drafted_origins acks view.pending;
}

-- ---- the entry of a topic

-- the entry of a topic with what is retained of it
abbrev pub entry_for : List ℕ × Retained → RetainedEntry
entry_for e = entry_of_topic e.0 (clock_of e.1)
