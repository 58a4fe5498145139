-- What is known of operations: what a digest covers, and what was noted since.
use Rattle.std.specs.Prelude.{ℕ, ◌==◌, Bool, false, ◌&&◌, ◌||◌, not, nat_le, List}
use Rattle.std.specs.List.{list_any}
use Rattle.std.specs.Ordering.{is_lt}
use Rattle.rep_op.specs.declared.op.Op.{Op}
use Rattle.rep_op.specs.declared.op.Op.TheVariants.{Session as OfSession, Put as OfPut, Ack, Retain as OfRetain}
use Rattle.rep_op.specs.declared.op.Subject.{Subject}
use Rattle.rep_op.specs.declared.op.Subject.TheVariants.{Client as OfClient, Topic as OfTopic}
use Rattle.rep_op.specs.Orders.{clock_of, clock_cmp}
use Rattle.rep_op.specs.Sets.{same_client, same_topic}
use Rattle.rep_op.specs.declared.op.Stamp.{Stamp}
use Rattle.rep_model.specs.Keep.{is_below}
use Rattle.rep_model.specs.Limits.{is_in_prefix}
use Rattle.rep_digest.specs.declared.entry.OriginEntry.{OriginEntry}
use Rattle.rep_digest.specs.declared.entry.ClientEntry.{ClientEntry}
use Rattle.rep_digest.specs.declared.entry.RetainedEntry.{RetainedEntry}
use Rattle.rep_digest.specs.Digests.{Digested}
use Rattle.gw_relay.specs.declared.name.Name.{Name}

-- whether a range has all numbers from the first to the last
abbrev pub holds : ℕ → ℕ → ℕ × ℕ → Bool
holds first last range = nat_le range.0 first && nat_le last range.1

-- whether what is said of an origin has a message of it: it waits, or is acknowledged
abbrev pub has_put : ℕ → ℕ → OriginEntry → Bool
has_put origin seq said =
    (said.origin == origin)
    && (list_any (holds seq seq) said.waiting || list_any (holds seq seq) said.acknowledged)

-- whether what is said of an origin has these acknowledgements of it, in one range
abbrev pub has_acks : ℕ → ℕ → ℕ → OriginEntry → Bool
has_acks origin first last said =
    (said.origin == origin) && list_any (holds first last) said.acknowledged

-- whether an entry sees a session operation: it is below the stamp, or at it without a gap from 0
-- on
abbrev pub entry_sees : ClientEntry → Stamp → ℕ → Bool
entry_sees entry stamp counter =
    is_below stamp entry.stamp || is_in_prefix entry.stamp entry.prefix (stamp, counter)

-- whether an entry is of the client of an operation, and covers that
abbrev pub is_covered_by : Op → ClientEntry → Bool
is_covered_by (OfSession c stamp counter change) entry =
    same_client entry.client c && entry_sees entry stamp counter
is_covered_by (OfPut c put) entry =
    same_client entry.client c && list_any (has_put put.origin put.seq) entry.origins
is_covered_by (Ack c origin first last) entry =
    same_client entry.client c && list_any (has_acks origin first last) entry.origins
is_covered_by (OfRetain t kept) entry = false

-- whether what an entry of a topic names is as late as this name, or later
abbrev pub entry_is_as_late : RetainedEntry → ℕ × ℕ → Bool
entry_is_as_late entry name = not (is_lt (clock_cmp (entry.clock, entry.gateway) name))

-- whether an entry is of the topic of an operation, and covers that
abbrev pub is_retained_by : Op → RetainedEntry → Bool
is_retained_by (OfRetain t kept) entry =
    same_topic entry.topic t && entry_is_as_late entry (clock_of kept)
is_retained_by op entry = false

-- whether a digest covers an operation: the entry of its client does, or that of its topic
abbrev pub is_covered : Digested → Op → Bool
is_covered digest op =
    list_any (is_covered_by op) digest.clients || list_any (is_retained_by op) digest.topics

-- the name of an operation
abbrev pub name_of_op : Op → Name
name_of_op (OfSession c stamp counter change) =
    record {
      of = OfClient c;
      kind = 0;
      gateway = stamp.gateway;
      first = stamp.epoch;
      last = counter;
    }
name_of_op (OfPut c put) =
    record { of = OfClient c; kind = 1; gateway = put.origin; first = put.seq; last = put.seq }
name_of_op (Ack c origin first last) =
    record { of = OfClient c; kind = 2; gateway = origin; first = first; last = last }
name_of_op (OfRetain t k) =
    record { of = OfTopic t; kind = 3; gateway = k.gateway; first = k.clock; last = k.clock }

-- whether it is this client, or this topic
abbrev pub is_client : List ℕ → Subject → Bool
is_client c (OfClient d) = same_client d c
is_client c (OfTopic t) = false

abbrev pub is_of_topic : List ℕ → Subject → Bool
is_of_topic t (OfClient c) = false
is_of_topic t (OfTopic u) = same_topic u t

-- whether a name has these parts
abbrev pub has_name_parts : ℕ → ℕ → ℕ → ℕ → Name → Bool
has_name_parts kind gateway first last name =
    (name.first == first) && (name.last == last) && (name.gateway == gateway)
    && (name.kind == kind)

-- whether the name is that of the operation
abbrev pub is_of : Op → Name → Bool
is_of (OfSession c stamp counter change) name =
    has_name_parts 0 stamp.gateway stamp.epoch counter name && is_client c name.of
is_of (OfPut c put) name =
    has_name_parts 1 put.origin put.seq put.seq name && is_client c name.of
is_of (Ack c origin first last) name =
    has_name_parts 2 origin first last name && is_client c name.of
is_of (OfRetain t kept) name =
    has_name_parts 3 kept.gateway kept.clock kept.clock name && is_of_topic t name.of

-- whether an operation was noted
abbrev pub is_noted : List Name → Op → Bool
is_noted notes op = list_any (is_of op) notes

-- whether an operation is known: a digest covers it, or it was noted since
abbrev pub is_op_known : Digested → List Name → Op → Bool
is_op_known digest notes op = is_covered digest op || is_noted notes op

-- whether a range goes up to this number, at least
abbrev pub goes_to : ℕ → ℕ × ℕ → Bool
goes_to last range = nat_le last range.1

-- whether what is said of an origin has a message of it from this number on
abbrev pub origin_reaches : ℕ → ℕ → OriginEntry → Bool
origin_reaches origin last said =
    (said.origin == origin)
    && (list_any (goes_to last) said.waiting || list_any (goes_to last) said.acknowledged)

-- whether an entry is of the client, and has a message of the origin from this number on
abbrev pub entry_reaches : List ℕ → ℕ → ℕ → ClientEntry → Bool
entry_reaches c origin last entry =
    same_client entry.client c && list_any (origin_reaches origin last) entry.origins

-- whether a digest has a message of an origin, for a client, from this number on
abbrev pub reaches : List ℕ → ℕ → ℕ → Digested → Bool
reaches c origin last digest = list_any (entry_reaches c origin last) digest.clients

-- Whether an operation can only come from the gateway, and its digest does not have it: its own
-- change or message, or what it retained, is not known; or a message of it is acknowledged that is
-- above all it knows.
abbrev pub is_lost : Digested → List Name → ℕ → Op → Bool
is_lost digest notes gateway (OfSession c stamp counter change) =
    (stamp.gateway == gateway) && not (is_op_known digest notes (OfSession c stamp counter change))
is_lost digest notes gateway (OfPut c put) =
    (put.origin == gateway) && not (is_op_known digest notes (OfPut c put))
is_lost digest notes gateway (Ack c origin first last) =
    (origin == gateway) && not (reaches c origin last digest)
is_lost digest notes gateway (OfRetain t kept) =
    (kept.gateway == gateway) && not (is_op_known digest notes (OfRetain t kept))
