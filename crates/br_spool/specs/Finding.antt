-- The readings of a journal.
use Rattle.std.specs.Prelude.{◌≡◌, ℕ, ◌+◌, ◌≤◌, ◌==◌, max, min, if◌then◌else◌, List, [], ◌∷◌, fold, Option, Some, None}
use Rattle.std.specs.List.{flat_map}
use Rattle.mq_packet.specs.declared.packet.Qos.TheVariants as levels
use Rattle.rep_op.specs.declared.op.Op.{Op}
use Rattle.rep_op.specs.declared.op.Op.TheVariants as ops
use Rattle.rep_op.specs.declared.op.Put.{Put}
use Rattle.rep_ops.specs.Splitting.{all_of}
use Rattle.br_core.specs.declared.item.Item.{Item}
use Rattle.br_spool.specs.declared.place.TheConstants.{LAST_SEQ, SPOOL}
use Rattle.br_spool.specs.Places.{number_at_place, queue_in}

-- the number of a place of a queue of this origin
abbrev pub number_if_own : Option ℕ → ℕ → ℕ → Option ℕ
number_if_own None origin seq = None
number_if_own (Some queue) origin seq = if origin == SPOOL then number_at_place queue seq else None

-- the reading that a message is; of which lane it came nobody knows any longer
abbrev pub item_at : Option ℕ → Put → Option Item
item_at None put = None
item_at (Some number) put =
    Some (record {
      number = number;
      lane = 0;
      topic = put.topic;
      qos = levels.One;
      retain = put.retain;
      body = put.body;
    })

abbrev pub item_in : Op → Option Item
item_in (ops.Put client put) = item_at (number_if_own (queue_in client) put.origin put.seq) put
item_in op = None

abbrev pub one_if : Option Item → List Item
one_if None = []
one_if (Some item) = item ∷ []

abbrev pub read : Op → List Item
read op = one_if (item_in op)

-- An operation speaks of a number if it puts the reading of this number, or acknowledges its place.
abbrev pub SpeaksOf : Op → ℕ → Type 0
SpeaksOf (ops.Put client put) number =
    number_if_own (queue_in client) put.origin put.seq ≡ Some number
SpeaksOf (ops.Ack client origin first last) number =
    (seq : ℕ) × (first ≤ seq) × (seq ≤ last)
    × (number_if_own (queue_in client) origin seq ≡ Some number)
SpeaksOf op number = ⊥

-- the greatest number that an operation can speak of; places after the last one have none
abbrev pub last_number_in : Op → Option ℕ
last_number_in (ops.Put client put) = number_if_own (queue_in client) put.origin put.seq
last_number_in (ops.Ack client origin first last) =
    number_if_own (queue_in client) origin (min last LAST_SEQ)
last_number_in op = None

-- a number above that one, and above another
abbrev pub above_at : ℕ → Option ℕ → ℕ
above_at next None = next
above_at next (Some number) = max next (number + 1)

abbrev pub above : ℕ → Op → ℕ
above next op = above_at next (last_number_in op)

abbrev pub above_all : ℕ → List Op → ℕ
above_all next delta = fold above next delta

-- all readings of deltas, and a number above all that they speak of
abbrev pub items_in : List (List Op) → List Item
items_in deltas = flat_map read (all_of deltas)

abbrev pub next_in : List (List Op) → ℕ
next_in deltas = fold above_all 0 deltas
