-- Readings as messages of a journal.
use Rattle.std.specs.Prelude.{ℕ, zero, suc, ◌+◌, ◌-◌, ◌==◌, Bool, if◌then◌else◌, List, [], ◌∷◌, ◌++◌, map}
use Rattle.std.specs.List.{list_any}
use Rattle.rep_op.specs.declared.op.Op.{Op}
use Rattle.rep_op.specs.declared.op.Op.TheVariants as ops
use Rattle.rep_op.specs.declared.op.Put.{Put}
use Rattle.br_core.specs.declared.item.Item.{Item}
use Rattle.br_spool.specs.declared.place.TheConstants.{SPOOL}
use Rattle.br_spool.specs.Places.{queue_client, queue_of, number_seq}

-- a reading is a message of quality of service 1 for the client of its queue, at its place
abbrev pub item_message : Item → Put
item_message item =
    record {
      origin = SPOOL;
      seq = number_seq item.number;
      topic = item.topic;
      qos = 1;
      retain = item.retain;
      expires = 0;
      body = item.body;
    }

abbrev pub item_put : Item → Op
item_put item = ops.Put (queue_client (queue_of item.number)) (item_message item)

-- the acknowledgement of the reading of a number
abbrev pub number_ack : ℕ → Op
number_ack number =
    ops.Ack (queue_client (queue_of number)) SPOOL (number_seq number) (number_seq number)

-- whether a reading of this number is among these
abbrev pub is_item_among : ℕ → List Item → Bool
is_item_among number items = list_any (λ item. item.number == number) items

-- a number, if it is of none of these; and so many numbers from one on, without those of these
abbrev pub other_number : ℕ → List Item → List ℕ
other_number number items = if is_item_among number items then [] else number ∷ []

abbrev pub others_from : ℕ → ℕ → List Item → List ℕ
others_from from zero items = []
others_from from (suc count) items = other_number from items ++ others_from (from + 1) count items

-- What is written of the readings from a number on, below another one: these as messages; and
-- acknowledgements of the numbers that the spool need not keep, and of all others, which it never
-- keeps.
abbrev pub spool_ops : ℕ → ℕ → List Item → List ℕ → List Op
spool_ops from below items numbers =
    map item_put items ++ map number_ack numbers
    ++ map number_ack (others_from from (below - from) items)
