-- worked examples of the definitions
use Rattle.std.proofs.Common.{◌≡◌, false, [], ◌∷◌, Some, None, refl}
use Rattle.std.specs.Prelude.{codes}
use Rattle.mq_packet.specs.declared.packet.Qos.TheVariants as levels
use Rattle.rep_op.specs.declared.op.Op.TheVariants as ops
use Rattle.br_core.specs.declared.item.Item.{Item}
use Rattle.br_spool.specs.Finding.{items_in, next_in}
use Rattle.br_spool.specs.Messages.{number_ack, spool_ops, item_put}
use Rattle.br_spool.specs.Places.{number_at_place, queue_in}

-- 8,192 readings go into each queue, and then the first queue has its turn again
turns : number_at_place 63 8192 ≡ Some 524287
turns = refl

next_round : number_at_place 0 8193 ≡ Some 524288
next_round = refl

nowhere : number_at_place 64 1 ≡ None
nowhere = refl

queue_is : queue_in (codes "q07") ≡ Some 7
queue_is = refl

no_queue : queue_in (codes "p07") ≡ None
no_queue = refl

abbrev first : Item
first = record { number = 8193; lane = 0; topic = codes "f/a"; qos = levels.One; retain = false; body = codes "21" }

-- what is written: the reading, an acknowledgement of 3, and one of 8192, which is of no reading
written : spool_ops 8192 8194 (first ∷ []) (3 ∷ [])
    ≡ ops.Put (codes "q01") (record { origin = 255; seq = 2; topic = codes "f/a"; qos = 1; retain = false; expires = 0; body = codes "21" })
    ∷ ops.Ack (codes "q00") 255 4 4 ∷ ops.Ack (codes "q01") 255 1 1 ∷ []
written = refl

-- what is found: the reading, and the next number
found : items_in ((item_put first ∷ []) ∷ (number_ack 8194 ∷ []) ∷ []) ≡ first ∷ []
found = refl

next : next_in ((item_put first ∷ []) ∷ (number_ack 8194 ∷ []) ∷ []) ≡ 8195
next = refl

-- a range that goes on after the last place counts up to this place
far : next_in ((ops.Ack (codes "q00") 255 1 288230376151703553 ∷ []) ∷ []) ≡ 18446744073708511232
far = refl
