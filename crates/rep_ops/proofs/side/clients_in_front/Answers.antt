use Rattle.std.proofs.Common.{◌≡◌, true, false, arith, rules}
use Rattle.std.proofs.lemmas.Fn.{always_returns_same}
use Rattle.rep_op.specs.declared.op.Op.{Op}
use Rattle.rep_op.specs.Orders.{is_of_client}
use Rattle.rep_ops.proofs.Sides.{delta_parted, all_take, all_drop}
use Rattle.rep_ops.proofs.side.clients_in_front.Goals as goal

pub returns-clause-clients : goal.returns-clause-clients
returns-clause-clients c =
    let ops = c.args.ops.now in
    let parted = c.partition_point.ensures.partitioned is_of_client (always_returns_same _ (λ a r. r ≡ is_of_client a.0.now) _ (λ a r g called. search rules)) (delta_parted ops c.requires) in
    all_take (λ (op : Op). is_of_client op ≡ true) ops c.partition_point.result (λ j d lt. parted.0 j d (omega arith) lt)

pub returns-clause-topics : goal.returns-clause-topics
returns-clause-topics c =
    let ops = c.args.ops.now in
    let parted = c.partition_point.ensures.partitioned is_of_client (always_returns_same _ (λ a r. r ≡ is_of_client a.0.now) _ (λ a r g called. search rules)) (delta_parted ops c.requires) in
    all_drop (λ (op : Op). is_of_client op ≡ false) ops c.partition_point.result (λ j d from lt. parted.1 j d from lt)
