use Rattle.std.proofs.Common.{◌≡◌, arith}
use Rattle.std.proofs.lemmas.Grind.{common_steps}
use Rattle.sn_tables.specs.Subscriptions.{asked_qos, subscribed_qos}
use Rattle.sn_tables.proofs.Greatest.{greatest_is}
use Rattle.sn_tables.proofs.subscriptions.Subscriptions.subscribed_qos.Goals as goal

pub returns-clause-greatest : goal.returns-clause-greatest
returns-clause-greatest c =
    let value : c.loop-entry.greatest ≡ subscribed_qos c.args.name.now c.args.self.now = grind (arith, common_steps) in
    greatest_is (asked_qos c.args.name.now c.args.self.now) c.loop-entry.greatest value
