-- Who is passed over gets nothing, and neither does whoever is left where nobody asks any more.
use Rattle.sn_publish.proofs.Passing.{walked_by, walked_on, walked_through}
use Rattle.sn_publish.proofs.recipients.puts_for.Goals as goal

pub loop-behind-preserved : goal.loop-behind-preserved
loop-behind-preserved g c =
    walked_by c.args.topic.now c.args.qos (g.R.Replica.kept c.args.replica.now) c.args.body.now c.loop-behind.puts.items _ c.loop-behind.place c.loop-behind.invariant
    c.in-Some.behind c.in-Some.client.now c.in-Some.view.now c.in_ok-put.field-0 c.in-Some.ensures c.in_ok-put.ensures c.in_default-2.is

pub loop-behind-preserved-in_ok-push : goal.loop-behind-preserved-in_ok-push
loop-behind-preserved-in_ok-push g c =
    walked_on c.args.topic.now c.args.qos (g.R.Replica.kept c.args.replica.now) c.args.body.now c.loop-behind.puts.items _ c.loop-behind.place c.loop-behind.invariant
    c.in-Some.behind c.in-Some.client.now c.in-Some.view.now c.in_ok-put.field-0 c.in-Some-2.put c.push.new.self.items
    c.in-Some.ensures c.in_ok-put.ensures c.in-Some-2.is c.in_ok-push.ensures.items

pub returns : goal.returns
returns g c =
    walked_through c.args.topic.now c.args.qos (g.R.Replica.kept c.args.replica.now) c.args.body.now c.loop-behind.puts.items _ c.loop-behind.place c.loop-behind.invariant
    c.in_default.ensures
