use Rattle.std.proofs.Common.{◌≡◌}
use Rattle.std.proofs.lemmas.Result.{IfOk-weaker}
use Rattle.sn_local.specs.Seen.{seen_of}
use Rattle.sn_plan.specs.Bound.{session_of}
use Rattle.sn_exchange.specs.Following.{followed_by, followed_for}
use Rattle.sn_exchange.proofs.Following.{followed-at}
use Rattle.sn_exchange.proofs.follow.follow_at.Goals as goal

pub returns-in_ok-peer-in-Some : goal.returns-in_ok-peer-in-Some
returns-in_ok-peer-in-Some g c =
    let seen = seen_of (g.R.Replica.kept c.args.scene.now.replica.now) in
    let peer = c.in_ok-peer-in-Some.peer in
    IfOk-weaker c.follow_for-followed.result
    (λ _. c.follow_for-followed.new.draft ≡ followed_by c.args.scene.now.config.now.predefined peer (session_of seen peer.client) (seen.of peer.client).pending c.args.draft.now c.args.follow.now)
    (λ _. c.follow_for-followed.new.draft ≡ followed_for c.args.scene.now.config.now.predefined seen c.args.scene.now.from c.args.scene.now.moment c.args.draft.now c.args.follow.now c.args.client.now)
    (λ _ h. followed-at c.args.scene.now.config.now.predefined seen c.args.scene.now.from c.args.scene.now.moment c.args.draft.now c.args.follow.now c.args.client.now c.in-Some.client peer c.follow_for-followed.new.draft
    c.in-Some.is c.in_ok-peer-in-Some.ensures h)
    c.follow_for-followed.ensures
