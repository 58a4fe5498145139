use Rattle.std.proofs.Common.{[], ◌∷◌, ap, ◌∙◌, arith}
use Rattle.gw_serve.specs.Count.{weigh}
use Rattle.gw_serve.proofs.Balance.{takes, learns, weigh-append}
use Rattle.gw_serve.proofs.Gathering.{drained}
use Rattle.gw_serve.proofs.serving.drain.Goals as goal

pub try_recv_as-requires-clause-rule : goal.try_recv_as-requires-clause-rule
try_recv_as-requires-clause-rule g c =
    let every = c.loop.invariant.1 in
    (takes _ _ (omega arith), learns _ _ every)

pub loop-preserved : goal.loop-preserved
loop-preserved g c =
    let s = drained _ _ _ c.in-Ok.ensures.rule in (
      c.try_recv_as.ensures.channel.0,
      s.0 ∙ c.loop.invariant.1,
      s.1 ∙ c.loop.invariant.2,
      λ h.
          let a = s.2 h in
          let b = c.loop.invariant.3 h in
          let d = ap (weigh h) c.push_reserved.ensures.items in
          let e = weigh-append h c.reserve.new.self.items (c.in-Ok.datagram.number ∷ []) in
          let r = ap (weigh h) c.reserve.ensures.items in
          omega arith,
    )
