use Rattle.std.proofs.Common.{◌≡◌, ◌+◌, ℕ}
use Rattle.crossbeam_channel.specs.Claims.{view, IsSeatAt}
use Rattle.crossbeam_channel.specs.Ends.{receives_on}
use Rattle.gw_serve.specs.Count.{weigh}
use Rattle.gw_serve.specs.inner.Queue.{whole}
use Rattle.gw_serve.proofs.serving.drain.Given as goal

abbrev pub invariant-loop : goal.invariant-loop
invariant-loop g l =
    IsSeatAt (receives_on l.receiver) l.root
    × ((view l.root).parts ≡ whole)
    × ((view l.root).sent ≡ (view l.fn.root).sent)
    × ((h : ℕ → ℕ) → weigh h (view l.root).taken + weigh h l.fn.left.items ≡ weigh h (view l.fn.root).taken + weigh h l.left.items)
