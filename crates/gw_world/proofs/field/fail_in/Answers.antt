-- A failure is arranged, and nothing else changes.
use Rattle.std.proofs.Common.{refl}
use Rattle.gw_node.specs.Parts.{state_of}
use Rattle.gw_world.proofs.Going.{fails_next}
use Rattle.gw_world.proofs.field.fail_in.Goals as goal

pub returns : goal.returns
returns g c =
    fails_next (state_of g.R.Replica.kept c.args.node.now) (state_of g.R.Replica.kept c.fail_next.new.self) c.args.bytes c.args.sync (λ d. refl) (λ d. refl) (λ d. refl)
    c.fail_next.ensures.call
