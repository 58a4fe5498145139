use Rattle.std.specs.Arc.{arc_value}
use Rattle.std.proofs.Math.Logic.{∥∥₁_map}
use Rattle.gw_answer.specs.Answers.{said}
use Rattle.gw_shift.specs.inner.Passes.{call}
use Rattle.gw_shift.proofs.Histories.{goes_on, does_so}
use Rattle.gw_shift.proofs.locked.Locked.make.Goals as goal

pub invariant_of-self-clause-legal : goal.invariant_of-self-clause-legal
invariant_of-self-clause-legal g c =
    let first = c.step-first in
    rw
    c.push_reserved.ensures.items
    (∥∥₁_map
    c.args.self.now.legal
    (goes_on
    _
    _
    _
    _
    (call c.args.place (arc_value c.args.step) (said first.result.2))
    _
    (does_so
    _
    c.args.place
    (arc_value c.args.step)
    c.deref.result.now
    (said first.result.2)
    (said first.result.0)
    _
    c.deref.ensures
    first.ensures.third
    first.ensures.call)))
