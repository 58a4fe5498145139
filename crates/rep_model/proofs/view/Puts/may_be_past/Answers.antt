-- Before the least moment nothing is past.
use Rattle.std.specs.Prelude.{false, List, ◌≡◌}
use Rattle.std.specs.List.{list_any}
use Rattle.std.proofs.Common.{subst}
use Rattle.rep_op.specs.declared.op.Put.{Put}
use Rattle.rep_model.specs.Moments.{is_past}
use Rattle.rep_model.proofs.Moments.{none-past}
use Rattle.rep_model.proofs.view.Puts.may_be_past.Goals as goal

pub returns-then-now-self : goal.returns-then-now-self
returns-then-now-self c =
    let before = none-past c.args.now c.self.inside.soonest c.self.inside.items.items c.if-now-self.true c.self.invariant in
    λ _. subst (λ (ps : List Put). list_any (is_past c.args.now) ps ≡ false) c.self.view_is before
