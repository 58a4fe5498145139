use Rattle.std.proofs.Common.{refl, subst}
use Rattle.rep_model.specs.Moments.{AllLast}
use Rattle.rep_model.proofs.Moments.{found, found_before}
use Rattle.rep_model.proofs.view.Puts.soonest_with.Goals as goal

pub returns-clause-these : goal.returns-clause-these
returns-clause-these c =
    let before = found_before c.self.inside.items.items c.args.more.now c.self.inside.soonest c.soonest_of.result c.self.invariant c.soonest_of.ensures in
    subst (AllLast c.soonest_of.result) c.self.view_is before

pub returns-clause-others : goal.returns-clause-others
returns-clause-others c = found c.args.more.now c.args.more.now c.self.inside.soonest c.soonest_of.result refl c.soonest_of.ensures
