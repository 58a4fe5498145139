use Rattle.std.proofs.Common.{Some, None, ap, subst, ◌∙◌}
use Rattle.rep_log.specs.Origins.{ranges_of_origin, AreOrigins}
use Rattle.rep_log.proofs.Acknowledged.{ranges_found}
use Rattle.rep_log.proofs.acks.Acks.numbers.Goals as goal

pub returns-in-Some-clause-numbers : goal.returns-in-Some-clause-numbers
returns-in-Some-clause-numbers c =
    c.as_slice.ensures.value ∙ ranges_found c.args.origin c.self.inside.origins.entries (Some c.in-Some.ranges.now) c.in-Some.ensures.value ∙ ap (ranges_of_origin c.args.origin) c.self.view_is

pub returns-in-None-clause-numbers : goal.returns-in-None-clause-numbers
returns-in-None-clause-numbers c =
    ranges_found c.args.origin c.self.inside.origins.entries None c.in-None.ensures.value ∙ ap (ranges_of_origin c.args.origin) c.self.view_is

pub returns-in-Some-clause-origins : goal.returns-in-Some-clause-origins
returns-in-Some-clause-origins c = subst AreOrigins c.self.view_is c.self.invariant

pub returns-in-None-clause-origins : goal.returns-in-None-clause-origins
returns-in-None-clause-origins c = subst AreOrigins c.self.view_is c.self.invariant
