use Rattle.std.proofs.Common.{◌≡◌, [], subst}
use Rattle.rep_log.specs.Origins.{ranges_of_origin, origins_of}
use Rattle.rep_log.proofs.Greatest.{nothing_above, up_to}
use Rattle.rep_log.proofs.acks.Acks.last_origin.Goals as goal

pub returns-in-Some : goal.returns-in-Some
returns-in-Some c = λ origin above.
    let es = c.self.inside.origins.entries in
    subst (λ a. ranges_of_origin origin a ≡ []) c.self.view_is (nothing_above c.in-Some.origin.now (origins_of es) (up_to c.in-Some.origin.now es c.in-Some.ensures.all_up_to) origin above)
