use Rattle.std.proofs.Common.{◌↔◌, true, IsTrue, refl, subst}
use Rattle.rep_retain.specs.inner.Refusals.{IsInKeeping}
use Rattle.rep_retain.proofs.table.keeps_to.Goals as goal

pub returns-in-None : goal.returns-in-None
returns-in-None c = subst (λ o. IsTrue true ↔ IsInKeeping o c.args.kept.now) c.in-None.ensures (λ _. tt, λ _. refl)

pub returns-in-Some : goal.returns-in-Some
returns-in-Some c = subst (λ o. IsTrue c.is_in_keeping.result ↔ IsInKeeping o c.args.kept.now) c.in-Some.ensures c.is_in_keeping.ensures
