use Rattle.std.proofs.Common.{inl, inr, refl}
use Rattle.gw_node.proofs.carrying.make_ready.Goals as goal

pub returns-in_default-clause-err : goal.returns-in_default-clause-err
returns-in_default-clause-err g c = inl tt

pub returns-in-Err-clause-err : goal.returns-in-Err-clause-err
returns-in-Err-clause-err g c = inl c.in-Err.ensures.err

pub returns-in-Err-prepare-clause-err : goal.returns-in-Err-prepare-clause-err
returns-in-Err-prepare-clause-err g c = inr (c.in-Ok-delta_of.delta, c.in-Ok-delta_of.ensures.ok, c.in-Err-prepare.ensures.misfit)

pub returns-in_default-clause-aside : goal.returns-in_default-clause-aside
returns-in_default-clause-aside g c = λ aside h. (h, refl)

pub returns-in-Err-clause-aside : goal.returns-in-Err-clause-aside
returns-in-Err-clause-aside g c = λ aside h. (h, refl)
