use Rattle.gw_serve.proofs.Gathering.{gains_nothing}
use Rattle.gw_serve.proofs.serving.serve.Goals as goal

pub returns-in_default-clause-back : goal.returns-in_default-clause-back
returns-in_default-clause-back g c = gains_nothing c.args.passes.items

pub returns-in_default-bounded_with-clause-back : goal.returns-in_default-bounded_with-clause-back
returns-in_default-bounded_with-clause-back g c = gains_nothing c.args.passes.items
