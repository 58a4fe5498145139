-- No message has a moment before the least.
use Rattle.rep_model.proofs.Moments.{found}
use Rattle.rep_model.proofs.view.Puts.new.Goals as goal

pub invariant_of-result : goal.invariant_of-result
invariant_of-result c = found c.args.items.items c.as_slice.result.now _ c.soonest_of-soonest.result c.as_slice.ensures.value c.soonest_of-soonest.ensures
