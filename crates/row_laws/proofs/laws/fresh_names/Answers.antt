use Rattle.row_laws.proofs.laws.fresh_names.Goals as goal
use Rattle.row_laws.proofs.Freshness.{plan-fresh}
use Rattle.sn_plan.proofs.Standing.{plan-fits, plan-consistent}

pub returns : goal.returns
returns c = record {
  fresh = λ g c S d plan flush apart planned. plan-fresh g c S d plan planned flush apart;
  fits = λ g c S d plan flush apart planned delta same. plan-fits S plan.ops (plan-fresh g c S d plan planned flush apart) delta same;
  consistent = λ g c S d plan flush apart planned. plan-consistent S plan.ops (plan-fresh g c S d plan planned flush apart);
}
