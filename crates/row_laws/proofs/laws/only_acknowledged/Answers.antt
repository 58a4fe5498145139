use Rattle.std.proofs.Common.{◌∙◌, ap, ◌++◌, append-nil}
use Rattle.rep_model.specs.Views.{view}
use Rattle.row_laws.proofs.laws.only_acknowledged.Goals as goal
use Rattle.row_laws.proofs.Leaving.{plan-leaves, plan-quiet}

pub returns : goal.returns
returns c = record {
  leaves = λ g c S d plan planned. plan-leaves g c S d plan planned;
  quiet = λ g c S d plan planned. plan-quiet g c S d plan planned;
  unchanged = λ S plan none e. ap (λ ops. view e (S ++ ops)) none ∙ ap (view e) (append-nil S);
}
