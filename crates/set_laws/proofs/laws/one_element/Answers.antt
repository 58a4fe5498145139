use Rattle.rep_model.proofs.Joins.{counts-refl}
use Rattle.set_laws.proofs.Order.{counts-back, counts-on, join-alike}
use Rattle.set_laws.proofs.laws.one_element.Goals as goal

pub returns : goal.returns
returns c = record {
  itself = counts-refl;
  back = counts-back;
  on = counts-on;
  joined = join-alike;
}
