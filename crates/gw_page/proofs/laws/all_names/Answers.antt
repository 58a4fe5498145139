use Rattle.gw_page.proofs.Each.{single_stands, column_stands}
use Rattle.gw_page.proofs.laws.all_names.Goals as goal

pub returns-clause-singles : goal.returns-clause-singles
returns-clause-singles c = single_stands

pub returns-clause-columns : goal.returns-clause-columns
returns-clause-columns c = column_stands
