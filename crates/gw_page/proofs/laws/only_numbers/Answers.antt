use Rattle.gw_page.proofs.Lines.{numbers_are_lines}
use Rattle.gw_page.proofs.laws.only_numbers.Goals as goal

pub returns : goal.returns
returns c = numbers_are_lines
