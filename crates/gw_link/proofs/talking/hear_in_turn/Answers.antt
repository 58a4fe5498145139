use Rattle.gw_link.specs.Adding.{is_of_link}
use Rattle.gw_link.proofs.Adding.{adds_more}
use Rattle.gw_link.proofs.talking.hear_in_turn.Goals as goal

pub returns-then-is_err-2 : goal.returns-then-is_err-2
returns-then-is_err-2 g c = adds_more is_of_link _ _ _ c.greet-pass.ensures c.hear_all-pass.ensures

pub returns : goal.returns
returns g c =
    adds_more is_of_link _ _ _ c.greet-pass.ensures
    (adds_more is_of_link _ _ _ c.hear_all-pass.ensures c.answer.ensures)
