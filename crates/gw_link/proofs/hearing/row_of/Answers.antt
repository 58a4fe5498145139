-- One more is another gateway's.
use Rattle.std.proofs.Common.{◌≡◌, true, sym}
use Rattle.std.specs.Arc.{arc_value}
use Rattle.std.proofs.lemmas.List.Elements.{All-nil}
use Rattle.gw_link.specs.Adding.{is_of_link}
use Rattle.gw_link.proofs.Adding.{are_on}
use Rattle.gw_link.proofs.hearing.row_of.Goals as goal

pub loop-index-init : goal.loop-index-init
loop-index-init g c = rw c.new.ensures.items (All-nil (λ step. is_of_link step ≡ true))

pub loop-index-preserved : goal.loop-index-preserved
loop-index-preserved g c =
    let h = c.in_ok-put_in-in-Ok.ensures in
    are_on is_of_link arc_value c.loop-index.row.steps.items c.put_in.new.row.steps.items h.0 c.loop-index.invariant h.1 h.2

pub returns : goal.returns
returns g c = c.loop-index.invariant
