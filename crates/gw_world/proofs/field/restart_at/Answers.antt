-- The node in this place moves, and no other.
use Rattle.std.proofs.Common.{◌<◌, map, sym, ap, ◌∙◌, subst}
use Rattle.std.specs.List.{insert}
use Rattle.std.proofs.lemmas.Option.{slice_get_read}
use Rattle.gw_node.specs.Parts.{state_of}
use Rattle.gw_world.specs.inner.Events.{Moves, StartsAgain, IsStood}
use Rattle.gw_world.proofs.Moving.{all_at, moves_in_place, there_in_place, put_back}
use Rattle.gw_world.proofs.field.restart_at.Goals as goal

pub open_again-requires : goal.open_again-requires
open_again-requires g c =
    all_at IsStood (map (λ node. state_of g.R.Replica.kept node) c.args.nodes.now.items) c.args.place (state_of g.R.Replica.kept c.remove-old.result) c.requires.stood
    (there_in_place (λ node. state_of g.R.Replica.kept node) c.args.nodes.now.items c.args.place c.remove-old.result
    (slice_get_read c.args.nodes.now.items _ c.args.place _ c.args.nodes.now.ok.0 c.requires.place c.remove-old.ensures.value))

pub returns : goal.returns
returns g c =
    let within = subst (λ n. c.args.place < n) c.args.nodes.now.ok.0 c.requires.place in
    let items = c.in_ok-insert.ensures.items ∙ ap (λ xs. insert xs c.args.place c.in_ok-node.node) c.remove-old.ensures.items ∙ put_back c.args.nodes.now.items c.args.place c.in_ok-node.node within in
    subst (λ xs. Moves (map (λ node. state_of g.R.Replica.kept node) c.args.nodes.now.items) c.args.place (λ old new. StartsAgain old c.args.left c.records-count.result new) (map (λ node. state_of g.R.Replica.kept node) xs)) (sym items)
    (moves_in_place (λ node. state_of g.R.Replica.kept node) c.args.nodes.now.items c.args.place c.remove-old.result c.in_ok-node.node (λ old new. StartsAgain old c.args.left c.records-count.result new)
    (slice_get_read c.args.nodes.now.items _ c.args.place _ c.args.nodes.now.ok.0 c.requires.place c.remove-old.ensures.value)
    (λ gateway s. let h = c.in_ok-node.ensures gateway s in (h.0, c.records-count.ensures ∙ h.1)))
