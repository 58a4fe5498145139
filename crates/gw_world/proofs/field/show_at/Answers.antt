-- Each client is named, so it has a view.
use Rattle.std.proofs.Common.{◌≡◌, ◌++◌, ℕ, List, true, ap, sym, ◌∙◌, subst, map}
use Rattle.std.specs.List.{AllByRecursion}
use Rattle.rep_model.specs.declared.view.ClientView.{ClientView}
use Rattle.rep_model.specs.Views.{view, is_named}
use Rattle.gw_node.specs.Parts.{state_of}
use Rattle.gw_world.proofs.Showing.{all_named}
use Rattle.gw_world.proofs.field.show_at.Goals as goal

pub view_of-requires : goal.view_of-requires
view_of-requires g c =
    let S = (state_of g.R.Replica.kept c.args.node.now).kept in
    (subst (AllByRecursion (λ x. is_named x S ≡ true)) c.in-Some.ensures.steps.0 c.loop-client.invariant.1).0

pub loop-client-init : goal.loop-client-init
loop-client-init g c =
    let S = (state_of g.R.Replica.kept c.args.node.now).kept in
    let left = c.into_iter-client-iterator.result.rest.items in
    let row : List ℕ → List ℕ × ClientView = λ x. (x, view x S) in
    let is = c.into_iter-client-iterator.ensures.into_iter_gives.0 ∙ c.in_ok-clients.ensures in (
      ap (λ (made : List (List ℕ × ClientView)). made ++ map row left) c.new-views.ensures.items ∙ ap (map row) is,
      subst (AllByRecursion (λ x. is_named x S ≡ true)) (sym is) (all_named S),
    )
