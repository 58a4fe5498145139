use Rattle.std.proofs.Common.{◌≡◌, rules}
use Rattle.std.proofs.lemmas.Fn.{always_returns_same}
use Rattle.rep_op.specs.Orders.{client_cmp}
use Rattle.rep_model.proofs.Readers.{client_total}
use Rattle.sn_tables.proofs.Places.{placed}
use Rattle.rep_state.specs.declared.places.Place.{Place}
use Rattle.rep_state.proofs.Indexed.{ascend_tested}
use Rattle.rep_state.proofs.places.place_of.Goals as goal

-- the closure compares a place's name with the one that is sought
pub returns : goal.returns
returns c =
    let by_name = c.binary_search_by.ensures.position (λ (p : Place). client_cmp p.name c.args.name.now) (always_returns_same _ (λ a r. r ≡ client_cmp a.0.now.name c.args.name.now) _ (λ a r g called. search rules)) in
    placed (λ (p : Place). p.name) client_cmp client_total c.args.name.now c.args.places.now (ascend_tested c.args.places.now c.requires) c.binary_search_by.result c.binary_search_by.ensures.bound by_name
