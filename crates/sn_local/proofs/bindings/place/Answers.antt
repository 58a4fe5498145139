use Rattle.std.proofs.Common.{◌≡◌, rules}
use Rattle.std.proofs.lemmas.Fn.{always_returns_same}
use Rattle.sn_tables.proofs.Ascending.{from_test}
use Rattle.sn_tables.proofs.Places.{placed}
use Rattle.sn_local.specs.Bindings.{address_cmp, binding_cmp}
use Rattle.sn_local.proofs.Addresses.{address_total, binding_total}
use Rattle.sn_local.proofs.bindings.place.Goals as goal

-- the closure compares a binding's address with the one that is sought
pub returns : goal.returns
returns c =
    let up = from_test binding_cmp binding_total c.args.bindings.now c.requires.0 in
    let by_address = c.binary_search_by.ensures.position (λ b. address_cmp b.address c.args.address) (always_returns_same _ (λ a r. r ≡ address_cmp a.0.now.address c.args.address) _ (λ a r g called. search rules)) in
    placed (λ b. b.address) address_cmp address_total c.args.address c.args.bindings.now up c.binary_search_by.result c.binary_search_by.ensures.bound by_address
