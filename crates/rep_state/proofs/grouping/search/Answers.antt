use Rattle.std.proofs.Common.{◌≡◌, ℕ, List, rules}
use Rattle.std.proofs.lemmas.Fn.{always_returns_same}
use Rattle.sn_tables.proofs.Places.{placed}
use Rattle.rep_op.specs.Orders.{client_cmp}
use Rattle.rep_model.proofs.Readers.{client_total}
use Rattle.rep_entry.specs.declared.fresh.Fresh.{Fresh}
use Rattle.rep_log.proofs.Sorting.{ascends}
use Rattle.rep_state.proofs.grouping.search.Goals as goal

-- the closure compares a group's client with the one that is sought
pub returns : goal.returns
returns c =
    let q = c.args.client.now in
    let named = c.binary_search_by.ensures.position (λ (g : List ℕ × Fresh). client_cmp g.0 q) (always_returns_same _ (λ a r. r ≡ client_cmp a.0.now.0 q) _ (λ a r g called. search rules)) in
    placed (λ (g : List ℕ × Fresh). g.0) client_cmp client_total q c.args.groups.now (ascends client_cmp c.args.groups.now c.requires) c.binary_search_by.result c.binary_search_by.ensures.bound named
