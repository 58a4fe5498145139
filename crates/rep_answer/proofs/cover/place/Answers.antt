use Rattle.std.proofs.Common.{◌≡◌, rules}
use Rattle.std.proofs.lemmas.Fn.{always_returns_same}
use Rattle.rep_op.specs.Orders.{client_cmp}
use Rattle.rep_model.proofs.Readers.{client_total}
use Rattle.sn_tables.proofs.Places.{placed}
use Rattle.rep_answer.proofs.Finding.{entries_ascend}
use Rattle.rep_answer.proofs.cover.place.Goals as goal

-- the closure compares an entry's client with the one that is sought
pub returns : goal.returns
returns c =
    let by_client = c.binary_search_by.ensures.position (λ e. client_cmp e.client c.args.client.now) (always_returns_same _ (λ a r. r ≡ client_cmp a.0.now.client c.args.client.now) _ (λ a r g called. search rules)) in
    placed (λ e. e.client) client_cmp client_total c.args.client.now c.args.entries.now (entries_ascend c.args.entries.now c.requires) c.binary_search_by.result c.binary_search_by.ensures.bound by_client
