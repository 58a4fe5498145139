use Rattle.std.proofs.Common.{◌≡◌, ℕ, List, rules}
use Rattle.std.proofs.lemmas.Fn.{always_returns_same}
use Rattle.sn_tables.proofs.Ascending.{from_test}
use Rattle.sn_tables.proofs.Places.{placed}
use Rattle.rep_op.specs.declared.op.Retained.{Retained}
use Rattle.rep_op.specs.Orders.{topic_name_cmp}
use Rattle.rep_model.proofs.Readers.{topic_total}
use Rattle.rep_retain.specs.Tables.{entry_cmp}
use Rattle.rep_retain.proofs.Found.{entry_total}
use Rattle.rep_retain.proofs.table.place.Goals as goal

-- the closure compares an entry's topic with the one that is sought
pub returns : goal.returns
returns c =
    let t = c.args.topic.now in
    let up = from_test entry_cmp entry_total c.args.entries.now c.requires in
    let ordered = c.binary_search_by.ensures.position (λ (e : List ℕ × Retained). topic_name_cmp e.0 t) (always_returns_same _ (λ a r. r ≡ topic_name_cmp a.0.now.0 t) _ (λ a r g called. search rules)) in
    placed (λ (e : List ℕ × Retained). e.0) topic_name_cmp topic_total t c.args.entries.now up c.binary_search_by.result c.binary_search_by.ensures.bound ordered
