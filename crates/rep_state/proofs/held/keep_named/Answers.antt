use Rattle.std.proofs.Common.{List, ℕ, rules}
use Rattle.std.proofs.lemmas.Fn.{filter_same}
use Rattle.rep_shared.specs.Rows.{own, has_any}
use Rattle.rep_state.specs.Tables.{by_client, rows_of}
use Rattle.rep_state.proofs.held.keep_named.Goals as goal

pub returns : goal.returns
returns c = filter_same _ (λ (client : List ℕ). has_any (own client (rows_of (by_client c.args.table.now.entries)))) _ (λ client kept after called. search rules) _ _ c.retain.ensures.filtered
