use Rattle.std.proofs.Common.{◌++◌, ap, ◌∙◌}
use Rattle.rep_state.specs.Tables.{by_client, rows_of}
use Rattle.rep_state.specs.inner.Tables.{own_of_all}
use Rattle.rep_state.proofs.Indexed.{in_order}
use Rattle.rep_state.proofs.Walking.{walked_all}
use Rattle.rep_state.proofs.held.kept_ops.Goals as goal

pub returns : goal.returns
returns c =
    let es = c.args.table.now.entries in
    c.in_ok-push_all.ensures
    ∙ ap (λ ops. ops ++ own_of_all c.as_slice.result.now (rows_of (by_client es))) c.new-kept.ensures.items
    ∙ ap (λ cs. own_of_all cs (rows_of (by_client es))) (c.as_slice.ensures.value ∙ c.in_ok-clients.ensures ∙ c.requires.names) ∙ walked_all (by_client es) (in_order es)
