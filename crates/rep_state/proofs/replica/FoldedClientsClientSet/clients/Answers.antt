use Rattle.std.proofs.Common.{sym, ap, ◌∙◌}
use Rattle.rep_model.specs.Views.{clients}
use Rattle.rep_shared.specs.Rows.{flat}
use Rattle.rep_shared.proofs.Flat.{clients_flat}
use Rattle.rep_state.specs.Tables.{by_client, rows_of}
use Rattle.rep_state.proofs.Rows.{table_rows}
use Rattle.rep_state.proofs.replica.FoldedClientsClientSet.clients.Goals as goal

pub returns-clause-ok : goal.returns-clause-ok
returns-clause-ok c =
    let es = by_client c.self.inside.table.entries in
    c.in_ok-named_clients.ensures ∙ sym (clients_flat (rows_of es) (table_rows es c.self.inside.named c.self.invariant.0)) ∙ ap (λ rows. clients (flat rows)) c.self.view_is
