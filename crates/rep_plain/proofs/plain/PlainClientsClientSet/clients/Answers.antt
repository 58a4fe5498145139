use Rattle.std.proofs.Common.{sym, ap, ◌∙◌}
use Rattle.rep_model.specs.Views.{clients}
use Rattle.rep_shared.specs.Rows.{flat}
use Rattle.rep_plain.specs.Tables.{rows_of}
use Rattle.rep_shared.proofs.Flat.{clients_flat}
use Rattle.rep_plain.proofs.Found.{table_rows}
use Rattle.rep_plain.proofs.plain.PlainClientsClientSet.clients.Goals as goal

pub returns-clause-ok : goal.returns-clause-ok
returns-clause-ok c =
    let es = c.self.inside.table.entries in
    c.in_ok-named_clients.ensures ∙ sym (clients_flat (rows_of es) (table_rows es c.self.inside.named c.self.invariant)) ∙ ap (λ rows. clients (flat rows)) c.self.view_is
