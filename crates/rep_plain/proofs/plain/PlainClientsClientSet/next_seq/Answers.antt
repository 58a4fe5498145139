use Rattle.std.proofs.Common.{sym, ap, ◌∙◌}
use Rattle.rep_model.specs.Fresh.{one_more, largest, seq_of}
use Rattle.rep_shared.specs.Rows.{flat}
use Rattle.rep_plain.specs.Tables.{rows_of}
use Rattle.rep_shared.proofs.Single.{greatest_seq_own}
use Rattle.rep_shared.proofs.Flat.{of_flat}
use Rattle.rep_plain.proofs.Found.{table_rows}
use Rattle.rep_shared.proofs.Numbers.{next_one}
use Rattle.rep_plain.proofs.plain.PlainClientsClientSet.next_seq.Goals as goal

pub returns : goal.returns
returns c =
    let client = c.args.client.now in
    let es = c.self.inside.table.entries in
    let rows = rows_of es in
    let are = table_rows es c.self.inside.named c.self.invariant in
    next_one c.greatest_seq.result c.checked_add.result c.checked_add.ensures
    ∙ ap one_more (c.greatest_seq.ensures ∙ ap (λ S. largest (seq_of client c.args.gateway) S) (c.own_ops.ensures ∙ sym (of_flat client rows are)) ∙ sym (greatest_seq_own client (flat rows) c.args.gateway) ∙ ap (λ rows. largest (seq_of client c.args.gateway) (flat rows)) c.self.view_is)
