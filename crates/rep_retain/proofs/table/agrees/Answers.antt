use Rattle.std.proofs.Common.{◌≡◌, ◌↔◌, IsTrue, IfSome, sym, subst}
use Rattle.sn_tables.proofs.Ascending.{from_test}
use Rattle.rep_op.specs.Orders.{clock_of}
use Rattle.rep_op.specs.Sets.{Agrees}
use Rattle.rep_retain.specs.Tables.{entry_cmp, ops_of}
use Rattle.rep_retain.proofs.Found.{entry_total}
use Rattle.rep_retain.proofs.Keeping.{retain_at_found}
use Rattle.rep_retain.proofs.table.agrees.Goals as goal

pub returns : goal.returns
returns c =
    let es = c.args.entries.now in
    let k = c.in-Retain.retained in
    let stood = retain_at_found c.in-Retain.topic es (from_test entry_cmp entry_total es c.requires.table) (clock_of k) in
    subst (λ op. IsTrue c.keeps_to.result ↔ Agrees (ops_of es) op) (sym c.in-Retain.is)
    (subst (λ o. IsTrue c.keeps_to.result ↔ IfSome o (λ kept. kept ≡ k)) (sym stood) c.keeps_to.ensures)
