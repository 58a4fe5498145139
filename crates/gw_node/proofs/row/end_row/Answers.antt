use Rattle.std.proofs.Common.{refl, sym, subst, inl, inr}
use Rattle.gw_node.specs.inner.Rows.{AreFailed}
use Rattle.gw_node.proofs.Writes.{failed_only}
use Rattle.gw_node.proofs.row.end_row.Goals as goal

pub returns-in-Ok : goal.returns-in-Ok
returns-in-Ok g c = record { config = refl; records = refl; written = inl (refl, refl, refl, c.in-Ok.ensures) }

pub returns-in-Err : goal.returns-in-Err
returns-in-Err g c =
    record {
      config = c.go_back.ensures.config;
      records = c.go_back.ensures.records;
      written = inr (
        c.answers_failed.ensures,
        c.go_back.ensures.kept,
        c.go_back.ensures.local,
        subst (λ journal. AreFailed c.args.node.now.journal c.args.records.now journal) (sym c.go_back.ensures.journal) (failed_only c.args.node.now.journal c.write_all.new.journal c.args.records.now c.in-Err.field-0 c.in-Err.ensures),
      );
    }
