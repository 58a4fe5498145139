use Rattle.std.proofs.Common.{ℕ, List, [], ◌∷◌, subst, sym}
use Rattle.std.specs.Prelude.{drop}
use Rattle.rep_op.specs.Sessions.{change_octets}
use Rattle.rep_write.specs.Writing.{Writes}
use Rattle.rep_write.proofs.Writing.{writes_more}
use Rattle.rep_write.proofs.write_session.write_change.Goals as goal

pub returns : goal.returns
returns c =
    subst (λ (text : List ℕ). Writes text c.args.out.now.items c.write_fields.new.out.items c.write_fields.result) (sym c.change_code.ensures)
    (writes_more c.args.out.now.items (c.change_code.result ∷ []) (drop 1 (change_octets c.args.change.now)) c.write_octet.new.out.items c.write_fields.new.out.items c.write_fields.result
    c.in_ok-write_octet.ensures c.write_fields.ensures)
