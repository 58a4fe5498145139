use Rattle.std.proofs.Common.{ℕ, Some, sym, ap, ◌∙◌}
use Rattle.rep_entry.proofs.Names.{named_at, named_gap}
use Rattle.rep_entry.proofs.searching.find_put.Goals as goal

pub returns-in-Ok : goal.returns-in-Ok
returns-in-Ok c =
    λ rising.
    let q : ℕ × ℕ = (c.args.seq, c.args.origin) in
    ap Some c.index-puts-at.is ∙ sym (named_at q c.args.puts.now c.in-Ok.at c.index-puts-at.result (c.in-Ok.ensures.place rising).1)

pub returns-in-Err : goal.returns-in-Err
returns-in-Err c =
    λ rising.
    let q : ℕ × ℕ = (c.args.seq, c.args.origin) in
    sym (named_gap q c.args.puts.now c.in-Err.field-0 (c.in-Err.ensures.place rising).1)
