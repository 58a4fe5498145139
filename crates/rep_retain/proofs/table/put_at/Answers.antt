use Rattle.std.proofs.Common.{◌≡◌, ℕ, List, set, ap, sym, ◌∙◌}
use Rattle.rep_op.specs.declared.op.Retained.{Retained}
use Rattle.rep_op.specs.Orders.{clock_of, clock_cmp}
use Rattle.std.specs.Ordering.{is_lt}
use Rattle.rep_retain.proofs.Placing.{stays, set_is}
use Rattle.rep_retain.proofs.table.put_at.Goals as goal

pub returns-then-not-is_later : goal.returns-then-not-is_later
returns-then-not-is_later c =
    let k = c.args.kept.now in
    let d = c.index.result.now in
    let later = ap (λ (e : List ℕ × Retained). is_lt (clock_cmp (clock_of e.1) (clock_of k))) (sym c.index.ensures) ∙ sym c.is_later.ensures ∙ c.if-not-is_later.true in
    stays c.args.topic.now k c.args.entries.now.items c.args.at d c.requires.place later

pub returns : goal.returns
returns c =
    let k = c.args.kept.now in
    let es = c.args.entries.now.items in
    let d = c.index.result.now in
    let later = ap (λ (e : List ℕ × Retained). is_lt (clock_cmp (clock_of e.1) (clock_of k))) (sym c.index.ensures) ∙ sym c.is_later.ensures ∙ c.if-not-is_later.false in
    ap (λ e. set es c.args.at e) c.in_ok-entry.ensures ∙ set_is c.args.topic.now k es c.args.at d c.requires.place later
