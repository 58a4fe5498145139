use Rattle.std.proofs.Common.{◌≡◌, ◌∷◌, not, length, ◌==◌, List, ℕ, Some, drop, true, sym, ap, subst, ◌∙◌, arith}
use Rattle.std.specs.List.{AllByRecursion}
use Rattle.std.specs.FinMap.{find}
use Rattle.rep_op.specs.Orders.{client_cmp}
use Rattle.rep_model.proofs.Readers.{client_total}
use Rattle.rep_plain.specs.declared.entry.Entry.{Entry}
use Rattle.rep_shared.specs.Rows.{has_any}
use Rattle.rep_shared.specs.inner.Rows.{named_rows}
use Rattle.rep_plain.specs.Tables.{rows_of}
use Rattle.rep_shared.proofs.Counting.{all_found}
use Rattle.rep_plain.proofs.Moves.{any_length}
use Rattle.rep_shared.proofs.Walks.{drop_next, named_front, drop_less}
use Rattle.rep_plain.proofs.table.named_at.Goals as goal

pub loop-client-init : goal.loop-client-init
loop-client-init c =
    let es = c.args.table.now.entries in
    let is = c.into_iter-client-iterator.ensures.into_iter_gives.0 in (
      ap (λ it. drop c.args.place (named_rows (rows_of it))) is,
      subst (AllByRecursion (λ (e : List ℕ × Entry). find client_cmp e.0 es ≡ Some e.1)) (sym is) (all_found client_cmp client_total es c.requires),
    )

pub returns-then-left-eq0-clause-at : goal.returns-then-left-eq0-clause-at
returns-then-left-eq0-clause-at c =
    let es = c.args.table.now.entries in
    let client = c.in-Some.client.now in
    let ops = c.in-Some.entry.now.ops.items in
    let rest = c.next.new.self in
    let any : has_any ops ≡ true = any_length ops ∙ ap (λ ops. not (length ops == 0)) (sym c.as_slice.ensures.value) ∙ ap not (sym c.is_empty.ensures ∙ c.if-not-is_empty.true) in
    let here : drop c.args.place (named_rows (rows_of es)) ≡ client ∷ named_rows (rows_of rest) =
    sym c.loop-client.invariant.0
    ∙ ap (λ n. drop n (named_rows (rows_of c.loop-client.client-iterator))) c.if-left-eq0.true
    ∙ ap (λ it. named_rows (rows_of it)) c.in-Some.ensures.steps
    ∙ named_front client ops (rows_of rest) any in
    here ∙ ap (λ cs. client ∷ cs) (sym (drop_next c.args.place (named_rows (rows_of es)) (named_rows (rows_of rest)) client here))

pub loop-client-preserved-then-not-is_empty : goal.loop-client-preserved-then-not-is_empty
loop-client-preserved-then-not-is_empty c =
    let es = c.args.table.now.entries in
    let client = c.in-Some.client.now in
    let ops = c.in-Some.entry.now.ops.items in
    let rest = c.next.new.self in
    let left = c.loop-client.left in
    let any : has_any ops ≡ true = any_length ops ∙ ap (λ ops. not (length ops == 0)) (sym c.as_slice.ensures.value) ∙ ap not (sym c.is_empty.ensures ∙ c.if-not-is_empty.true) in (
      sym (drop_less left client (named_rows (rows_of rest)) (omega (arith, c.if-left-eq0.false)))
          ∙ ap (drop left) (sym (ap (λ it. named_rows (rows_of it)) c.in-Some.ensures.steps ∙ named_front client ops (rows_of rest) any))
          ∙ c.loop-client.invariant.0,
      (subst (AllByRecursion (λ (e : List ℕ × Entry). find client_cmp e.0 es ≡ Some e.1)) c.in-Some.ensures.steps c.loop-client.invariant.1).1,
    )
