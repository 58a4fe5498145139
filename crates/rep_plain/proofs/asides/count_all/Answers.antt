use Rattle.std.proofs.Common.{◌≡◌, ℕ, ◌+◌, true, false, not, ◌==◌, List, length, sym, ap, ◌∙◌, arith}
use Rattle.rep_shared.specs.Rows.{has_any, count_named}
use Rattle.rep_plain.specs.declared.entry.Entry.{Entry}
use Rattle.rep_plain.specs.Tables.{rows_of}
use Rattle.rep_plain.proofs.Moves.{any_length}
use Rattle.rep_plain.proofs.Backs.{count_front}
use Rattle.rep_plain.proofs.asides.count_all.Goals as goal

pub loop-client-init : goal.loop-client-init
loop-client-init c =
    let is = ap (λ (it : List (List ℕ × Entry)). count_named (rows_of it)) c.into_iter-client-iterator.ensures.into_iter_gives.0 in
    omega (arith, is)

pub overflow_add-count : goal.overflow_add-count
overflow_add-count c = omega (arith, c.loop-client.invariant, c.requires)

pub loop-client-preserved-then-not-is_empty : goal.loop-client-preserved-then-not-is_empty
loop-client-preserved-then-not-is_empty c =
    let ops = c.in-Some.entry.now.ops.items in
    let any : has_any ops ≡ true = any_length ops ∙ ap (λ ops. not (length ops == 0)) (sym c.as_slice.ensures.value) ∙ ap not (sym c.is_empty.ensures ∙ c.if-not-is_empty.true) in
    let front : count_named (rows_of c.loop-client.client-iterator) ≡ 1 + count_named (rows_of c.next.new.self) = count_front _ _ _ true c.in-Some.ensures.steps any in
    omega (arith, front, c.loop-client.invariant)

pub loop-client-preserved : goal.loop-client-preserved
loop-client-preserved c =
    let ops = c.in-Some.entry.now.ops.items in
    let none : has_any ops ≡ false = any_length ops ∙ ap (λ ops. not (length ops == 0)) (sym c.as_slice.ensures.value) ∙ ap not (sym c.is_empty.ensures ∙ c.if-not-is_empty.false) in
    let front : count_named (rows_of c.loop-client.client-iterator) ≡ 0 + count_named (rows_of c.next.new.self) = count_front _ _ _ false c.in-Some.ensures.steps none in
    omega (arith, front, c.loop-client.invariant)

-- nobody is left
pub returns : goal.returns
returns c =
    let none : count_named (rows_of c.loop-client.client-iterator) ≡ 0 = ap (λ (it : List (List ℕ × Entry)). count_named (rows_of it)) c.in-None.ensures.steps.0 in
    omega (arith, none, c.loop-client.invariant)
