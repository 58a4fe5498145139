use Rattle.std.proofs.Common.{◌≡◌, false, Contains, refl, sym, subst, ◌∙◌, true≢false, ⊎_elim}
use Rattle.std.proofs.lemmas.List.Elements.{Contains-get_or, All-from_recursion, All-contains}
use Rattle.rep_op.specs.declared.op.Op.{Op}
use Rattle.rep_op.specs.Orders.{is_of_client}
use Rattle.rep_retain.specs.Tables.{ops_of}
use Rattle.rep_retain.specs.Refusals.{IsContradiction}
use Rattle.rep_retain.proofs.table.check_all.Goals as goal

pub agrees-requires-clause-topic : goal.agrees-requires-clause-topic
agrees-requires-clause-topic c =
    let ops = c.args.ops.now in
    let here = subst (Contains ops) (sym c.op-item.is) (Contains-get_or ops c.loop-op.op-index c.op-item.result c.loop-op-test.true) in
    All-contains (λ (op : Op). is_of_client op ≡ false) ops c.op-item.result (All-from_recursion (λ (op : Op). is_of_client op ≡ false) ops c.requires.topics) here

pub returns-then-not-agrees-clause-fault : goal.returns-then-not-agrees-clause-fault
returns-then-not-agrees-clause-fault c =
    let ops = c.args.ops.now in
    let op = c.op-item.result in
    let K = ops_of c.args.entries.now in
    let here = subst (Contains ops) (sym c.op-item.is) (Contains-get_or ops c.loop-op.op-index op c.loop-op-test.true) in
    ⊎_elim
    (λ is. subst (IsContradiction K ops) (sym is) (op, here, refl, λ h. true≢false (sym (c.agrees.ensures.1 h) ∙ c.if-not-agrees.true)))
    (λ is. subst (IsContradiction K ops) (sym is) tt)
    c.conflict.ensures
