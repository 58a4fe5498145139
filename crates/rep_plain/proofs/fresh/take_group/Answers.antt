use Rattle.std.proofs.Common.{◌≡◌, Some, None, sym, ap, ◌∙◌, Vec, Global}
use Rattle.std.specs.Option.{unwrap_or}
use Rattle.std.specs.BTreeMap.{is_at}
use Rattle.std.specs.Map.{lookup}
use Rattle.std.proofs.lemmas.Result.{IfOk-weaker}
use Rattle.rep_op.specs.declared.op.Op.{Op}
use Rattle.rep_op.specs.Orders.{client_cmp}
use Rattle.rep_shared.specs.Rows.{own}
use Rattle.rep_plain.specs.Tables.{rows_of}
use Rattle.rep_plain.proofs.Growing.{look_up}
use Rattle.rep_plain.proofs.fresh.take_group.Goals as goal

pub returns-in-Some-clause-ops : goal.returns-in-Some-clause-ops
returns-in-Some-clause-ops c =
    let rest = own c.args.client.now (rows_of c.args.table.now.entries) in
    ap (λ o. unwrap_or o rest) (look_up (λ (ops : Vec Op Global). ops.items) c.args.client.now c.args.groups.now.entries (Some c.in-Some.ops) c.in-Some.ensures.value)

pub returns-in-Some-clause-others : goal.returns-in-Some-clause-others
returns-in-Some-clause-others c =
    λ q apart.
    let items = λ (ops : Vec Op Global). ops.items in
    let old = c.args.groups.now.entries in
    let new = c.remove.new.self.entries in
    let same : lookup (is_at (client_cmp q)) new ≡ lookup (is_at (client_cmp q)) old = c.remove.ensures.updates.2 q apart in
    sym (look_up items q new (lookup (is_at (client_cmp q)) old) (sym same)) ∙ look_up items q old (lookup (is_at (client_cmp q)) old) (λ i. lookup (is_at (client_cmp q)) old)

pub returns-in-None-clause-ops : goal.returns-in-None-clause-ops
returns-in-None-clause-ops c =
    let rest = own c.args.client.now (rows_of c.args.table.now.entries) in
    let none = ap (λ o. unwrap_or o rest) (look_up (λ (ops : Vec Op Global). ops.items) c.args.client.now c.args.groups.now.entries None c.in-None.ensures.value) in
    IfOk-weaker c.copy_ops.result (λ ops. ops.items ≡ c.own_ops.result.now) _ (λ ops h. h ∙ c.own_ops.ensures ∙ none) c.copy_ops.ensures
