use Rattle.std.proofs.Common.{ℕ, length, drop, sym, ap, ◌∙◌, ◌++◌, subst}
use Rattle.gw_serve.specs.inner.Rows.{IsEnd}
use Rattle.gw_serve.proofs.Rows.{row_all, row_rest, row_failed}
use Rattle.gw_serve.proofs.worker.handle.Goals as goal

pub returns-in-Done : goal.returns-in-Done
returns-in-Done g c =
    let called = c.call_row-pass.new.row.called.items in
    row_all c.args.pass c.args.row.numbers.items called c.args.taken.now.items c.tell_all-is_wanting.new.taken.items c.args.left.now.items c.trouble_if.result c.call_row-pass.result.0
    c.trouble_if.ensures c.call_row-pass.ensures.called
    (subst (λ end. IsEnd (length c.args.row.numbers.items) (length called) end c.call_row-pass.result.0) c.in-Done.is c.call_row-pass.ensures.end)
    c.tell_all-is_wanting.ensures

pub returns-in-Failed : goal.returns-in-Failed
returns-in-Failed g c =
    let called = c.call_row-pass.new.row.called.items in
    row_failed c.args.pass c.args.row.numbers.items called c.args.taken.now.items c.tell_all-is_wanting.new.taken.items c.args.left.now.items c.args.left.now.items c.in-Failed.trouble c.call_row-pass.result.0
    c.call_row-pass.ensures.called
    (subst (λ end. IsEnd (length c.args.row.numbers.items) (length called) end c.call_row-pass.result.0) c.in-Failed.is c.call_row-pass.ensures.end)

pub returns : goal.returns
returns g c =
    let called = c.call_row-pass.new.row.called in
    let left = c.args.left.now.items in
    row_rest c.args.pass c.args.row.numbers.items called.items c.args.taken.now.items c.tell_all-is_wanting.new.taken.items left c.leave_rest.new.left.items c.trouble_if-in-Full.result c.call_row-pass.result.0
    c.trouble_if-in-Full.ensures c.call_row-pass.ensures.called c.tell_all-is_wanting.ensures
    (c.leave_rest.ensures ∙ ap (λ numbers. left ++ drop c.len-count.result numbers) (c.as_slice.ensures.value ∙ c.call_row-pass.ensures.numbers)
    ∙ ap (λ (n : ℕ). left ++ drop n c.args.row.numbers.items) (c.len-count.ensures ∙ called.ok.0))
