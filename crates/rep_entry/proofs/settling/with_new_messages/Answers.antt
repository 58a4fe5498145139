use Rattle.std.proofs.Common.{◌==◌, length, sym, ap, ◌∙◌, List}
use Rattle.rep_op.specs.declared.op.Put.{Put}
use Rattle.rep_entry.proofs.Applied.{empty_woven}
use Rattle.rep_entry.proofs.settling.with_new_messages.Goals as goal

pub returns-then-is_empty : goal.returns-then-is_empty
returns-then-is_empty c = empty_woven c.args.waiting.items c.args.news.items (sym (ap (λ (ns : List Put). length ns == 0) c.as_slice.ensures.value) ∙ sym c.is_empty.ensures ∙ c.if-is_empty.true)
