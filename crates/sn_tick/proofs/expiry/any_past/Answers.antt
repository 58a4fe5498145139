-- Before the least moment nothing is past.
use Rattle.std.proofs.Common.{List, sym, ap, ◌∙◌}
use Rattle.std.specs.List.{list_any}
use Rattle.rep_op.specs.declared.op.Put.{Put}
use Rattle.rep_model.specs.Moments.{is_past}
use Rattle.sn_tick.proofs.expiry.any_past.Goals as goal

pub returns-then-may : goal.returns-then-may
returns-then-may c = c.each_past.ensures ∙ ap (λ (ps : List Put). list_any (is_past c.args.now) ps) c.as_slice.ensures

pub returns-else-may : goal.returns-else-may
returns-else-may c = sym (c.may_be_past-may.ensures c.if-may.false)
