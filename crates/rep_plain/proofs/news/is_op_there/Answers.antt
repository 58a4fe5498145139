use Rattle.std.proofs.Common.{is_some, sym, ap, ◌∙◌}
use Rattle.rep_plain.specs.inner.Tables.{is_op_there}
use Rattle.rep_plain.proofs.Found.{is_some_copied}
use Rattle.rep_plain.proofs.news.is_op_there.Goals as goal

pub returns-in-Session : goal.returns-in-Session
returns-in-Session c = c.is_some.ensures ∙ is_some_copied c.operation_at.result ∙ ap is_some c.operation_at.ensures ∙ ap (is_op_there c.args.ops.now) (sym c.in-Session.is)
