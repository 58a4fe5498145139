use Rattle.std.proofs.Common.{arith}
use Rattle.rep_entry.proofs.Spans.{none_within}
use Rattle.rep_entry.proofs.span.Span.none.Goals as goal

pub returns : goal.returns
returns c = λ number. none_within _ number (omega arith)
