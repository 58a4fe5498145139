use Rattle.std.proofs.Common.{◌≡◌, ◌++◌, take}
use Rattle.rep_log.specs.Kept.{of_mail}
use Rattle.rep_state.proofs.held.push_mail.Given as goal

abbrev pub invariant-loop-put : goal.invariant-loop-put
invariant-loop-put l = l.kept.items ≡ l.fn.kept.items ++ of_mail l.client (take l.put-index l.puts)
