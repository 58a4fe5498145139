-- to those that were gone over it is told, what is left stays
use Rattle.std.proofs.Common.{◌≡◌, ◌++◌, map, take, drop, Result, Err}
use Rattle.gw_answer.specs.declared.out.Out.{Out}
use Rattle.gw_answer.specs.declared.refusal.Refusal.{Refusal}
use Rattle.gw_answer.specs.declared.refusal.Refusal.TheVariants as refusals
use Rattle.gw_node.proofs.row.halt_all.Given as goal

abbrev pub invariant-loop-reply : goal.invariant-loop-reply
invariant-loop-reply l =
    l.reply-items ≡ map (λ (reply : Result Out Refusal). Err refusals.Halted) (take l.reply-index l.fn.replies.items) ++ drop l.reply-index l.fn.replies.items
