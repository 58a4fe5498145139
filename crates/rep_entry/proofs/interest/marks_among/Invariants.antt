use Rattle.std.proofs.Common.{take}
use Rattle.rep_entry.specs.Interests.{AskWithin}
use Rattle.rep_entry.proofs.interest.marks_among.Given as goal

abbrev pub invariant-loop-subscription : goal.invariant-loop-subscription
invariant-loop-subscription l = AskWithin l.marks (take l.subscription-index l.subscriptions)
