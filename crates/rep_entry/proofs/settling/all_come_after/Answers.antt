use Rattle.std.proofs.Common.{sym, ◌∙◌}
use Rattle.rep_entry.proofs.Names.{woven_behind, woven_none}
use Rattle.rep_entry.proofs.settling.all_come_after.Goals as goal

pub returns-in-None : goal.returns-in-None
returns-in-None c = λ _. woven_none c.args.waiting.now c.args.news.now c.in-None.ensures.value

pub returns-in-Some : goal.returns-in-Some
returns-in-Some c = λ behind. woven_behind c.args.waiting.now c.args.news.now c.in-Some.last.now c.requires (sym c.in-Some.ensures.value) (sym c.are_behind.ensures ∙ behind)
