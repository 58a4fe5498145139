use Rattle.std.proofs.Common.{sym, ap, ◌∙◌}
use Rattle.rep_entry.specs.Entries.{messages}
use Rattle.rep_entry.proofs.Newcomers.{messages_are}
use Rattle.rep_entry.proofs.news.News.into_puts.Goals as goal

pub returns : goal.returns
returns c = sym (messages_are c.self.inside.puts.items) ∙ ap messages c.self.view_is
