use Rattle.toml.specs.View.{table_view}
use Rattle.gw_main.proofs.parsing.with_shown.Goals as goal

pub returns-in-Err-clause-err : goal.returns-in-Err-clause-err
returns-in-Err-clause-err c = c.in-Err.ensures.err c.args.plain c.requires.plain c.args.lists c.requires.lists

pub returns-in-Ok-clause-ok : goal.returns-in-Ok-clause-ok
returns-in-Ok-clause-ok c = c.joined.ensures (table_view c.args.table.now) c.requires.plain c.requires.lists c.in-Ok.ensures.ok
