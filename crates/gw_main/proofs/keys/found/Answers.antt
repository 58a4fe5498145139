use Rattle.toml.proofs.Views.{table_get}
use Rattle.gw_main.proofs.keys.found.Goals as goal

pub returns : goal.returns
returns c = table_get c.get.result c.args.name.now c.args.table.now.entries c.get.ensures.value
