use Rattle.std.proofs.Common.{sym, arith}
use Rattle.std.proofs.lemmas.Grind.{common_steps}
use Rattle.sn_topic.proofs.Cuts.{levels_whole, levels_cut}
use Rattle.br_map.proofs.level.first_level.Goals as goal

pub returns-in-None : goal.returns-in-None
returns-in-None c = levels_whole c.args.octets.now (sym c.in-None.ensures)

pub returns-in-Some : goal.returns-in-Some
returns-in-Some c =
    let cut = levels_cut c.args.octets.now c.in-Some.end (sym c.in-Some.ensures) in
    grind (arith, common_steps)
