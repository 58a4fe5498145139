use Rattle.gw_node.proofs.Writes.{written_all_as}
use Rattle.gw_node.proofs.row.write_all.Goals as goal

pub returns : goal.returns
returns g c =
    written_all_as c.args.journal.now c.append_all.new.self c.args.records.now c.append_all.result c.requires
    (record {
      halted = c.append_all.ensures.halted;
      same = c.append_all.ensures.same;
      generation = c.append_all.ensures.generation;
      fault = c.append_all.ensures.faults;
      goes_on = c.append_all.ensures.goes_on;
      halts = c.append_all.ensures.halts;
      counts = c.append_all.ensures.counts;
      cause = c.append_all.ensures.cause;
      exact = c.append_all.ensures.exact;
      durable = c.append_all.ensures.durable;
      torn = c.append_all.ensures.torn;
      struck = c.append_all.ensures.struck;
      known = c.append_all.ensures.known;
    })
