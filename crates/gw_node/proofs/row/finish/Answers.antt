use Rattle.std.proofs.Common.{length, map, ap, arith}
use Rattle.std.specs.Arc.{arc_value}
use Rattle.gw_node.specs.Parts.{state_of}
use Rattle.gw_node.proofs.Rows.{went_runs}
use Rattle.gw_node.proofs.Finishing.{first_said, finished, some_said}
use Rattle.gw_node.proofs.row.finish.Goals as goal

pub go_on-requires-clause-room : goal.go_on-requires-clause-room
go_on-requires-clause-room g c =
    let items = ap length c.push_reserved.ensures.items in
    let none = ap length c.requires.room.0 in
    let room = c.requires.room.1 in
    let capacity = c.push_reserved.ensures.capacity in
    omega (arith, items, none, room, capacity)

pub end_row-requires-clause-runs : goal.end_row-requires-clause-runs
end_row-requires-clause-runs g c =
    went_runs (state_of g.R.Replica.kept c.args.node.now) (state_of g.R.Replica.kept c.go_on.new.node) (map arc_value c.args.rest.now) c.push_reserved.new.self.items c.go_on.new.replies.items c.args.begun.row.unwritten.records c.go_on.new.unwritten.records
    c.requires.runs c.go_on.ensures.calls

pub end_row-requires-clause-some : goal.end_row-requires-clause-some
end_row-requires-clause-some g c = some_said c.args.begun.answer c.go_on.new.replies.items c.push_reserved.new.self.items c.go_on.ensures.calls.replies (first_said c.args.begun.answer c.args.replies.items c.push_reserved.new.self.items c.requires.room.0 c.push_reserved.ensures.items) c.go_on.ensures.calls.answers_are

pub returns : goal.returns
returns g c =
    finished (state_of g.R.Replica.kept c.args.node.now) (state_of g.R.Replica.kept c.go_on.new.node) (state_of g.R.Replica.kept c.end_row.new.node) (g.R.Replica.back c.args.node.now.replica c.args.begun.row.unwritten.aside) (g.R.Replica.back c.go_on.new.node.replica c.go_on.new.unwritten.aside)
    c.args.begun.row.dialogs.local c.args.begun.row.unwritten.records c.go_on.new.unwritten.records c.args.begun.excuse c.args.begun.answer (map arc_value c.args.rest.now) c.push_reserved.new.self.items c.go_on.new.replies.items c.end_row.result.items
    (first_said c.args.begun.answer c.args.replies.items c.push_reserved.new.self.items c.requires.room.0 c.push_reserved.ensures.items) c.go_on.ensures.back c.go_on.ensures.calls c.end_row.ensures
