use Rattle.std.proofs.Common.{◌≡◌, ◌<◌, length}
use Rattle.br_core.specs.declared.state.Bridge.{Bridge}
use Rattle.br_core.specs.Sides.{sends, item_sent}
use Rattle.br_core.proofs.Seats.{on-ok}
use Rattle.br_core.proofs.Sending.{fewer-wait, first-gone}
use Rattle.br_core.proofs.sides.sends_first.Goals as goal

pub returns-clause-left : goal.returns-clause-left
returns-clause-left c =
    let first : Bridge = item_sent c.in-Some.item.qos c.in-Some.item (record c.args.bridge.now { waiting = c.take_first.new.self }) in
    on-ok c.sent.result (c.sent.new.bridge ≡ first) (sends c.args.settings.now c.sent.new.bridge ≡ sends c.args.settings.now c.args.bridge.now)
    (λ e. first-gone c.args.settings.now c.in-Some.item c.take_first.new.self c.args.bridge.now c.sent.new.bridge c.in-Some.ensures c.requires e) c.sent.ensures

pub returns-clause-fewer : goal.returns-clause-fewer
returns-clause-fewer c =
    let first : Bridge = item_sent c.in-Some.item.qos c.in-Some.item (record c.args.bridge.now { waiting = c.take_first.new.self }) in
    on-ok c.sent.result (c.sent.new.bridge ≡ first) (length c.sent.new.bridge.waiting < length c.args.bridge.now.waiting)
    (λ e. fewer-wait c.in-Some.item c.take_first.new.self c.args.bridge.now c.sent.new.bridge c.in-Some.ensures e) c.sent.ensures
