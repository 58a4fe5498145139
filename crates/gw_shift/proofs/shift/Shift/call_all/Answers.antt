use Rattle.std.proofs.Common.{◌≡◌, ◌+◌, ◌-◌, ◌<◌, ◌++◌, length, map, ap, ◌∙◌, arith}
use Rattle.std.specs.Arc.{arc_value}
use Rattle.std.proofs.lemmas.List.{length-map}
use Rattle.gw_answer.specs.Answers.{said}
use Rattle.gw_shift.specs.Passes.{last_of}
use Rattle.gw_shift.proofs.Holding.{holds_row}
use Rattle.gw_shift.proofs.shift.Shift.call_all.Goals as goal

pub invariant_of-pass-in-Ok-entered : goal.invariant_of-pass-in-Ok-entered
invariant_of-pass-in-Ok-entered g c =
    let entered = c.in-Ok-entered.ensures.ok in
    let row = c.in-Ok-entered.row in
    let calls = c.pass.inside.calls.items in
    let later : last_of 0 calls < c.in-Ok-entered.number = omega (arith, entered.later, ap (λ xs. last_of 0 xs) c.reserve.ensures.items) in
    let long = length-map row.answers.items said in
    let end : c.in-Ok-entered.number + (c.len.result - 1) + 1 ≡ c.in-Ok-entered.number + length (map said row.answers.items) = omega (arith, c.len.ensures, row.answers.ok.0, long, entered.some) in
    holds_row calls c.move_behind.new.there.items row.held.items (map arc_value c.args.steps.now) (map said row.answers.items) c.in-Ok-entered.number (c.in-Ok-entered.number + (c.len.result - 1))
    c.pass.invariant.0 later c.in-Ok-entered.ensures.held
    (c.move_behind.ensures.items ∙ ap (λ xs. xs ++ row.held.items) c.reserve.ensures.items)
    entered.some entered.few end
