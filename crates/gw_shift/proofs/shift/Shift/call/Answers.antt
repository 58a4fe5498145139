use Rattle.std.proofs.Common.{◌<◌, ◌∷◌, [], ◌++◌, ap, ◌∙◌, arith}
use Rattle.std.specs.Arc.{arc_value}
use Rattle.gw_answer.specs.Answers.{said}
use Rattle.gw_shift.specs.Calls.{Held}
use Rattle.gw_shift.specs.Passes.{last_of, held_as}
use Rattle.gw_shift.proofs.Holding.{holds_more}
use Rattle.gw_shift.proofs.shift.Shift.call.Goals as goal

pub invariant_of-pass-in-Ok-answer : goal.invariant_of-pass-in-Ok-answer
invariant_of-pass-in-Ok-answer g c =
    let made : Held = held_as c.in-Ok-entered.number (arc_value c.in-Ok.shared) (said c.in-Ok-entered.kept) in
    let later : last_of 0 c.pass.inside.calls.items < made.number = omega (arith, c.in-Ok-entered.ensures.ok.later, ap (λ xs. last_of 0 xs) c.reserve.ensures.items) in
    holds_more c.pass.inside.calls.items c.push_reserved.new.self.items made c.pass.invariant.0 later
    (c.push_reserved.ensures.items ∙ ap (λ xs. xs ++ made ∷ []) c.reserve.ensures.items)

pub invariant_of-pass-in-Err-answer : goal.invariant_of-pass-in-Err-answer
invariant_of-pass-in-Err-answer g c =
    let made : Held = held_as c.in-Ok-entered.number (arc_value c.in-Ok.shared) (said c.in-Ok-entered.kept) in
    let later : last_of 0 c.pass.inside.calls.items < made.number = omega (arith, c.in-Ok-entered.ensures.ok.later, ap (λ xs. last_of 0 xs) c.reserve.ensures.items) in
    holds_more c.pass.inside.calls.items c.push_reserved.new.self.items made c.pass.invariant.0 later
    (c.push_reserved.ensures.items ∙ ap (λ xs. xs ++ made ∷ []) c.reserve.ensures.items)
