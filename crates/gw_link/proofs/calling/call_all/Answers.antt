-- The first of the calls are asked, as many as are claimed.
use Rattle.std.proofs.Common.{map, take, sym, subst}
use Rattle.std.specs.Arc.{arc_value}
use Rattle.std.proofs.lemmas.List.{take-map}
use Rattle.gw_answer.specs.Answers.{said}
use Rattle.gw_shift.specs.Calling.{MadeInRow}
use Rattle.gw_link.proofs.Adding.{adds_row, made_front}
use Rattle.gw_link.proofs.calling.call_all.Goals as goal

pub returns-in-Ok-clause-made : goal.returns-in-Ok-clause-made
returns-in-Ok-clause-made g c =
    let claimed = c.claim_all-claimed.result in
    let steps = map arc_value c.args.steps.now in
    let answers = map said c.in-Ok.answers.items in (
      c.in-Ok.number,
      made_front c.args.pass c.in-Ok.pass claimed c.in-Ok.number steps answers
          (subst (λ xs. MadeInRow c.args.pass xs answers c.in-Ok.number c.in-Ok.pass) (sym (take-map arc_value claimed c.args.steps.now)) c.in-Ok.ensures.ok),
    )

pub returns-in-Ok-clause-adds : goal.returns-in-Ok-clause-adds
returns-in-Ok-clause-adds g c = λ is are.
    let claimed = c.claim_all-claimed.result in
    let steps = map arc_value c.args.steps.now in
    let answers = map said c.in-Ok.answers.items in
    adds_row is c.args.pass steps answers c.in-Ok.number c.in-Ok.pass are
    (made_front c.args.pass c.in-Ok.pass claimed c.in-Ok.number steps answers
    (subst (λ xs. MadeInRow c.args.pass xs answers c.in-Ok.number c.in-Ok.pass) (sym (take-map arc_value claimed c.args.steps.now)) c.in-Ok.ensures.ok))
