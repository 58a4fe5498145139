use Rattle.std.proofs.Common.{ℕ, ◌-◌, List, get_or, arith, sym, ap, ◌∙◌}
use Rattle.rep_digest.proofs.Drafting.{first_number, joins_last, behind_last}
use Rattle.rep_digest.proofs.draft.add_number.Goals as goal
use Rattle.rep_digest.proofs.draft.add_number.Goals.{then-count-gt0+else-touches, else-count-gt0}

pub returns-then-touches : goal.returns-then-touches
returns-then-touches c =
    let at = c.len-count.result - 1 in
    joins_last c.args.ranges.now c.replace.new.self at (get_or c.as_slice.result.now at (0, 0)) (0, 0) c.args.number (omega (arith, c.len-count.ensures, c.if-count-gt0.true))
    (ap (λ (rs : List (ℕ × ℕ)). get_or rs at (0, 0)) c.as_slice.ensures) (sym c.touches.ensures ∙ c.if-touches.true) c.replace.ensures

pub returns : goal.returns
returns c =
    let at = c.len-count.result - 1 in
    elim c.if-count-gt0.branch [
      | then-count-gt0+else-touches w ↦
          behind_last c.args.ranges.now c.push.new.self at (get_or w.as_slice.result.now at (0, 0)) (0, 0) c.args.number (omega (arith, c.len-count.ensures, w.if-count-gt0.true))
          (ap (λ (rs : List (ℕ × ℕ)). get_or rs at (0, 0)) w.as_slice.ensures) (sym w.touches.ensures ∙ w.if-touches.false) c.in_ok-push.ensures.ok
      | else-count-gt0 w ↦ first_number c.args.ranges.now c.push.new.self c.args.number (omega (arith, c.len-count.ensures, w.if-count-gt0.false)) c.in_ok-push.ensures.ok
    ]
