use Rattle.std.proofs.Common.{◌≡◌, true, false, nat_lt, nat_le, List, length, take, drop, arith, length-drop, sym, ap, subst, ◌∙◌}
use Rattle.std.specs.List.{AllByRecursion, list_any}
use Rattle.rep_op.specs.declared.op.Put.{Put}
use Rattle.rep_op.specs.Orders.{name_of}
use Rattle.rep_log.specs.Mail.{covers, Rising}
use Rattle.rep_entry.specs.Spans.{IsFreeOutside}
use Rattle.rep_entry.proofs.Spans.{before_span, behind_span, free_there, free_empty, take_every, drop_every, rising_drop}
use Rattle.rep_entry.proofs.span.between.Goals as goal

pub returns-then-is_empty-clause-front : goal.returns-then-is_empty-clause-front
returns-then-is_empty-clause-front c =
    λ ranges rising free.
    let ps = c.args.puts.now in
    take_every (λ p. list_any (covers (name_of p)) ranges ≡ false) ps (length ps) (free_empty c.args.span ranges (c.is_empty.ensures c.if-is_empty.true) ps free)

pub returns-then-is_empty-clause-back : goal.returns-then-is_empty-clause-back
returns-then-is_empty-clause-back c =
    λ ranges rising free.
    let ps = c.args.puts.now in
    let P : Put → Type 0 = λ p. list_any (covers (name_of p)) ranges ≡ false in
    drop_every P (drop (length ps) ps) 0 (drop_every P ps (length ps) (free_empty c.args.span ranges (c.is_empty.ensures c.if-is_empty.true) ps free))

pub returns-clause-bound : goal.returns-clause-bound
returns-clause-bound c =
    let ps = c.args.puts.now in
    let from = c.count_below-from.result in
    let within = c.count_below-from.ensures.bound in
    let long = ap (λ (xs : List Put). length xs) c.split_at.ensures.back ∙ length-drop from ps in
    let rest = c.count_up_to-count.ensures.bound in
    omega (arith, within, long, rest)

pub returns-clause-front : goal.returns-clause-front
returns-clause-front c =
    λ ranges rising free.
    let ps = c.args.puts.now in
    let span = c.args.span in
    let from = c.count_below-from.result in
    free_there span ranges (λ p. nat_lt p.seq span.first ≡ true) (λ p e. before_span span p.seq e) (take from ps) (c.count_below-from.ensures.below rising) (take_every (IsFreeOutside span ranges) ps from free)

pub returns-clause-back : goal.returns-clause-back
returns-clause-back c =
    λ ranges rising free.
    let ps = c.args.puts.now in
    let span = c.args.span in
    let from = c.count_below-from.result in
    let count = c.count_up_to-count.result in
    let rest = drop from ps in
    let is = c.split_at.ensures.back in
    let above = subst (λ (xs : List Put). AllByRecursion (λ p. nat_le p.seq span.last ≡ false) (drop count xs)) is (c.count_up_to-count.ensures.above (subst Rising (sym is) (rising_drop ps from rising))) in
    free_there span ranges (λ p. nat_le p.seq span.last ≡ false) (λ p e. behind_span span p.seq e) (drop count rest) above (drop_every (IsFreeOutside span ranges) rest count (drop_every (IsFreeOutside span ranges) ps from free))
