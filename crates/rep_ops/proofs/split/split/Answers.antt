use Rattle.std.proofs.Common.{ℕ, [], ◌∷◌, ◌++◌, ◌≤◌, ◌<◌, sym, ap, subst, ◌∙◌}
use Rattle.rep_ops.proofs.Splitting.{no_part, part_delta, parts_are, no_items, roomy, next_part, longer_part, last_part, no_last_part, is_no_part, is_some_part}
use Rattle.rep_ops.specs.Splitting.{IsSplit}
use Rattle.rep_ops.proofs.split.split.Goals as goal
use Rattle.rep_ops.proofs.split.split.Goals.{then-size-gt-MAX_OCTETS+in_default, else-size-gt-MAX_OCTETS, then-not-is_empty+in_ok-close, else-not-is_empty}

pub loop-op-init : goal.loop-op-init
loop-op-init c =
    rw (c.new-deltas.ensures.items, c.new-part.ensures.items)
    (no_part c.args.ops.items c.into_iter-op-iterator.result.rest.items c.of_none-measure.result c.into_iter-op-iterator.ensures.into_iter_gives.0 c.of_none-measure.ensures)

pub with_op-longer-requires-clause-one : goal.with_op-longer-requires-clause-one
with_op-longer-requires-clause-one c = (roomy c.loop-op.measure c.loop-op.part.items c.loop-op.invariant.measured c.loop-op.invariant.small).0

pub with_op-longer-requires-clause-two : goal.with_op-longer-requires-clause-two
with_op-longer-requires-clause-two c = (roomy c.loop-op.measure c.loop-op.part.items c.loop-op.invariant.measured c.loop-op.invariant.small).1

pub close-requires-clause-delta : goal.close-requires-clause-delta
close-requires-clause-delta c =
    (part_delta c.args.ops.items c.loop-op.deltas.items c.loop-op.part.items c.loop-op.op-iterator.rest.items c.loop-op.measure c.requires c.loop-op.invariant).0

pub close-requires-clause-limit : goal.close-requires-clause-limit
close-requires-clause-limit c =
    (part_delta c.args.ops.items c.loop-op.deltas.items c.loop-op.part.items c.loop-op.op-iterator.rest.items c.loop-op.measure c.requires c.loop-op.invariant).1

pub close-requires-clause-values : goal.close-requires-clause-values
close-requires-clause-values c =
    (part_delta c.args.ops.items c.loop-op.deltas.items c.loop-op.part.items c.loop-op.op-iterator.rest.items c.loop-op.measure c.requires c.loop-op.invariant).2

pub loop-op-preserved : goal.loop-op-preserved
loop-op-preserved c =
    let steps = c.in-Some.ensures.steps.0 in
    let part = c.loop-op.part.items in
    let op = c.in-Some.op in
    let longer = c.with_op-longer.ensures.measure part c.loop-op.invariant.measured in
    let octets = c.octets-size.ensures (part ++ op ∷ []) longer in
    elim c.if-size-gt-MAX_OCTETS.branch [
      | then-size-gt-MAX_OCTETS+in_default w ↦
          parts_are c.args.ops.items c.if-size-gt-MAX_OCTETS.deltas.items (c.loop-op.deltas.items ++ part ∷ []) c.push.new.out.items (op ∷ []) c.next.new.self.rest.items
          c.if-size-gt-MAX_OCTETS.longer w.of_one-longer.result
          (ap (λ v. v.items) w.deltas-is ∙ w.in_default.ensures.deltas)
          (c.in_ok-push.ensures ∙ ap (λ v. v.items ++ op ∷ []) w.part-is ∙ ap (λ xs. xs ++ op ∷ []) w.in_default.ensures.part)
          w.longer-is
          (next_part c.args.ops.items c.loop-op.deltas.items part c.loop-op.op-iterator.rest.items c.loop-op.measure op c.next.new.self.rest.items w.of_one-longer.result
          c.loop-op.invariant steps (subst (λ (n : ℕ). 8388608 < n) octets w.if-size-gt-MAX_OCTETS.true) w.of_one-longer.ensures.measure w.of_one-longer.ensures.small c.is_value.ensures)
      | else-size-gt-MAX_OCTETS w ↦
          parts_are c.args.ops.items c.if-size-gt-MAX_OCTETS.deltas.items c.loop-op.deltas.items c.push.new.out.items (part ++ op ∷ []) c.next.new.self.rest.items
          c.if-size-gt-MAX_OCTETS.longer c.with_op-longer.result
          (ap (λ v. v.items) w.deltas-is)
          (c.in_ok-push.ensures ∙ ap (λ v. v.items ++ op ∷ []) w.part-is)
          w.longer-is
          (longer_part c.args.ops.items c.loop-op.deltas.items part c.loop-op.op-iterator.rest.items c.loop-op.measure op c.next.new.self.rest.items c.with_op-longer.result
          c.loop-op.invariant steps (subst (λ (n : ℕ). n ≤ 8388608) octets w.if-size-gt-MAX_OCTETS.false) longer c.is_value.ensures)
    ]

pub close-requires-then-not-is_empty-clause-delta : goal.close-requires-then-not-is_empty-clause-delta
close-requires-then-not-is_empty-clause-delta c =
    (part_delta c.args.ops.items c.loop-op.deltas.items c.loop-op.part.items c.loop-op.op-iterator.rest.items c.loop-op.measure c.requires c.loop-op.invariant).0

pub close-requires-then-not-is_empty-clause-limit : goal.close-requires-then-not-is_empty-clause-limit
close-requires-then-not-is_empty-clause-limit c =
    (part_delta c.args.ops.items c.loop-op.deltas.items c.loop-op.part.items c.loop-op.op-iterator.rest.items c.loop-op.measure c.requires c.loop-op.invariant).1

pub close-requires-then-not-is_empty-clause-values : goal.close-requires-then-not-is_empty-clause-values
close-requires-then-not-is_empty-clause-values c =
    (part_delta c.args.ops.items c.loop-op.deltas.items c.loop-op.part.items c.loop-op.op-iterator.rest.items c.loop-op.measure c.requires c.loop-op.invariant).2

pub returns : goal.returns
returns c =
    let part = c.loop-op.part.items in
    let rest = c.loop-op.op-iterator.rest.items in
    let deltas = c.loop-op.deltas.items in
    let left = no_items c.loop-op.op-iterator.rest.len c.loop-op.op-iterator.rest.items c.in-None.ensures.steps.0 c.loop-op.op-iterator.rest.ok.0 in
    elim c.if-not-is_empty.branch [
      | then-not-is_empty+in_ok-close w ↦
          subst (IsSplit c.args.ops.items) (sym (ap (λ v. v.items) w.deltas-is ∙ w.in_ok-close.ensures.deltas))
          (last_part c.args.ops.items deltas part rest c.loop-op.measure c.loop-op.invariant left (is_some_part c.loop-op.part.len part w.if-not-is_empty.ensures c.loop-op.part.ok.0))
      | else-not-is_empty w ↦
          subst (IsSplit c.args.ops.items) (sym (ap (λ v. v.items) w.deltas-is))
          (no_last_part c.args.ops.items deltas part rest c.loop-op.measure c.loop-op.invariant left (is_no_part c.loop-op.part.len part w.if-not-is_empty.ensures c.loop-op.part.ok.0))
    ]
