use Rattle.std.proofs.Common.{subst, refl}
use Rattle.rep_op.specs.Orders.{HasTwice}
use Rattle.rep_ops.specs.Making.{AreWellMade}
use Rattle.rep_ops.proofs.Making.{sorted_from, sorted_apart, joined_made, memory_alone}
use Rattle.rep_op.proofs.Sets.{twice_permutation}
use Rattle.rep_ops.proofs.delta.canonical.Goals as goal

pub returns-then-has_twice-clause-twice : goal.returns-then-has_twice-clause-twice
returns-then-has_twice-clause-twice c =
    let made = subst AreWellMade c.as_slice.ensures.value (c.if-not-are_well_made.ensures.made.0 refl) in
    let twice = subst HasTwice c.as_slice-2.ensures.value (c.has_twice.ensures.twice c.if-has_twice.true) in
    (λ _. (made, twice_permutation c.args.ops.items c.sort_by_name.new.ops.items c.sort_by_name.ensures.same twice), λ _. refl)

pub returns-clause-ok : goal.returns-clause-ok
returns-clause-ok c =
    let s = sorted_from c.args.ops.items c.as_slice.result.now c.sort_by_name.new.ops.items c.as_slice-2.result.now
    c.as_slice.ensures.value (c.if-not-are_well_made.ensures.made.0 refl) (c.if-not-are_well_made.ensures.values refl) c.sort_by_name.ensures.same c.sort_by_name.ensures.sorted
    c.as_slice-2.ensures.value (c.has_twice.ensures.once c.if-has_twice.false) in
    joined_made c.args.ops.items c.sort_by_name.new.ops.items c.in_ok-joined.joined.items s c.in_ok-joined.ensures

pub returns-clause-twice : goal.returns-clause-twice
returns-clause-twice c =
    let s = sorted_from c.args.ops.items c.as_slice.result.now c.sort_by_name.new.ops.items c.as_slice-2.result.now
    c.as_slice.ensures.value (c.if-not-are_well_made.ensures.made.0 refl) (c.if-not-are_well_made.ensures.values refl) c.sort_by_name.ensures.same c.sort_by_name.ensures.sorted
    c.as_slice-2.ensures.value (c.has_twice.ensures.once c.if-has_twice.false) in (
      λ e. absurd cc,
      λ h. absurd ((sorted_apart c.args.ops.items c.sort_by_name.new.ops.items s).once h.1),
    )

pub returns-in_err-joined-clause-twice : goal.returns-in_err-joined-clause-twice
returns-in_err-joined-clause-twice c =
    let s = sorted_from c.args.ops.items c.as_slice.result.now c.sort_by_name.new.ops.items c.as_slice-2.result.now
    c.as_slice.ensures.value (c.if-not-are_well_made.ensures.made.0 refl) (c.if-not-are_well_made.ensures.values refl) c.sort_by_name.ensures.same c.sort_by_name.ensures.sorted
    c.as_slice-2.ensures.value (c.has_twice.ensures.once c.if-has_twice.false) in (
      λ e. absurd (memory_alone c.from_residual.result c.from_residual.ensures.1 e),
      λ h. absurd ((sorted_apart c.args.ops.items c.sort_by_name.new.ops.items s).once h.1),
    )
