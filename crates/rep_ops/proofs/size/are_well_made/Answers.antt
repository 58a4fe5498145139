use Rattle.std.proofs.Common.{All, refl, subst, sym, ◌∙◌}
use Rattle.std.specs.Prelude.{IsTrue}
use Rattle.std.proofs.lemmas.List.Elements.{recursion_from_All, All-more}
use Rattle.std.proofs.lemmas.List.{take_all}
use Rattle.rep_op.specs.Values.{IsOpValue}
use Rattle.rep_op.specs.WellMade.{is_well_made}
use Rattle.rep_ops.proofs.size.are_well_made.Goals as goal

pub returns-clause-made : goal.returns-clause-made
returns-clause-made c =
    (λ _. recursion_from_All (λ op. IsTrue (is_well_made op)) c.args.ops.now (subst (All (λ op. IsTrue (is_well_made op))) (take_all c.loop-op.op-index c.args.ops.now c.loop-op-test.false) c.loop-op.invariant.made), λ _. refl)

pub returns-clause-values : goal.returns-clause-values
returns-clause-values c = λ _. recursion_from_All IsOpValue c.args.ops.now (subst (All IsOpValue) (take_all c.loop-op.op-index c.args.ops.now c.loop-op-test.false) c.loop-op.invariant.values)

pub loop-op-preserved : goal.loop-op-preserved
loop-op-preserved c = record {
  made =
      let one = sym c.is_well_made.ensures ∙ c.if-not-is_well_made.false in
      All-more (λ op. IsTrue (is_well_made op)) c.args.ops.now c.loop-op.op-index c.op-item.result c.loop-op-test.true c.loop-op.invariant.made (subst (λ op. IsTrue (is_well_made op)) c.op-item.is one);
  values =
      All-more IsOpValue c.args.ops.now c.loop-op.op-index c.op-item.result c.loop-op-test.true c.loop-op.invariant.values (subst IsOpValue c.op-item.is c.is_value.ensures);
}
