-- Sorted and joined, operations are the delta of their set.
use Rattle.std.proofs.Common.{◌≡◌, List, length, Result, Ok, Err, subst, sym, arith, IsErrAnd}
use Rattle.std.specs.Prelude.{IfOk, IfErr}
use Rattle.std.specs.Global.{Vec}
use Rattle.std.specs.List.{AllAdjacentBelow}
use Rattle.std.specs.List.Sorted.{IsPermutation, IsSortedBy}
use Rattle.std.specs.Ordering.{is_lt}
use Rattle.std.specs.Prelude.{IsTrue}
use Rattle.std.proofs.lemmas.List.Elements.{All-from_recursion, recursion_from_All}
use Rattle.std.proofs.lemmas.List.Sorted.{All-permutation, IsPermutation-sym}
use Rattle.rep_op.specs.declared.fault.OpsFault.{OpsFault}
use Rattle.rep_op.specs.declared.fault.OpsFault.TheVariants.{Memory, Twice}
use Rattle.rep_op.specs.declared.op.Op.{Op}
use Rattle.rep_op.specs.Orders.{ShareName, name_cmp}
use Rattle.rep_op.specs.declared.op.Op.TheVariants.{Session as OfSession, Put as OfPut, Ack, Retain as OfRetain}
use Rattle.rep_ops.specs.inner.Joining.{united, joined_ops}
use Rattle.rep_ops.specs.Making.{AreWellMade, HaveOwnNames, IsDeltaOf}
use Rattle.rep_op.specs.Values.{IsOpValue, AreValues}
use Rattle.rep_op.specs.WellMade.{is_well_made}
use Rattle.rep_ops.proofs.Joining.{all_joined}
use Rattle.rep_ops.proofs.Joined.{delta_joined, same_joined}
use Rattle.rep_ops.proofs.Rising.{rising_from, rising_apart}
use Rattle.rep_op.proofs.Sets.{twice_permutation, same_permutation, Same-sym, Same-trans}

pub made_permutation : (xs ys : List Op) → IsPermutation xs ys → AreWellMade xs → AreWellMade ys
made_permutation xs ys p h =
    recursion_from_All (λ op. IsTrue (is_well_made op)) ys (All-permutation (λ op. IsTrue (is_well_made op)) xs ys p (All-from_recursion (λ op. IsTrue (is_well_made op)) xs h))

values_permutation : (xs ys : List Op) → IsPermutation xs ys → AreValues xs → AreValues ys
values_permutation xs ys p h = recursion_from_All IsOpValue ys (All-permutation IsOpValue xs ys p (All-from_recursion IsOpValue xs h))

united_value : (a b : Op) → IsOpValue a → IsOpValue b → IsOpValue (united a b)
united_value (OfSession c s i o) b ha hb = ha
united_value (OfPut c p) b ha hb = ha
united_value (OfRetain t k) b ha hb = ha
united_value (Ack c r f l) (OfSession d t j o) ha hb = ha
united_value (Ack c r f l) (OfPut d q) ha hb = ha
united_value (Ack c r f l) (OfRetain u k) ha hb = ha
united_value (Ack c r f l) (Ack d s g m) ha hb = (ha.0, ha.1, ha.2, let x = ha.3 in let y = hb.3 in omega arith)

pub record Sorted (xs ys : List Op) : Type 0 where
  pub made : AreWellMade xs
  pub values : AreValues xs
  pub same : IsPermutation xs ys
  pub sorted : IsSortedBy (λ a b. is_lt (name_cmp a b)) ys
  pub once : AllAdjacentBelow (λ a b. ¬ (ShareName a b)) ys (length ys)

pub sorted_apart : (xs ys : List Op) → Sorted xs ys → HaveOwnNames xs
sorted_apart xs ys s =
    let up = rising_from ys (made_permutation xs ys s.same s.made) s.sorted s.once in
    record { well_made = s.made; once = λ t. rising_apart 0 ys up (twice_permutation ys xs (IsPermutation-sym xs ys s.same) t) }

pub sorted_delta : (xs ys : List Op) → Sorted xs ys → IsDeltaOf xs (joined_ops ys)
sorted_delta xs ys s =
    let made = made_permutation xs ys s.same s.made in
    let apart = sorted_apart xs ys s in
    record {
      delta = delta_joined ys made s.sorted;
      same = Same-trans (joined_ops ys) ys xs (same_joined ys made s.sorted) (Same-sym xs ys (same_permutation xs ys s.same apart.once));
    }

sorted_values : (xs ys : List Op) → Sorted xs ys → AreValues (joined_ops ys)
sorted_values xs ys s = all_joined IsOpValue united_value ys (values_permutation xs ys s.same s.values)

pub joined_made : (xs ys out : List Op) → Sorted xs ys → out ≡ joined_ops ys → HaveOwnNames xs × IsDeltaOf xs out × AreValues out
joined_made xs ys out s h = (sorted_apart xs ys s, subst (λ (d : List Op). IsDeltaOf xs d) (sym h) (sorted_delta xs ys s), subst AreValues (sym h) (sorted_values xs ys s))

pub memory_alone : {T : Type 0} (r : Result T OpsFault) → IsErrAnd r (λ fault. fault ≡ Memory) → r ≡ Err Twice → ⊥
memory_alone (Ok x) h e = absurd cc
memory_alone (Err f) h e = absurd cc

-- what the two tests and the sort say
pub sorted_from : (xs seen ys again : List Op) → seen ≡ xs → AreWellMade seen → AreValues seen → IsPermutation xs ys → IsSortedBy (λ a b. is_lt (name_cmp a b)) ys
    → again ≡ ys → AllAdjacentBelow (λ a b. ¬ (ShareName a b)) again (length again) → Sorted xs ys
sorted_from xs seen ys again e made values same sorted f once = record {
  made = subst AreWellMade e made;
  values = subst AreValues e values;
  same = same;
  sorted = sorted;
  once = subst (λ (zs : List Op). AllAdjacentBelow (λ a b. ¬ (ShareName a b)) zs (length zs)) f once;
}
