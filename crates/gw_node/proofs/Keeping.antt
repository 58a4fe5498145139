-- How what is kept follows what was taken.
use Rattle.std.proofs.Common.{◌≡◌, ◌⊎◌, List, [], ◌++◌, Option, Some, None, Contains, sym, ◌∙◌, inl, inr, subst}
use Rattle.std.proofs.lemmas.List.Elements.{Contains-append_left, Contains-append_right}
use Rattle.rep_op.specs.declared.op.Op.{Op}
use Rattle.rep_op.specs.declared.op.Op.TheVariants.{Session as OfSession, Put as OfPut, Retain as OfRetain}
use Rattle.rep_op.specs.Orders.{clock_of}
use Rattle.rep_op.specs.Sets.{operation_at, put_at, retain_at}
use Rattle.rep_model.specs.Keep.{IsKeptOf}
use Rattle.rep_model.proofs.Joins.{counts-refl, counts-join}
use Rattle.rep_model.proofs.Lookup.{or_else}
use Rattle.rep_model.proofs.Readers.{operation_at_both, put_at_both, retain_at_both}
use Rattle.gw_node.specs.Keeping.{Keeps}
use Rattle.gw_node.proofs.Occurring.{operation_occurs, put_occurs, retain_occurs}

pub keeps_nothing : Keeps [] []
keeps_nothing = record {
  counts = counts-refl [];
  operations_taken = λ c name change found. operation_occurs c [] name change found;
  puts_taken = λ c name put found. put_occurs c [] name put found;
  retains_taken = λ t name last found. retain_occurs t [] name last found;
}

in_either : {X : Type 0} (a b : Option X) (x : X) → or_else a b ≡ Some x → (a ≡ Some x) ⊎ (b ≡ Some x)
in_either None b x e = inr e
in_either (Some y) b x e = inl e

-- what is kept after a delta was taken
pub keeps_more : (S K D L : List Op) → Keeps S K → IsKeptOf (K ++ D) L → Keeps (S ++ D) L
keeps_more S K D L k h = record {
  counts = counts-join S K D L k.counts h;
  operations_taken = λ c name change found.
      let both = sym (operation_at_both c K D name) ∙ h.upper.operations_in c name change found in
      elim (in_either (operation_at c K name) (operation_at c D name) change both) as (λ _. Contains (S ++ D) (OfSession c name.0 name.1 change)) [
        | inl e ↦ Contains-append_left S D _ (k.operations_taken c name change e)
        | inr e ↦ Contains-append_right S D _ (operation_occurs c D name change e)
      ];
  puts_taken = λ c name put found.
      let both = sym (put_at_both c K D name) ∙ h.upper.puts_in c name put found in
      elim (in_either (put_at c K name) (put_at c D name) put both) as (λ _. Contains (S ++ D) (OfPut c put) × ((put.seq, put.origin) ≡ name)) [
        | inl e ↦ let p = k.puts_taken c name put e in (Contains-append_left S D _ p.0, p.1)
        | inr e ↦ let p = put_occurs c D name put e in (Contains-append_right S D _ p.0, p.1)
      ];
  retains_taken = λ t name last found.
      let both = sym (retain_at_both t K D name) ∙ h.upper.retains_in t name last found in
      elim (in_either (retain_at t K name) (retain_at t D name) last both) as (λ _. Contains (S ++ D) (OfRetain t last) × (clock_of last ≡ name)) [
        | inl e ↦ let p = k.retains_taken t name last e in (Contains-append_left S D _ p.0, p.1)
        | inr e ↦ let p = retain_occurs t D name last e in (Contains-append_right S D _ p.0, p.1)
      ];
}

-- where nothing is kept, nothing was taken
pub keeps_none : (kept : List Op) → kept ≡ [] → Keeps [] kept
keeps_none kept none = subst (λ (K : List Op). Keeps [] K) (sym none) keeps_nothing
