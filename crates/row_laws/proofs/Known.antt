-- A gateway has its own session operations before any other.
use Rattle.std.proofs.Common.{◌≡◌, ℕ, ◌||◌, List, ◌++◌, Option, Some, None, IfSome, sym, ap, ◌∙◌, subst}
use Rattle.std.specs.FinMap.{find}
use Rattle.std.proofs.lemmas.Option.{none-some}
use Rattle.rep_op.specs.declared.op.Stamp.{Stamp}
use Rattle.rep_op.specs.declared.op.Op.{Op}
use Rattle.rep_op.specs.Orders.{operation_cmp}
use Rattle.rep_op.specs.Sets.{operation_at, put_at, is_acknowledged, retain_at, Same}
use Rattle.rep_model.proofs.Lookup.{or_else}
use Rattle.rep_model.proofs.Readers.{operation_at_both, put_at_both, is_acknowledged_both, retain_at_both}
use Rattle.sn_plan.specs.declared.plan.Plan.{Plan}
use Rattle.sn_plan.specs.Drafts.{Drafted}
use Rattle.sn_local.specs.Seen.{Seen, seen_of}
use Rattle.sn_plan.specs.Plans.{plan_of}
use Rattle.sn_plan.specs.Own.{AddsNothingOwn}
use Rattle.sn_plan.specs.Flush.{stamp_of, IsFlush}
use Rattle.row_laws.proofs.Names.{plan-apart}
use Rattle.row_laws.proofs.Carried.{written-fresh}
use Rattle.row_laws.proofs.Outcomes.{parts, operations-alone}
use Rattle.sn_plan.proofs.Standing.{fresh-absent}

second : {X : Type 0} (a b : Option X) (x : X) → b ≡ Some x → IfSome b (λ _. a ≡ None) → or_else a b ≡ Some x
second a None x e h = absurd (none-some x e)
second a (Some y) x e h = ap (λ o. or_else o (Some y)) h ∙ e

first : {X : Type 0} (a b : Option X) (x : X) → a ≡ Some x → or_else a b ≡ Some x
first a b x e = ap (λ o. or_else o b) e

pub known-own : (g : ℕ) (c : List ℕ) (S : List Op) (d : Drafted) (plan : Plan) → IsFlush g c S → plan_of g c (seen_of S) d ≡ Some plan → (delta : List Op) → Same delta plan.ops → (e : List ℕ) → AddsNothingOwn g e (S ++ delta) delta
known-own g c S d plan flush planned delta same e epoch counter change is =
    let p = parts g c S d plan planned in
    let name : Stamp × ℕ = (stamp_of epoch g, counter) in
    let there : operation_at e delta name ≡ operation_at e p.w.ops name = same.operations_same e name ∙ ap (find operation_cmp name) (operations-alone g c S d plan planned e p) in
    let absent : IfSome (operation_at e delta name) (λ _. operation_at e S name ≡ None) = subst (λ o. IfSome o (λ _. operation_at e S name ≡ None)) (sym there) (fresh-absent S p.w.ops (written-fresh g c S flush d.changes p.w p.is_written) e name) in
    operation_at_both e S delta name ∙ second (operation_at e S name) (operation_at e delta name) change is absent

pub known-others : (g : ℕ) (c : List ℕ) (seen : Seen) (d : Drafted) (plan : Plan) → plan_of g c seen d ≡ Some plan → (delta : List Op) → Same delta plan.ops → (other : ℕ) → ¬ (other ≡ g) → (e : List ℕ) (S : List Op) → AddsNothingOwn other e S delta
known-others g c seen d plan planned delta same other h e S epoch counter change is =
    absurd (none-some change (sym (same.operations_same e (stamp_of epoch other, counter) ∙ plan-apart g c seen d plan planned other e h epoch counter) ∙ is))

pub known-stays : (g : ℕ) (c : List ℕ) (S D more : List Op) → AddsNothingOwn g c S D → AddsNothingOwn g c (S ++ more) D
known-stays g c S D more known epoch counter change is =
    operation_at_both c S more (stamp_of epoch g, counter) ∙ first (operation_at c S (stamp_of epoch g, counter)) (operation_at c more (stamp_of epoch g, counter)) change (known epoch counter change is)

pub same-behind : (S ops delta : List Op) → Same delta ops → Same (S ++ delta) (S ++ ops)
same-behind S ops delta same = record {
  operations_same = λ c name. operation_at_both c S delta name ∙ ap (or_else (operation_at c S name)) (same.operations_same c name) ∙ sym (operation_at_both c S ops name);
  puts_same = λ c name. put_at_both c S delta name ∙ ap (or_else (put_at c S name)) (same.puts_same c name) ∙ sym (put_at_both c S ops name);
  acknowledgements_same = λ c name. is_acknowledged_both c S delta name ∙ ap (λ b. is_acknowledged c S name || b) (same.acknowledgements_same c name) ∙ sym (is_acknowledged_both c S ops name);
  retains_same = λ t name. retain_at_both t S delta name ∙ ap (or_else (retain_at t S name)) (same.retains_same t name) ∙ sym (retain_at_both t S ops name);
}
