-- What is kept of a client are well made operations of its own.
use Rattle.std.proofs.Common.{◌≡◌, ℕ, ◌+◌, ◌≤◌, Bool, true, false, not, cond, ◌&&◌, nat_le, if◌then◌else◌, List, [], ◌∷◌, ◌++◌, map, Option, Some, None, IsTrue, T, refl, sym, ap, ◌∙◌, subst, arith, le-leb, leb-true, true≢false, Ordering}
use Rattle.std.specs.Cmp.Derive.{both_true}
use Rattle.std.specs.List.{AllByRecursion}
use Rattle.std.specs.Ordering.{eq_by_cmp}
use Rattle.std.specs.FinMap.{find, is_sorted}
use Rattle.std.proofs.lemmas.Option.{same_Some}
use Rattle.std.proofs.lemmas.Map.Lookups.{CmpEqualImpliesEq}
use Rattle.std.proofs.lemmas.Map.Views.{tells_apart}
use Rattle.sn_session.specs.declared.change.SessionOp.{SessionOp}
use Rattle.rep_op.specs.declared.op.Stamp.{Stamp}
use Rattle.rep_op.specs.declared.op.Put.{Put}
use Rattle.rep_op.specs.declared.op.Retained.{Retained}
use Rattle.rep_op.specs.declared.op.Op.{Op}
use Rattle.rep_op.specs.declared.op.Op.TheVariants.{Session as OfSession, Put as OfPut, Ack, Retain as OfRetain}
use Rattle.rep_op.specs.Orders.{operation_cmp}
use Rattle.rep_op.specs.Ranges.{is_change}
use Rattle.rep_op.specs.WellMade.{is_stamp, is_counted}
use Rattle.rep_model.specs.Keep.{is_below}
use Rattle.rep_model.specs.Ranges.{AreApartFrom}
use Rattle.rep_model.specs.Views.{named}
use Rattle.rep_model.proofs.Readers.{operation_total, operation_exact}
use Rattle.rep_model.proofs.Joins.{all-both, all-weaker}
use Rattle.rep_shared.specs.Rows.{IsOwnOp, IsOwn}
use Rattle.rep_shared.proofs.Counting.{all_found}
use Rattle.rep_shared.proofs.Flat.{named_client}
use Rattle.rep_log.specs.Logs.{IsKeptIn}
use Rattle.rep_log.specs.Mail.{Range}
use Rattle.rep_log.specs.Origins.{ranges_in, IsOrigin, AreOrigins}
use Rattle.rep_log.specs.Kept.{of_log, of_mail, of_acks, kept_ops}
use Rattle.rep_entry.specs.Entries.{AreChanges, AreMade}

own_log : (c : List ℕ) (es : List ((Stamp × ℕ) × SessionOp)) → AreChanges es → IsOwn c (of_log c es)
own_log c [] h = tt
own_log c (e ∷ es) h = ((refl, h.0), own_log c es h.1)

own_mail : (c : List ℕ) (ps : List Put) → AreMade ps → IsOwn c (of_mail c ps)
own_mail c [] h = tt
own_mail c (p ∷ ps) h = ((refl, h.0), own_mail c ps h.1)

named_range : (c : List ℕ) (o : ℕ) (r : ℕ × ℕ) → r.0 ≤ r.1 → named (Ack c o r.0 r.1) ≡ Some (c, c)
named_range c o r h = ap (λ b. if◌then◌else◌ {A = Option (List ℕ × List ℕ)} b (Some (c, c)) None) (le-leb r.0 r.1 h)

own_ranges : (c : List ℕ) (o k : ℕ) (rs : List (ℕ × ℕ)) → 1 ≤ o → 1 ≤ k → AreApartFrom k rs → IsOwn c (of_acks c (map (λ r. (o, r)) rs))
own_ranges c o k [] low from h = tt
own_ranges c o k (r ∷ rs) low from h = (
  (named_range c o r h.1, both_true (both_true (le-leb 1 o low) (le-leb 1 r.0 (let a = h.0 in omega (arith, from, a)))) (le-leb r.0 r.1 h.1)),
  own_ranges c o (r.1 + 2) rs low (omega arith) h.2,
)

acks_both : (c : List ℕ) (xs ys : List Range) → of_acks c (xs ++ ys) ≡ of_acks c xs ++ of_acks c ys
acks_both c [] ys = refl
acks_both c (x ∷ xs) ys = ap (λ rest. Ack c x.0 x.1.0 x.1.1 ∷ rest) (acks_both c xs ys)

own_acks : (c : List ℕ) (os : List (ℕ × List (ℕ × ℕ))) → AllByRecursion (λ o. IsOrigin o.0 o.1) os → IsOwn c (of_acks c (ranges_in os))
own_acks c [] h = tt
own_acks c (o ∷ os) h = subst (IsOwn c) (sym (acks_both c (map (λ r. (o.0, r)) o.1) (ranges_in os)))
    (all-both (IsOwnOp c) (of_acks c (map (λ r. (o.0, r)) o.1)) (of_acks c (ranges_in os)) (own_ranges c o.0 1 o.1 h.0.0 (omega arith) h.0.1) (own_acks c os h.1))

pub own_row : (c : List ℕ) (es : List ((Stamp × ℕ) × SessionOp)) (ps : List Put) (os : List (ℕ × List (ℕ × ℕ))) → AreChanges es → AreMade ps → AreOrigins os → IsOwn c (kept_ops c es ps (ranges_in os))
own_row c es ps os changes made origins =
    all-both (IsOwnOp c) (of_log c es) (of_mail c ps ++ of_acks c (ranges_in os)) (own_log c es changes)
    (all-both (IsOwnOp c) (of_mail c ps) (of_acks c (ranges_in os)) (own_mail c ps made) (own_acks c os origins.apart))

-- ---- what holds of each entry holds of the one that is found

none_some : {A P : Type 0} (x : A) → None ≡ Some x → P
none_some x h = cc

pub found_holds : {K X : Type 0} (R : K → K → Ordering) → CmpEqualImpliesEq R → (P : K → X → Type 0) (q : K) (x : X) (es : List (K × X)) → AllByRecursion (λ e. P e.0 e.1) es → find R q es ≡ Some x → P q x
found_holds R exact P q x [] h is = none_some x is
found_holds R exact P q x (e ∷ es) h is =
    elim (eq_by_cmp R q e.0) as (λ b. eq_by_cmp R q e.0 ≡ b → cond b (Some e.1) (find R q es) ≡ Some x → P q x) [
      | true ↦ λ t is. subst (λ k. P k x) (sym (tells_apart exact q e.0 t)) (subst (P e.0) (same_Some e.1 x is) h.0)
      | false ↦ λ _ is. found_holds R exact P q x es h.1 is
    ] refl is

kept_some : {X : Type 0} (b : Bool) (o : Option X) (x : X) → cond b o None ≡ Some x → o ≡ Some x
kept_some true o x e = e
kept_some false o x e = none_some x e

IsChange : Stamp × ℕ → SessionOp → Type 0
IsChange name x = IsTrue (is_stamp name.0 && is_counted name.1 x && is_change x)

pub changes_kept : (es more : List ((Stamp × ℕ) × SessionOp)) (stamp : Option Stamp) → IsKeptIn es more stamp → T (is_sorted operation_cmp more) → AreChanges es → AreChanges more
unfolding IsChange
changes_kept es more stamp kept sorted h =
    all-weaker (λ (e : (Stamp × ℕ) × SessionOp). find operation_cmp e.0 more ≡ Some e.1) (λ (e : (Stamp × ℕ) × SessionOp). IsChange e.0 e.1)
    (λ e found. found_holds operation_cmp operation_exact IsChange e.0 e.1 es h (kept_some (not (is_below e.0.0 stamp)) (find operation_cmp e.0 es) e.1 (sym (kept.found e.0) ∙ found)))
    more (all_found operation_cmp operation_total more sorted)

-- ---- an operation by its client

pub session_op : (c d : List ℕ) (s : Stamp) (k : ℕ) (x : SessionOp) (op : Op) → op ≡ OfSession d s k x → named op ≡ Some (c, c) → OfSession c s k x ≡ op
session_op c d s k x op is own = ap (λ e. OfSession e s k x) (sym (named_client c (OfSession d s k x) (ap named (sym is) ∙ own))) ∙ sym is

pub put_op : (c d : List ℕ) (p : Put) (op : Op) → op ≡ OfPut d p → named op ≡ Some (c, c) → OfPut c p ≡ op
put_op c d p op is own = ap (λ e. OfPut e p) (sym (named_client c (OfPut d p) (ap named (sym is) ∙ own))) ∙ sym is

pub ack_op : (c d : List ℕ) (o first last : ℕ) (op : Op) → op ≡ Ack d o first last → named op ≡ Some (c, c) → Ack c o first last ≡ op
ack_op c d o first last op is own = ap (λ e. Ack e o first last) (sym (named_client c (Ack d o first last) (ap named (sym is) ∙ own))) ∙ sym is

-- what is retained is no client's
pub no_own : {P : Type 0} (c t : List ℕ) (k : Retained) (op : Op) → op ≡ OfRetain t k → named op ≡ Some (c, c) → P
no_own c t k op is own = none_some (c, c) (ap named (sym is) ∙ own)

and_first : (a b : Bool) → (a && b) ≡ true → a ≡ true
and_first true b e = refl
and_first false b e = e

and_second : (a b : Bool) → (a && b) ≡ true → b ≡ true
and_second true b e = e
and_second false b e = absurd (true≢false (sym e))

-- what the well made acknowledgements begin with
pub ack_made : (o first last : ℕ) → IsTrue (nat_le 1 o && nat_le 1 first && nat_le first last) → (1 ≤ o) × (1 ≤ first) × (first ≤ last)
ack_made o first last h =
    let front = and_first (nat_le 1 o && nat_le 1 first) (nat_le first last) h in (
      leb-true 1 o (and_first (nat_le 1 o) (nat_le 1 first) front),
      leb-true 1 first (and_second (nat_le 1 o) (nat_le 1 first) front),
      leb-true first last (and_second (nat_le 1 o && nat_le 1 first) (nat_le first last) h),
    )
