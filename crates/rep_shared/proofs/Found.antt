-- Look-ups in lists of entries, and one operation against the rows.
use Rattle.std.proofs.Common.{◌≡◌, ℕ, Bool, true, false, cond, List, [], ◌∷◌, map, Option, Some, None, is_some, T, refl, sym, ap, ◌∙◌, subst, Ordering, Less, Equal, Greater, ◌&&◌, IfSome, Contains, true≢false}
use Rattle.std.specs.Option.{option_map}
use Rattle.std.specs.List.{AllByRecursion}
use Rattle.std.specs.List.Sorted.{IsStrictlySortedBy}
use Rattle.std.specs.Ordering.{eq_by_cmp, is_lt}
use Rattle.std.specs.Map.{keys_of}
use Rattle.std.specs.FinMap.{find, put, is_sorted}
use Rattle.std.specs.FinMap.Entries.{below_all, by_order}
use Rattle.std.proofs.lemmas.Map.Keys.{sorted_head, sorted_tail}
use Rattle.rep_op.specs.declared.op.Op.{Op}
use Rattle.rep_op.specs.declared.op.Stamp.{Stamp}
use Rattle.rep_op.specs.declared.op.Op.TheVariants.{Session as OfSession, Put as OfPut, Ack, Retain as OfRetain}
use Rattle.rep_op.specs.Orders.{client_of, clock_of}
use Rattle.rep_op.specs.Sets.{operation_at, put_at, retain_at, Agrees}
use Rattle.rep_model.specs.Taking.{IsFaultOf}
use Rattle.rep_model.specs.declared.fault.TakeFault.{TakeFault}
use Rattle.rep_model.specs.declared.fault.TakeFault.TheVariants.{Conflict, Full, Memory}
use Rattle.rep_shared.specs.Rows.{flat, own}
use Rattle.rep_shared.specs.inner.Rows.{AreRows}
use Rattle.rep_shared.specs.inner.Tables.{IsRefusalOf}
use Rattle.rep_shared.proofs.Single.{operation_at_own, put_at_own, retain_at_own}
use Rattle.rep_shared.proofs.Flat.{of_flat}

pub none_there : {X : Type 0} (o : Option X) → is_some o ≡ false → o ≡ None
none_there None h = refl
none_there (Some x) h = absurd (true≢false h)

-- a look-up among values that are read
pub find_map : {K V X : Type 0} (R : K → K → Ordering) (f : V → X) (k : K) (es : List (K × V)) → find R k (map (λ e. (e.0, f e.1)) es) ≡ option_map f (find R k es)
find_map R f k [] = refl
find_map R f k (e ∷ es) =
    elim (eq_by_cmp R k e.0) as (λ b. cond b (Some (f e.1)) (find R k (map (λ e. (e.0, f e.1)) es)) ≡ option_map f (cond b (Some e.1) (find R k es))) [ true ↦ refl | false ↦ find_map R f k es ]

-- the order of the keys is the order of the entries
below_from_keys : {K X : Type 0} (R : K → K → Ordering) (k : K) (es : List (K × X)) → AllByRecursion (λ y. R k y ≡ Less) (keys_of es) → T (below_all R k es)
below_from_keys R k [] h = tt
below_from_keys R k (e ∷ es) h = both (is_lt (R k e.0)) (below_all R k es) (subst (λ r. T (is_lt r)) (sym h.0) tt) (below_from_keys R k es h.1)
  where
    both : (a b : Bool) → T a → T b → T (a && b)
    both true b p q = q
    both false b p q = p

pub sorted_from_keys : {K X : Type 0} (R : K → K → Ordering) (es : List (K × X)) → IsStrictlySortedBy R (keys_of es) → T (is_sorted R es)
sorted_from_keys R [] h = tt
sorted_from_keys R (e ∷ es) h = both (below_all R e.0 es) (is_sorted R es) (below_from_keys R e.0 es (sorted_head R e.0 (keys_of es) h)) (sorted_from_keys R es (sorted_tail R e.0 (keys_of es) h))
  where
    both : (a b : Bool) → T a → T b → T (a && b)
    both true b p q = q
    both false b p q = p

pub below_map : {K V X : Type 0} (R : K → K → Ordering) (f : V → X) (k : K) (es : List (K × V)) → below_all R k (map (λ e. (e.0, f e.1)) es) ≡ below_all R k es
below_map R f k [] = refl
below_map R f k (e ∷ es) = ap (λ b. is_lt (R k e.0) && b) (below_map R f k es)

pub sorted_map : {K V X : Type 0} (R : K → K → Ordering) (f : V → X) (es : List (K × V)) → is_sorted R (map (λ e. (e.0, f e.1)) es) ≡ is_sorted R es
sorted_map R f [] = refl
sorted_map R f (e ∷ es) = λ i. below_map R f e.0 es i && sorted_map R f es i

pub map_put : {K V X : Type 0} (R : K → K → Ordering) (f : V → X) (k : K) (v : V) (es : List (K × V)) → map (λ e. (e.0, f e.1)) (put R k v es) ≡ put R k (f v) (map (λ e. (e.0, f e.1)) es)
map_put R f k v [] = refl
map_put R f k v (e ∷ es) =
    elim (R k e.0) as (λ r. map (λ e. (e.0, f e.1)) (by_order r ((k, v) ∷ e ∷ es) ((e.0, v) ∷ es) (e ∷ put R k v es)) ≡ by_order r ((k, f v) ∷ (e.0, f e.1) ∷ map (λ e. (e.0, f e.1)) es) ((e.0, f v) ∷ map (λ e. (e.0, f e.1)) es) ((e.0, f e.1) ∷ put R k (f v) (map (λ e. (e.0, f e.1)) es))) [
      | Less ↦ refl
      | Equal ↦ refl
      | Greater ↦ ap (λ rest. (e.0, f e.1) ∷ rest) (map_put R f k v es)
    ]

-- ---- one operation against the rows

module _ (rows : List (List ℕ × List Op)) (are : AreRows rows) where
  pub operation_row : (c : List ℕ) (name : Stamp × ℕ) → operation_at c (flat rows) name ≡ operation_at c (own c rows) name
  operation_row c name = operation_at_own c (flat rows) name ∙ ap (λ S. operation_at c S name) (of_flat c rows are)

  pub put_row : (c : List ℕ) (name : ℕ × ℕ) → put_at c (flat rows) name ≡ put_at c (own c rows) name
  put_row c name = put_at_own c (flat rows) name ∙ ap (λ S. put_at c S name) (of_flat c rows are)

  pub retain_row : (t : List ℕ) (name : ℕ × ℕ) → retain_at t (flat rows) name ≡ retain_at t (own [] rows) name
  retain_row t name = retain_at_own (flat rows) t name ∙ ap (λ S. retain_at t S name) (of_flat [] rows are)

  pub agrees_flat : (op : Op) → Agrees (own (client_of op) rows) op → Agrees (flat rows) op
  agrees_flat (OfSession c stamp counter change) h = subst (λ o. IfSome o (λ kept. kept ≡ change)) (sym (operation_row c (stamp, counter))) h
  agrees_flat (OfPut c p) h = subst (λ o. IfSome o (λ kept. kept ≡ p)) (sym (put_row c (p.seq, p.origin))) h
  agrees_flat (Ack c origin low high) h = tt
  agrees_flat (OfRetain t k) h = subst (λ o. IfSome o (λ stood. stood ≡ k)) (sym (retain_row t (clock_of k))) h

  pub agrees_own : (op : Op) → Agrees (flat rows) op → Agrees (own (client_of op) rows) op
  agrees_own (OfSession c stamp counter change) h = subst (λ o. IfSome o (λ kept. kept ≡ change)) (operation_row c (stamp, counter)) h
  agrees_own (OfPut c p) h = subst (λ o. IfSome o (λ kept. kept ≡ p)) (put_row c (p.seq, p.origin)) h
  agrees_own (Ack c origin low high) h = tt
  agrees_own (OfRetain t k) h = subst (λ o. IfSome o (λ stood. stood ≡ k)) (retain_row t (clock_of k)) h

-- a refusal of one operation refuses the delta
pub refused : (K D : List Op) (op : Op) (fault : TakeFault) → Contains D op → IsRefusalOf K op fault → IsFaultOf K D fault
refused K D op (Conflict about) here h = (op, here, h.0, h.1)
refused K D op (Full limit) here h = absurd h
refused K D op Memory here h = tt
