-- When two sets are consistent together, and that consistency is no matter of order.
use Rattle.std.proofs.Common.{◌≡◌, List, ◌∷◌, ◌++◌, [], Option, Some, None, IfSome, Contains, sym, ap, ◌∙◌}
use Rattle.std.specs.List.{AllByRecursion}
use Rattle.std.proofs.lemmas.Bool.{or_left, or_right}
use Rattle.std.proofs.lemmas.List.Elements.{All-contains, All-from_recursion}
use Rattle.std.proofs.lemmas.Option.{same_Some}
use Rattle.rep_op.specs.declared.op.Op.{Op}
use Rattle.rep_op.specs.declared.op.Op.TheVariants.{Session as OfSession, Put as OfPut, Ack, Retain as OfRetain}
use Rattle.rep_op.specs.Orders.{clock_of}
use Rattle.rep_op.specs.Sets.{operation_at, put_at, is_acknowledged, retain_at, HasOperation, IsConsistent, Agrees, Same}
use Rattle.rep_model.proofs.Lookup.{or_else}
use Rattle.rep_model.proofs.Readers.{operation_at_both, put_at_both, is_acknowledged_both, retain_at_both}
use Rattle.rep_model.proofs.Joins.{all-both, all-right, all-weaker, all-moved, same-elements}

-- the first of the two is x, or there is none and the second is
behind : {X : Type 0} (a b : Option X) (x : X) → IfSome a (λ y. y ≡ x) → b ≡ Some x → or_else a b ≡ Some x
behind None b x h e = e
behind (Some y) b x h e = ap Some h

first_is : {X : Type 0} (a b : Option X) (x : X) → or_else a b ≡ Some x → IfSome a (λ y. y ≡ x)
first_is None b x e = tt
first_is (Some y) b x e = same_Some y x e

module _ (K D : List Op) where
  stands-left : (op : Op) → HasOperation K op → HasOperation (K ++ D) op
  stands-left (OfSession c stamp counter change) h = operation_at_both c K D (stamp, counter) ∙ ap (λ a. or_else a (operation_at c D (stamp, counter))) h
  stands-left (OfPut c put) h = put_at_both c K D (put.seq, put.origin) ∙ ap (λ a. or_else a (put_at c D (put.seq, put.origin))) h
  stands-left (Ack c origin first last) h = λ seq a b. is_acknowledged_both c K D (seq, origin) ∙ or_left (is_acknowledged c K (seq, origin)) (is_acknowledged c D (seq, origin)) (h seq a b)
  stands-left (OfRetain t kept) h = retain_at_both t K D (clock_of kept) ∙ ap (λ a. or_else a (retain_at t D (clock_of kept))) h

  stands-right : (op : Op) → (Agrees K op × HasOperation D op) → HasOperation (K ++ D) op
  stands-right (OfSession c stamp counter change) h = operation_at_both c K D (stamp, counter) ∙ behind (operation_at c K (stamp, counter)) (operation_at c D (stamp, counter)) change h.0 h.1
  stands-right (OfPut c put) h = put_at_both c K D (put.seq, put.origin) ∙ behind (put_at c K (put.seq, put.origin)) (put_at c D (put.seq, put.origin)) put h.0 h.1
  stands-right (Ack c origin first last) h = λ seq a b. is_acknowledged_both c K D (seq, origin) ∙ or_right (is_acknowledged c K (seq, origin)) (is_acknowledged c D (seq, origin)) (h.1 seq a b)
  stands-right (OfRetain t kept) h = retain_at_both t K D (clock_of kept) ∙ behind (retain_at t K (clock_of kept)) (retain_at t D (clock_of kept)) kept h.0 h.1

  agrees-from : (op : Op) → HasOperation (K ++ D) op → Agrees K op
  agrees-from (OfSession c stamp counter change) h = first_is (operation_at c K (stamp, counter)) (operation_at c D (stamp, counter)) change (sym (operation_at_both c K D (stamp, counter)) ∙ h)
  agrees-from (OfPut c put) h = first_is (put_at c K (put.seq, put.origin)) (put_at c D (put.seq, put.origin)) put (sym (put_at_both c K D (put.seq, put.origin)) ∙ h)
  agrees-from (Ack c origin first last) h = tt
  agrees-from (OfRetain t kept) h = first_is (retain_at t K (clock_of kept)) (retain_at t D (clock_of kept)) kept (sym (retain_at_both t K D (clock_of kept)) ∙ h)

  paired : (P Q : Op → Type 0) (xs : List Op) → AllByRecursion P xs → AllByRecursion Q xs → AllByRecursion (λ op. P op × Q op) xs
  paired P Q [] f g = tt
  paired P Q (x ∷ xs) f g = ((f.0, g.0), paired P Q xs f.1 g.1)

  pub consistent-together : IsConsistent K → IsConsistent D → AllByRecursion (Agrees K) D → IsConsistent (K ++ D)
  consistent-together k d a = all-both (HasOperation (K ++ D)) K D (all-weaker (HasOperation K) (HasOperation (K ++ D)) stands-left K k)
      (all-weaker (λ op. Agrees K op × HasOperation D op) (HasOperation (K ++ D)) stands-right D (paired (Agrees K) (HasOperation D) D a d))

  pub consistent-agrees : IsConsistent (K ++ D) → AllByRecursion (Agrees K) D
  consistent-agrees h = all-weaker (HasOperation (K ++ D)) (Agrees K) agrees-from D (all-right (HasOperation (K ++ D)) K D h)

-- what stands in a set stands in each equal set
stands-same : (A B : List Op) → Same A B → (op : Op) → HasOperation A op → HasOperation B op
stands-same A B s (OfSession c stamp counter change) h = sym (s.operations_same c (stamp, counter)) ∙ h
stands-same A B s (OfPut c put) h = sym (s.puts_same c (put.seq, put.origin)) ∙ h
stands-same A B s (Ack c origin first last) h = λ seq a b. sym (s.acknowledgements_same c (seq, origin)) ∙ h seq a b
stands-same A B s (OfRetain t kept) h = sym (s.retains_same t (clock_of kept)) ∙ h

-- a list of the same operations is consistent too
pub consistent-elements : (A B : List Op) → IsConsistent A → ((op : Op) → Contains A op → Contains B op) → ((op : Op) → Contains B op → Contains A op) → IsConsistent B
consistent-elements A B k f g = all-moved (HasOperation B) B (λ op h. stands-same A B (same-elements A B k f g) op (All-contains (HasOperation A) A op (All-from_recursion (HasOperation A) A k) (g op h)))
