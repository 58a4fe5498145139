-- One operation more in the group of its client.
use Rattle.std.proofs.Common.{◌≡◌, ℕ, Bool, true, false, cond, if◌then◌else◌, List, [], ◌∷◌, ◌++◌, map, Option, Some, None, Ordering, Less, Equal, Greater, is_eq, refl, sym, ap, ◌∙◌, append-nil, append_assoc}
use Rattle.std.specs.Option.{option_map, unwrap_or}
use Rattle.std.specs.Map.{lookup}
use Rattle.std.specs.BTreeMap.{is_at}
use Rattle.std.specs.Ordering.{ordering_reverse}
use Rattle.std.specs.FinMap.{find}
use Rattle.std.specs.Cmp.{tied_itself}
use Rattle.std.proofs.lemmas.List.Elements.{filter-append}
use Rattle.std.proofs.lemmas.Map.Text.{is_eq-slice_cmp}
use Rattle.rep_op.specs.declared.op.Op.{Op}
use Rattle.rep_op.specs.Orders.{client_cmp, client_of}
use Rattle.rep_op.specs.Sets.{same_client}
use Rattle.rep_model.proofs.Readers.{client_total}
use Rattle.rep_shared.specs.Rows.{own, has_any}
use Rattle.rep_shared.specs.inner.Rows.{of_client}
use Rattle.rep_plain.specs.inner.Rows.{row_grown}
use Rattle.rep_shared.proofs.Maps.{lookup_is_find}
use Rattle.rep_shared.proofs.Found.{find_map}

-- a look-up in a map, read
pub look_up : {V : Type 0} (f : V → List Op) (c : List ℕ) (es : List (List ℕ × V)) (o : Option V) → o ≡ lookup (is_at (client_cmp c)) es → option_map f o ≡ find client_cmp c (map (λ e. (e.0, f e.1)) es)
look_up f c es o h = ap (option_map f) (h ∙ lookup_is_find client_cmp c es) ∙ sym (find_map client_cmp f c es)

behind : (c : List ℕ) (D : List Op) (op : Op) (b : Bool) → same_client c (client_of op) ≡ b → of_client c (D ++ op ∷ []) ≡ of_client c D ++ cond b (op ∷ []) []
behind c D op b e = filter-append (λ op. same_client c (client_of op)) D (op ∷ []) ∙ ap (λ b. of_client c D ++ cond b (op ∷ []) []) e

any_behind : (ops : List Op) (op : Op) → has_any (ops ++ op ∷ []) ≡ true
any_behind [] op = refl
any_behind (x ∷ ops) op = refl

or_own : (ops rest : List Op) → unwrap_or (if has_any rest then Some (ops ++ rest) else None) ops ≡ ops ++ rest
or_own ops [] = sym (append-nil ops)
or_own ops (x ∷ rest) = refl

same_self : (c : List ℕ) → same_client c c ≡ true
same_self c = sym (is_eq-slice_cmp c c) ∙ ap is_eq (tied_itself client_total c)

-- the client of the operation
pub grown_there : (rows : List (List ℕ × List Op)) (D : List Op) (op : Op) (c : List ℕ) (ops : List Op) → c ≡ client_of op → ops ≡ unwrap_or (row_grown c rows D) (own c rows) → Some (ops ++ op ∷ []) ≡ row_grown c rows (D ++ op ∷ [])
grown_there rows D op c ops is h =
    let more = behind c D op true (ap (same_client c) (sym is) ∙ same_self c) in
    let all : ops ++ op ∷ [] ≡ own c rows ++ (of_client c D ++ op ∷ []) = ap (λ ops. ops ++ op ∷ []) (h ∙ or_own (own c rows) (of_client c D)) ∙ append_assoc (own c rows) (of_client c D) (op ∷ []) in
    ap Some all
    ∙ ap (λ b. if b then Some (own c rows ++ (of_client c D ++ op ∷ [])) else None) (sym (any_behind (of_client c D) op))
    ∙ ap (λ rest. if has_any rest then Some (own c rows ++ rest) else None) (sym more)

-- another client
pub grown_apart : (rows : List (List ℕ × List Op)) (D : List Op) (op : Op) (c : List ℕ) → same_client c (client_of op) ≡ false → row_grown c rows D ≡ row_grown c rows (D ++ op ∷ [])
grown_apart rows D op c e = ap (λ rest. if has_any rest then Some (own c rows ++ rest) else None) (sym (behind c D op false e ∙ append-nil (of_client c D)))

pub not_same : (c client : List ℕ) (op : Op) → client ≡ client_of op → is_eq (client_cmp client c) ≡ false → same_client c (client_of op) ≡ false
not_same c client op is e = ap (same_client c) (sym is) ∙ sym (is_eq-slice_cmp c client) ∙ turned ∙ e
  where
    turned : is_eq (client_cmp c client) ≡ is_eq (client_cmp client c)
    turned = ap is_eq (client_total.antisymm c client) ∙ back (client_cmp client c)
      where
        back : (r : Ordering) → is_eq (ordering_reverse r) ≡ is_eq r
        back Less = refl
        back Equal = refl
        back Greater = refl
