-- What the rows are once a delta is taken.
use Rattle.std.proofs.Common.{◌≡◌, ℕ, ◌≤◌, Bool, true, false, not, cond, ◌&&◌, ◌||◌, ◌==◌, if◌then◌else◌, nat_le, List, [], ◌∷◌, ◌++◌, filter, Option, Some, None, is_some, IfSome, refl, sym, ap, ◌∙◌, true≢false, arith, append-nil, leb-true, eqb-true, eq-eqb, le-leb}
use Rattle.std.specs.Cmp.Derive.{both_true}
use Rattle.std.specs.List.{filter_map, list_any, AllByRecursion}
use Rattle.std.specs.FinMap.{find}
use Rattle.std.specs.FinMap.Entries.{find-where_key}
use Rattle.std.proofs.lemmas.List.Elements.{filter-append}
use Rattle.sn_session.specs.declared.change.SessionOp.{SessionOp}
use Rattle.rep_op.specs.declared.op.Stamp.{Stamp}
use Rattle.rep_op.specs.declared.op.Put.{Put}
use Rattle.rep_op.specs.declared.op.Retained.{Retained}
use Rattle.rep_op.specs.declared.op.Op.{Op}
use Rattle.rep_op.specs.declared.op.Op.TheVariants.{Session as OfSession, Put as OfPut, Ack, Retain as OfRetain}
use Rattle.rep_op.specs.Orders.{client_cmp, client_of, operation_cmp, put_cmp, clock_of, clock_cmp}
use Rattle.rep_op.specs.Sets.{same_client, operation_of, operation_at, put_of, put_at, acknowledges, is_acknowledged, same_topic, retain_of, retain_at, Same}
use Rattle.rep_model.specs.Views.{visible}
use Rattle.rep_model.specs.Topics.{latest}
use Rattle.rep_model.specs.Keep.{is_below, is_outdone, IsKeptOf}
use Rattle.rep_model.proofs.Lookup.{or_else, filter_map-filter, list_any-filter, list_any-weaker}
use Rattle.rep_model.proofs.Readers.{operation_exact, put_exact, same_client-true, operation_at_both, put_at_both, is_acknowledged_both, retain_at_both, operation_at_keep, put_at_keep, is_acknowledged_keep, retain_at_keep}
use Rattle.rep_shared.specs.Rows.{flat, own, or_nothing, rows_with, has_any, IsOwn}
use Rattle.rep_shared.specs.inner.Rows.{AreRows, of_client}
use Rattle.rep_plain.specs.inner.Rows.{IsGrown}
use Rattle.rep_plain.specs.inner.Tables.{has_range, is_op_there}
use Rattle.rep_shared.proofs.Single.{operation_at_own, put_at_own, is_acknowledged_own, retain_at_own}
use Rattle.rep_shared.proofs.Flat.{of_flat, find_in_moved, rows_moved}

-- ---- what is kept of a set

some_kept : {X : Type 0} (b : Bool) (o : Option X) (x : X) → cond b o None ≡ Some x → o ≡ Some x
some_kept true o x e = e
some_kept false o x e = none_some x e
  where
    none_some : {A P : Type 0} (x : A) → None ≡ Some x → P
    none_some x h = cc

-- an equal set lies between what is kept and the set
pub kept_same : (A S : List Op) → Same A S → IsKeptOf S A
kept_same A S same = record {
  lower = record {
    operations_in = λ c name change e. same.operations_same c name ∙ some_kept (not (is_below name.0 (visible c S))) (operation_at c S name) change (sym (operation_at_keep c S name) ∙ e);
    puts_in = λ c name put e. same.puts_same c name ∙ some_kept (not (is_acknowledged c S name)) (put_at c S name) put (sym (put_at_keep c S name) ∙ e);
    acknowledgements_in = λ c name e. same.acknowledgements_same c name ∙ sym (is_acknowledged_keep c S name) ∙ e;
    retains_in = λ t name kept e. same.retains_same t name ∙ some_kept (not (is_outdone name (latest t S))) (retain_at t S name) kept (sym (retain_at_keep t S name) ∙ e);
  };
  upper = record {
    operations_in = λ c name change e. sym (same.operations_same c name) ∙ e;
    puts_in = λ c name put e. sym (same.puts_same c name) ∙ e;
    acknowledgements_in = λ c name e. sym (same.acknowledgements_same c name) ∙ e;
    retains_in = λ t name kept e. sym (same.retains_same t name) ∙ e;
  };
}

-- sets that have the same of each client are equal
pub same_by_client : (A B : List Op) → ((c : List ℕ) → of_client c A ≡ of_client c B) → Same A B
same_by_client A B h = record {
  operations_same = λ c name. operation_at_own c A name ∙ ap (λ S. operation_at c S name) (h c) ∙ sym (operation_at_own c B name);
  puts_same = λ c name. put_at_own c A name ∙ ap (λ S. put_at c S name) (h c) ∙ sym (put_at_own c B name);
  acknowledgements_same = λ c name. is_acknowledged_own c A name ∙ ap (λ S. is_acknowledged c S name) (h c) ∙ sym (is_acknowledged_own c B name);
  retains_same = λ t name. retain_at_own A t name ∙ ap (λ S. retain_at t S name) (h []) ∙ sym (retain_at_own B t name);
}

-- ---- what is known is not needed

le_then : (a b c : ℕ) → a ≤ b → b ≤ c → a ≤ c
le_then a b c p q = omega arith

and_first : (a b : Bool) → (a && b) ≡ true → a ≡ true
and_first true b e = refl
and_first false b e = e

and_second : (a b : Bool) → (a && b) ≡ true → b ≡ true
and_second true b e = e
and_second false b e = absurd (true≢false (sym e))

module _ (K D : List Op) where
  abbrev pub news : List Op
  news = filter (λ op. not (is_op_there K op)) D

  new_operation : (c : List ℕ) (op : Op) → IfSome (operation_of c op) (λ e. not (is_op_there K op) ≡ not (is_some (operation_at c K e.0)))
  new_operation c (OfSession d stamp counter change) =
      elim (same_client c d) as (λ b. same_client c d ≡ b → IfSome {T = (Stamp × ℕ) × SessionOp} (if b then Some ((stamp, counter), change) else None) (λ e. not (is_some (operation_at d K (stamp, counter))) ≡ not (is_some (operation_at c K e.0)))) [
        | true ↦ λ e. ap (λ x. not (is_some (operation_at x K (stamp, counter)))) (sym (same_client-true c d e))
        | false ↦ λ _. tt
      ] refl
  new_operation c (OfPut d p) = tt
  new_operation c (Ack d origin low high) = tt
  new_operation c (OfRetain t k) = tt

  new_put : (c : List ℕ) (op : Op) → IfSome (put_of c op) (λ e. not (is_op_there K op) ≡ not (is_some (put_at c K e.0)))
  new_put c (OfSession d stamp counter change) = tt
  new_put c (OfPut d p) =
      elim (same_client c d) as (λ b. same_client c d ≡ b → IfSome {T = (ℕ × ℕ) × Put} (if b then Some ((p.seq, p.origin), p) else None) (λ e. not (is_some (put_at d K (p.seq, p.origin))) ≡ not (is_some (put_at c K e.0)))) [
        | true ↦ λ e. ap (λ x. not (is_some (put_at x K (p.seq, p.origin)))) (sym (same_client-true c d e))
        | false ↦ λ _. tt
      ] refl
  new_put c (Ack d origin low high) = tt
  new_put c (OfRetain t k) = tt

  -- what is retained is new, whatever is known
  new_retain : (t : List ℕ) (op : Op) → IfSome (retain_of t op) (λ e. not (is_op_there K op) ≡ true)
  new_retain t (OfSession d stamp counter change) = tt
  new_retain t (OfPut d p) = tt
  new_retain t (Ack d origin low high) = tt
  new_retain t (OfRetain u k) = elim (same_topic t u) as (λ b. IfSome {T = (ℕ × ℕ) × Retained} (if b then Some (clock_of k, k) else None) (λ e. true ≡ true)) [ true ↦ refl | false ↦ tt ]

  found_first : {X : Type 0} (a x y : Option X) → x ≡ cond (not (is_some a)) y None → or_else a x ≡ or_else a y
  found_first None x y e = e
  found_first (Some v) x y e = refl

  all_stay : {A : Type 0} (xs : List A) → filter (λ x. true) xs ≡ xs
  all_stay [] = refl
  all_stay (x ∷ xs) = ap (λ rest. x ∷ rest) (all_stay xs)

  -- a range in the set acknowledges what a range within it does
  wider : (c d : List ℕ) (name : ℕ × ℕ) (origin low high : ℕ) → acknowledges c name (Ack d origin low high) ≡ true → (op : Op) → has_range d origin low high op ≡ true → acknowledges c name op ≡ true
  wider c d name origin low high e (OfSession x stamp counter change) h = absurd (true≢false (sym h))
  wider c d name origin low high e (OfPut x p) h = absurd (true≢false (sym h))
  wider c d name origin low high e (OfRetain t k) h = absurd (true≢false (sym h))
  wider c d name origin low high e (Ack x o start end) h =
      let c-d : same_client c d ≡ true = and_first _ _ (and_first _ _ (and_first _ _ e)) in
      let d-x : same_client d x ≡ true = and_first _ _ (and_first _ _ (and_first _ _ h)) in
      let name-origin = eqb-true name.1 origin (and_second _ _ (and_first _ _ (and_first _ _ e))) in
      let origin-o = eqb-true origin o (and_second _ _ (and_first _ _ (and_first _ _ h))) in
      let low-name : low ≤ name.0 = leb-true low name.0 (and_second _ _ (and_first _ _ e)) in
      let start-low : start ≤ low = leb-true start low (and_second _ _ (and_first _ _ h)) in
      let name-high : name.0 ≤ high = leb-true name.0 high (and_second _ _ e) in
      let high-end : high ≤ end = leb-true high end (and_second _ _ h) in
      let client : same_client c x ≡ true = ap (λ y. same_client y x) (same_client-true c d c-d) ∙ d-x in
      let gateway : (name.1 == o) ≡ true = eq-eqb name.1 o (name-origin ∙ origin-o) in
      let from : nat_le start name.0 ≡ true = le-leb start name.0 (le_then start low name.0 start-low low-name) in
      let to : nat_le name.0 end ≡ true = le-leb name.0 end (le_then name.0 high end name-high high-end) in
      both_true (both_true (both_true client gateway) from) to

  known_acknowledged : (c : List ℕ) (name : ℕ × ℕ) → is_acknowledged c K name ≡ false → (op : Op) → acknowledges c name op ≡ true → not (is_op_there K op) ≡ true
  known_acknowledged c name none (OfSession d stamp counter change) e = absurd (true≢false (sym e))
  known_acknowledged c name none (OfPut d p) e = absurd (true≢false (sym e))
  known_acknowledged c name none (OfRetain t k) e = absurd (true≢false (sym e))
  known_acknowledged c name none (Ack d origin low high) e =
      elim (list_any (has_range d origin low high) K) as (λ b. list_any (has_range d origin low high) K ≡ b → not b ≡ true) [
        | true ↦ λ h. absurd (true≢false (sym (list_any-weaker (has_range d origin low high) (acknowledges c name) (wider c d name origin low high e) K h) ∙ none))
        | false ↦ λ _. refl
      ] refl

  pub same_news : Same (K ++ news) (K ++ D)
  same_news = record {
    operations_same = λ c name.
        operation_at_both c K (filter (λ op. not (is_op_there K op)) D) name
        ∙ found_first (operation_at c K name) (operation_at c (filter (λ op. not (is_op_there K op)) D) name) (operation_at c D name)
        (ap (find operation_cmp name) (filter_map-filter (operation_of c) (λ op. not (is_op_there K op)) (λ n. not (is_some (operation_at c K n))) (new_operation c) D)
        ∙ find-where_key operation_cmp (λ n. not (is_some (operation_at c K n))) name (λ x t. ap (λ (n : Stamp × ℕ). not (is_some (operation_at c K n))) (sym (operation_exact name x t))) (filter_map (operation_of c) D))
        ∙ sym (operation_at_both c K D name);
    puts_same = λ c name.
        put_at_both c K (filter (λ op. not (is_op_there K op)) D) name
        ∙ found_first (put_at c K name) (put_at c (filter (λ op. not (is_op_there K op)) D) name) (put_at c D name)
        (ap (find put_cmp name) (filter_map-filter (put_of c) (λ op. not (is_op_there K op)) (λ n. not (is_some (put_at c K n))) (new_put c) D)
        ∙ find-where_key put_cmp (λ n. not (is_some (put_at c K n))) name (λ x t. ap (λ (n : ℕ × ℕ). not (is_some (put_at c K n))) (sym (put_exact name x t))) (filter_map (put_of c) D))
        ∙ sym (put_at_both c K D name);
    acknowledgements_same = λ c name.
        is_acknowledged_both c K (filter (λ op. not (is_op_there K op)) D) name
        ∙ elim (is_acknowledged c K name) as (λ b. is_acknowledged c K name ≡ b → (b || is_acknowledged c (filter (λ op. not (is_op_there K op)) D) name) ≡ (b || is_acknowledged c D name)) [
          | true ↦ λ _. refl
          | false ↦ λ none. list_any-filter (acknowledges c name) (λ op. not (is_op_there K op)) (known_acknowledged c name none) D
        ] refl
        ∙ sym (is_acknowledged_both c K D name);
    retains_same = λ t name.
        retain_at_both t K (filter (λ op. not (is_op_there K op)) D) name
        ∙ ap (λ (es : List ((ℕ × ℕ) × Retained)). or_else (retain_at t K name) (find clock_cmp name es))
        (filter_map-filter (retain_of t) (λ op. not (is_op_there K op)) (λ n. true) (new_retain t) D ∙ all_stay (filter_map (retain_of t) D))
        ∙ sym (retain_at_both t K D name);
  }

-- ---- what is grown of each client

grown_own : (ops rest : List Op) (o : Option (List Op)) → or_nothing o ≡ ops → or_nothing (or_else (if has_any rest then Some (ops ++ rest) else None) o) ≡ ops ++ rest
grown_own ops [] o e = e ∙ sym (append-nil ops)
grown_own ops (op ∷ rest) o e = refl

-- rows with the grown ones in their places have of each client what the rows and the list have
pub own_grown : (rows room fresh : List (List ℕ × List Op)) (D : List Op) → ((c : List ℕ) → own c room ≡ own c rows) → IsGrown rows D fresh → (c : List ℕ) → own c (rows_with room fresh) ≡ own c rows ++ of_client c D
own_grown rows room fresh D same h c =
    ap or_nothing (find_in_moved c room fresh)
    ∙ ap (λ x. or_nothing (or_else x (find client_cmp c room))) (h c)
    ∙ grown_own (own c rows) (of_client c D) (find client_cmp c room) (same c)

pub same_grown : (rows room fresh : List (List ℕ × List Op)) (D : List Op) → AreRows rows → AreRows room → AllByRecursion (λ row. IsOwn row.0 row.1) fresh → ((c : List ℕ) → own c room ≡ own c rows) → IsGrown rows D fresh → Same (flat (rows_with room fresh)) (flat rows ++ D)
same_grown rows room fresh D are place owned same h =
    same_by_client (flat (rows_with room fresh)) (flat rows ++ D) (λ c.
    of_flat c (rows_with room fresh) (rows_moved room fresh place owned)
    ∙ own_grown rows room fresh D same h c
    ∙ ap (λ ops. ops ++ of_client c D) (sym (of_flat c rows are))
    ∙ sym (filter-append (λ op. same_client c (client_of op)) (flat rows) D))
