-- What must be kept of all clients is what must be kept of each.
use Rattle.std.proofs.Common.{◌≡◌, ℕ, Bool, not, cond, List, [], ◌∷◌, ◌++◌, filter, Some, None, refl, sym, ap, ◌∙◌}
use Rattle.std.specs.Prelude.{IsTrue}
use Rattle.std.specs.List.{filter_map, AllByRecursion}
use Rattle.std.specs.FinMap.{find}
use Rattle.std.proofs.lemmas.List.Elements.{filter-append}
use Rattle.rep_op.specs.declared.op.Op.{Op}
use Rattle.rep_op.specs.declared.op.Op.TheVariants.{Session as OfSession, Put as OfPut, Ack, Retain as OfRetain}
use Rattle.rep_ops.specs.Making.{AreWellMade}
use Rattle.rep_op.specs.Orders.{client_cmp}
use Rattle.rep_op.specs.Sets.{is_acknowledged}
use Rattle.rep_op.specs.WellMade.{is_well_made}
use Rattle.rep_model.specs.Views.{visible, named}
use Rattle.rep_model.specs.Keep.{is_below, is_kept, keep}
use Rattle.rep_model.proofs.Readers.{client_total}
use Rattle.rep_plain.specs.declared.entry.Entry.{Entry}
use Rattle.rep_plain.specs.declared.ranges.Range.{Range}
use Rattle.rep_shared.specs.Rows.{flat, own, or_nothing, IsOwn, IsOwnOp}
use Rattle.rep_plain.specs.inner.Rows.{kept_rows}
use Rattle.rep_shared.specs.inner.Rows.{AreRows}
use Rattle.rep_plain.specs.inner.Steps.{range_in, must_stay}
use Rattle.rep_plain.specs.Tables.{IsPlainEntry}
use Rattle.rep_shared.proofs.Counting.{all_found}
use Rattle.rep_plain.proofs.Entering.{covers_acknowledged}
use Rattle.rep_shared.proofs.Flat.{of_flat, named_client, all_filter}
use Rattle.rep_shared.proofs.Single.{visible_own, is_acknowledged_own}
use Rattle.rep_shared.proofs.Kept.{both_made, own_made}

filter_same : {A : Type 0} (P : A → Type 0) (p q : A → Bool) → ((x : A) → P x → p x ≡ q x) → (xs : List A) → AllByRecursion P xs → filter p xs ≡ filter q xs
filter_same P p q same [] h = refl
filter_same P p q same (x ∷ xs) h = λ i. cond (same x h.0 i) (x ∷ filter_same P p q same xs h.1 i) (filter_same P p q same xs h.1 i)

-- ---- of one client

none_some : {A P : Type 0} (x : A) → None ≡ Some x → P
none_some x h = cc

stay_is_kept : (c : List ℕ) (S : List Op) (op : Op) → named op ≡ Some (c, c) → must_stay (visible c S) (filter_map (range_in c) S) op ≡ is_kept S op
stay_is_kept c S (OfSession d stamp counter change) own = ap (λ x. not (is_below stamp (visible x S))) (sym (named_client c (OfSession d stamp counter change) own))
stay_is_kept c S (OfPut d p) own = ap not (covers_acknowledged c S (p.seq, p.origin)) ∙ ap (λ x. not (is_acknowledged x S (p.seq, p.origin))) (sym (named_client c (OfPut d p) own))
stay_is_kept c S (Ack d origin first last) own = refl
stay_is_kept c S (OfRetain t k) own = none_some (c, c) own

pub kept_of_entry : (c : List ℕ) (entry : Entry) (ranges : List Range) → IsPlainEntry c entry → ranges ≡ filter_map (range_in c) entry.ops.items → filter (must_stay entry.seen.stamp ranges) entry.ops.items ≡ keep entry.ops.items
kept_of_entry c entry ranges h e =
    let S = entry.ops.items in
    (λ i. filter (must_stay (h.worked_out.seen i).stamp (e i)) S)
    ∙ filter_same (IsOwnOp c) (must_stay (visible c S) (filter_map (range_in c) S)) (is_kept S) (λ op o. stay_is_kept c S op o.0) S h.own

-- ---- of all clients

module _ (rows : List (List ℕ × List Op)) (are : AreRows rows) where
  kept_in_row : (c : List ℕ) (op : Op) → named op ≡ Some (c, c) → is_kept (own c rows) op ≡ is_kept (flat rows) op
  kept_in_row c (OfSession d stamp counter change) owned =
      ap (λ x. not (is_below stamp (visible d (own x rows)))) (sym (named_client c (OfSession d stamp counter change) owned))
      ∙ ap (λ S. not (is_below stamp (visible d S))) (sym (of_flat d rows are))
      ∙ ap (λ o. not (is_below stamp o)) (sym (visible_own d (flat rows)))
  kept_in_row c (OfPut d p) owned =
      ap (λ x. not (is_acknowledged d (own x rows) (p.seq, p.origin))) (sym (named_client c (OfPut d p) owned))
      ∙ ap (λ S. not (is_acknowledged d S (p.seq, p.origin))) (sym (of_flat d rows are))
      ∙ ap not (sym (is_acknowledged_own d (flat rows) (p.seq, p.origin)))
  kept_in_row c (Ack d origin first last) owned = refl
  kept_in_row c (OfRetain t k) owned = none_some (c, c) owned

  kept_in_rows : (some : List (List ℕ × List Op)) → AllByRecursion (λ row. find client_cmp row.0 rows ≡ Some row.1) some → AllByRecursion (λ row. IsOwn row.0 row.1) some → kept_rows some ≡ filter (is_kept (flat rows)) (flat some)
  kept_in_rows [] found owned = refl
  kept_in_rows (row ∷ some) found owned =
      let same : row.1 ≡ own row.0 rows = sym (ap or_nothing found.0) in
      (λ i. filter (is_kept (same i)) row.1 ++ kept_in_rows some found.1 owned.1 i)
      ∙ ap (λ ops. ops ++ filter (is_kept (flat rows)) (flat some)) (filter_same (IsOwnOp row.0) (is_kept (own row.0 rows)) (is_kept (flat rows)) (λ op o. kept_in_row row.0 op o.0) row.1 owned.0)
      ∙ sym (filter-append (is_kept (flat rows)) row.1 (flat some))

  pub kept_flat : kept_rows rows ≡ keep (flat rows)
  kept_flat = kept_in_rows rows (all_found client_cmp client_total rows are.sorted) are.owned

pub kept_made : (rows : List (List ℕ × List Op)) → AllByRecursion (λ row. IsOwn row.0 row.1) rows → AreWellMade (kept_rows rows)
kept_made [] h = tt
kept_made (row ∷ rows) h = both_made (keep row.1) (kept_rows rows) (all_filter (λ op. IsTrue (is_well_made op)) (is_kept row.1) row.1 (own_made row.0 row.1 h.0)) (kept_made rows h.1)
