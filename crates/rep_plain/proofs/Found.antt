-- What a look-up in the table says of its rows.
use Rattle.std.proofs.Common.{◌≡◌, ℕ, false, List, [], ◌∷◌, Option, Some, None, is_some, T, Bor, refl, sym, ap, ◌∙◌, subst, ◌&&◌, nat_le, ◌==◌}
use Rattle.std.specs.Option.{option_map, option_copied}
use Rattle.std.specs.List.{AllByRecursion, list_any}
use Rattle.std.specs.Map.{lookup}
use Rattle.std.specs.BTreeMap.{is_at}
use Rattle.std.specs.FinMap.{find}
use Rattle.rep_op.specs.declared.op.Op.{Op}
use Rattle.rep_op.specs.declared.op.Op.TheVariants.{Session as OfSession, Put as OfPut, Ack, Retain as OfRetain}
use Rattle.rep_op.specs.Orders.{client_cmp, client_of}
use Rattle.rep_op.specs.Sets.{same_client}
use Rattle.rep_plain.specs.declared.entry.Entry.{Entry}
use Rattle.rep_shared.specs.Rows.{flat, own, or_nothing, IsOwn}
use Rattle.rep_shared.specs.inner.Rows.{AreRows, of_client}
use Rattle.rep_plain.specs.Tables.{rows_of, AreEntries, IsPlainTable}
use Rattle.rep_plain.specs.inner.Tables.{is_op_there, has_range}
use Rattle.rep_shared.proofs.Maps.{lookup_is_find}
use Rattle.rep_shared.proofs.Single.{tests_own}
use Rattle.rep_shared.proofs.Flat.{of_flat}
use Rattle.rep_shared.proofs.Found.{find_map, sorted_map, operation_row, put_row}

pub is_some_copied : {X : Type 0} (o : Option (Bor X)) → is_some o ≡ is_some (option_copied o)
is_some_copied None = refl
is_some_copied (Some x) = refl

pub find_rows : (c : List ℕ) (es : List (List ℕ × Entry)) → find client_cmp c (rows_of es) ≡ option_map (λ (e : Entry). e.ops.items) (find client_cmp c es)
find_rows c es = find_map client_cmp (λ (e : Entry). e.ops.items) c es

pub own_found : (c : List ℕ) (es : List (List ℕ × Entry)) (o : Option Entry) → o ≡ lookup (is_at (client_cmp c)) es → or_nothing (option_map (λ (e : Entry). e.ops.items) o) ≡ own c (rows_of es)
own_found c es o h = ap (λ o. or_nothing (option_map (λ (e : Entry). e.ops.items) o)) (h ∙ lookup_is_find client_cmp c es) ∙ sym (ap or_nothing (find_rows c es))

-- what is said of each entry, and of each row
owned_rows : (es : List (List ℕ × Entry)) → AreEntries es → AllByRecursion (λ row. IsOwn row.0 row.1) (rows_of es)
owned_rows [] h = tt
owned_rows (e ∷ es) h = (h.0.own, owned_rows es h.1)

pub table_rows : (es : List (List ℕ × Entry)) (n : ℕ) → IsPlainTable es n → AreRows (rows_of es)
table_rows es n h = record { sorted = subst T (sym (sorted_map client_cmp (λ (e : Entry). e.ops.items) es)) h.sorted; owned = owned_rows es h.each }

-- ---- one operation against the rows

module _ (c : List ℕ) (S : List Op) where
  other_has_range : (origin first last : ℕ) (op : Op) → same_client c (client_of op) ≡ false → has_range c origin first last op ≡ false
  other_has_range origin first last (OfSession d stamp counter change) e = refl
  other_has_range origin first last (OfPut d put) e = refl
  other_has_range origin first last (Ack d o start end) e = ap (λ b. b && (origin == o) && nat_le start first && nat_le last end) e
  other_has_range origin first last (OfRetain t k) e = refl

  pub has_range_own : (origin first last : ℕ) → list_any (has_range c origin first last) S ≡ list_any (has_range c origin first last) (of_client c S)
  has_range_own origin first last = tests_own c (has_range c origin first last) (other_has_range origin first last) S

module _ (rows : List (List ℕ × List Op)) (are : AreRows rows) where
  pub known_row : (op : Op) → is_op_there (own (client_of op) rows) op ≡ is_op_there (flat rows) op
  known_row (OfSession c stamp counter change) = ap is_some (sym (operation_row rows are c (stamp, counter)))
  known_row (OfPut c p) = ap is_some (sym (put_row rows are c (p.seq, p.origin)))
  known_row (Ack c origin low high) = sym (has_range_own c (flat rows) origin low high ∙ ap (λ S. list_any (has_range c origin low high) S) (of_flat c rows are))
  known_row (OfRetain t k) = refl
