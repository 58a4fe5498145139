-- Tables: lists of at most 256 entries in strictly ascending order.
use Rattle.std.specs.Prelude.{◌≤◌, Bool, true, ◌&&◌, List, [], ◌∷◌, length, nat_le, IsTrue}
use Rattle.std.specs.declared.cmp.Ordering.{Ordering}
use Rattle.std.specs.declared.cmp.Ordering.TheVariants.{Less, Equal, Greater}
use Rattle.std.specs.Ordering.{is_lt}
use Rattle.sn_tables.specs.declared.table.TheConstants.{MAX_ENTRIES}

-- each entry comes before the next one
abbrev pub is_ascending : {E : Type 0} → (E → E → Ordering) → List E → Bool
is_ascending cmp [] = true
is_ascending cmp (a ∷ []) = true
is_ascending cmp (a ∷ b ∷ rest) = is_lt (cmp a b) && is_ascending cmp (b ∷ rest)

-- a list that is a table: in strictly ascending order, with at most 256 entries
abbrev pub IsTable : {E : Type 0} → (E → E → Ordering) → List E → Type 0
IsTable cmp entries = IsTrue (is_ascending cmp entries) × (length entries ≤ MAX_ENTRIES)

-- no entry can be added
abbrev pub is_table_full : {E : Type 0} → List E → Bool
is_table_full entries = nat_le MAX_ENTRIES (length entries)

-- the first, second or third, if the order is less, equal or greater
abbrev pub by_order : {A : Type 0} → Ordering → A → A → A → A
by_order Less a b c = a
by_order Equal a b c = b
by_order Greater a b c = c

-- the table with the entry, which replaces one that is equal in the order
abbrev pub with_entry : {E : Type 0} → (E → E → Ordering) → E → List E → List E
with_entry cmp entry [] = entry ∷ []
with_entry cmp entry (a ∷ rest) =
    by_order (cmp entry a) (entry ∷ a ∷ rest) (entry ∷ rest) (a ∷ with_entry cmp entry rest)
