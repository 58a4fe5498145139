-- what a search among filters finds, and what a change at that place makes
use Rattle.std.proofs.Common.{◌≡◌, ℕ, ◌<◌, ◌≤◌, true, false, not, List, length, get_or, set, Some, None, is_none, bytes_eq, sym, ap, ◌∙◌}
use Rattle.std.specs.declared.cmp.Ordering.{Ordering}
use Rattle.std.specs.declared.cmp.Ordering.TheVariants.{Less, Equal, Greater}
use Rattle.std.specs.Ordering.{nat_cmp, is_eq, ordering_reverse}
use Rattle.std.specs.Cmp.{IsTotalOrder, on_total}
use Rattle.std.specs.Cmp.Lexicographic.{slice_cmp, nat_list_cmp_total, texts_ties}
use Rattle.std.specs.FinMap.{slice_cmp-IsAntisymmetric, nat_cmp-IsAntisymmetric}
use Rattle.std.specs.List.{insert, remove}
use Rattle.sn_tables.specs.declared.subscriptions.Subscription.{Subscription}
use Rattle.sn_tables.specs.Tables.{IsTable}
use Rattle.sn_tables.specs.inner.Tables.{IsFoundAt, IsGap}
use Rattle.sn_tables.specs.Subscriptions.{subscription_cmp, with_subscription, without_filter, subscription_of, filter_has_no_room}
use Rattle.sn_tables.proofs.Numbers.{room_left}
use Rattle.sn_tables.proofs.Places.{find_at, find_gap, at_equal, with_at, with_gap, table_set, table_insert, table_filter, without_at, without_gap}

pub subscription_total : IsTotalOrder subscription_cmp
subscription_total = on_total (λ (e : Subscription). e.filter) nat_list_cmp_total

-- how each subscription compares with a filter
abbrev pub by_filter : List ℕ → Subscription → Ordering
by_filter asked entry = slice_cmp nat_cmp entry.filter asked

turns : (e x : Subscription) → subscription_cmp e x ≡ ordering_reverse (by_filter e.filter x)
turns e x = nat_list_cmp_total.antisymm e.filter x.filter

tied : (a b : List ℕ) → slice_cmp nat_cmp a b ≡ Equal → bytes_eq a b ≡ true
tied a b h = texts_ties a b ∙ ap is_eq h

lower : (a b : List ℕ) → slice_cmp nat_cmp a b ≡ Less → bytes_eq a b ≡ false
lower a b h = texts_ties a b ∙ ap is_eq h

higher : (a b : List ℕ) → slice_cmp nat_cmp a b ≡ Greater → bytes_eq a b ≡ false
higher a b h = texts_ties a b ∙ ap is_eq h

module _ (xs : List Subscription) (i : ℕ) where
  module _ (asked : List ℕ) where
    pub found : (d : Subscription) → IsFoundAt (by_filter asked) xs i → subscription_of asked xs ≡ Some (get_or xs i d)
    found d h = find_at (by_filter asked) (λ e. bytes_eq e.filter asked) (λ e. tied e.filter asked) (λ e. lower e.filter asked) (λ e. higher e.filter asked) xs i d h

    pub absent : IsGap (by_filter asked) xs i → subscription_of asked xs ≡ None
    absent h = find_gap (by_filter asked) (λ e. bytes_eq e.filter asked) (λ e. tied e.filter asked) (λ e. lower e.filter asked) (λ e. higher e.filter asked) xs i h

    -- the filter there is the one that was sought
    pub same_filter : (d : Subscription) → IsFoundAt (by_filter asked) xs i → (get_or xs i d).filter ≡ asked
    same_filter d h = slice_cmp-IsAntisymmetric nat_cmp-IsAntisymmetric (get_or xs i d).filter asked (at_equal (by_filter asked) xs i d h)

    -- a gap in a table that has room for the filter
    pub room : IsGap (by_filter asked) xs i → filter_has_no_room asked xs ≡ false → length xs < 256
    room h free = room_left (length xs) (is_none (subscription_of asked xs)) free (ap is_none (absent h))

    pub remove_is : IsFoundAt (by_filter asked) xs i → remove xs i ≡ without_filter asked xs
    remove_is h = sym (without_at (by_filter asked) (λ e. bytes_eq e.filter asked) (λ e. tied e.filter asked) (λ e. lower e.filter asked) (λ e. higher e.filter asked) xs i h)

    pub remove_none : IsGap (by_filter asked) xs i → xs ≡ without_filter asked xs
    remove_none h = sym (without_gap (by_filter asked) (λ e. bytes_eq e.filter asked) (λ e. tied e.filter asked) (λ e. lower e.filter asked) (λ e. higher e.filter asked) xs i h)

    pub remove_table : IsTable subscription_cmp xs → IsFoundAt (by_filter asked) xs i → IsTable subscription_cmp (remove xs i)
    remove_table table h = rw (remove_is h) (table_filter subscription_cmp subscription_total (λ e. not (bytes_eq e.filter asked)) xs table)

  module _ (e : Subscription) where
    pub set_is : IsFoundAt (by_filter e.filter) xs i → set xs i e ≡ with_subscription e xs
    set_is h = sym (with_at (by_filter e.filter) subscription_cmp e (turns e) xs i h)

    pub insert_is : IsGap (by_filter e.filter) xs i → insert xs i e ≡ with_subscription e xs
    insert_is h = sym (with_gap (by_filter e.filter) subscription_cmp e (turns e) xs i h)

    pub set_table : IsTable subscription_cmp xs → IsFoundAt (by_filter e.filter) xs i → IsTable subscription_cmp (set xs i e)
    set_table table h = table_set subscription_cmp subscription_total (by_filter e.filter) e (turns e) xs i table h

    pub insert_table : IsTable subscription_cmp xs → i ≤ length xs → length xs < 256 → IsGap (by_filter e.filter) xs i → IsTable subscription_cmp (insert xs i e)
    insert_table table le room h = table_insert subscription_cmp subscription_total (by_filter e.filter) e (turns e) xs i table le room h
