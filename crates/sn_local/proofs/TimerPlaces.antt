-- What a search among timers finds, and what a change at that place makes.
use Rattle.std.proofs.Common.{◌≡◌, ℕ, true, false, if◌then◌else◌, List, [], ◌∷◌, get_or, set, Bool, Some, None, refl, sym, ap, subst, ◌∙◌, true≢false}
use Rattle.std.specs.declared.cmp.Ordering.{Ordering}
use Rattle.std.specs.declared.cmp.Ordering.TheVariants.{Less, Equal, Greater}
use Rattle.std.specs.Ordering.{is_eq, ordering_reverse}
use Rattle.std.specs.Cmp.{IsTotalOrder, on_total}
use Rattle.std.specs.Cmp.Lexicographic.{texts_ties}
use Rattle.std.specs.List.{insert, filter, find}
use Rattle.rep_op.specs.Orders.{client_cmp}
use Rattle.rep_op.specs.Sets.{same_client}
use Rattle.rep_model.proofs.Readers.{client_total}
use Rattle.sn_tables.specs.inner.Tables.{IsFoundAt, IsGap}
use Rattle.sn_tables.proofs.Ascending.{Ascends, from_test, to_test, ascends_with, ascends_filter}
use Rattle.sn_tables.proofs.Places.{find_at, find_gap, with_at, with_gap}
use Rattle.sn_local.specs.declared.local.Timer.{Timer}
use Rattle.sn_local.specs.Timers.{AreTimers, timer_cmp, timed, timer_of}

pub timer_total : IsTotalOrder timer_cmp
timer_total = on_total (λ (t : Timer). t.client) client_total

-- how each timer compares with a client
abbrev pub by_client : List ℕ → Timer → Ordering
by_client c timer = client_cmp timer.client c

turns : (t x : Timer) → timer_cmp t x ≡ ordering_reverse (by_client t.client x)
turns t x = client_total.antisymm t.client x.client

-- the order tells whether the clients are the same
pub same_by_order : (c d : List ℕ) → same_client c d ≡ is_eq (client_cmp c d)
same_by_order c d = texts_ties c d

pub timers_ascend : (timers : List Timer) → AreTimers timers → Ascends timer_cmp timers
timers_ascend timers h = from_test timer_cmp timer_total timers h

-- the timer of a client is the first that is found
found_first : (c : List ℕ) (timers : List Timer) → timer_of c timers ≡ find (λ t. same_client t.client c) timers
found_first c [] = refl
found_first c (t ∷ timers) = ap (λ o. if same_client t.client c then Some t else o) (found_first c timers)

module _ (timers : List Timer) (i : ℕ) where
  module _ (c : List ℕ) where
    passes : (t : Timer) → by_client c t ≡ Equal → same_client t.client c ≡ true
    passes t h = same_by_order t.client c ∙ ap is_eq h

    below : (t : Timer) → by_client c t ≡ Less → same_client t.client c ≡ false
    below t h = same_by_order t.client c ∙ ap is_eq h

    above : (t : Timer) → by_client c t ≡ Greater → same_client t.client c ≡ false
    above t h = same_by_order t.client c ∙ ap is_eq h

    pub found : (d : Timer) → IsFoundAt (by_client c) timers i → timer_of c timers ≡ Some (get_or timers i d)
    found d h = found_first c timers ∙ find_at (by_client c) (λ t. same_client t.client c) passes below above timers i d h

    pub absent : IsGap (by_client c) timers i → timer_of c timers ≡ None
    absent h = found_first c timers ∙ find_gap (by_client c) (λ t. same_client t.client c) passes below above timers i h

  module _ (t : Timer) where
    pub set_is : IsFoundAt (by_client t.client) timers i → set timers i t ≡ timed t timers
    set_is h = sym (with_at (by_client t.client) timer_cmp t (turns t) timers i h)

    pub insert_is : IsGap (by_client t.client) timers i → insert timers i t ≡ timed t timers
    insert_is h = sym (with_gap (by_client t.client) timer_cmp t (turns t) timers i h)

-- timers with one that is set are timers
pub timed_timers : (t : Timer) (timers so : List Timer) → so ≡ timed t timers → AreTimers timers → AreTimers so
timed_timers t timers so is h = subst AreTimers (sym is) (to_test timer_cmp (timed t timers) (ascends_with timer_cmp timer_total t timers (timers_ascend timers h)))

-- some of the timers are timers
pub some_timers : (keeps : Timer → Bool) (timers so : List Timer) → so ≡ filter keeps timers → AreTimers timers → AreTimers so
some_timers keeps timers so is h = subst AreTimers (sym is) (to_test timer_cmp (filter keeps timers) (ascends_filter timer_cmp keeps timers (timers_ascend timers h)))

-- what is so in the case that is
pub chosen : {X : Type 0} (b : Bool) (x y z : X) → b ≡ true → z ≡ (if b then x else y) → z ≡ x
chosen true x y z e is = is
chosen false x y z e is = absurd (true≢false (sym e))
