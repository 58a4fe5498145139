-- Where the entry of a client is found, and that of a topic.
use Rattle.std.proofs.Common.{◌≡◌, ℕ, true, false, List, [], ◌∷◌, get_or, Some, None, sym, ap, subst, ◌∙◌, Bool, cond, is_some, true≢false, Less, Equal, Greater, is_eq, is_lt, refl, Ordering}
use Rattle.rep_op.specs.Orders.{client_cmp, topic_name_cmp}
use Rattle.rep_op.specs.Sets.{same_client, same_topic}
use Rattle.rep_model.proofs.Readers.{client_total, topic_total}
use Rattle.std.specs.Cmp.{on_total}
use Rattle.std.proofs.lemmas.Bool.{and_from}
use Rattle.std.proofs.lemmas.Option.{same_Some}
use Rattle.std.specs.Ordering.{ordering_reverse}
use Rattle.std.proofs.lemmas.Map.Text.{is_eq-slice_cmp}
use Rattle.std.specs.List.{find, AllByRecursion}
use Rattle.sn_tables.specs.Tables.{is_ascending}
use Rattle.sn_tables.specs.inner.Tables.{IsFoundAt, IsGap}
use Rattle.sn_tables.proofs.Ascending.{Ascends, from_test}
use Rattle.sn_tables.proofs.Places.{find_at, find_gap}
use Rattle.rep_digest.specs.declared.entry.ClientEntry.{ClientEntry}
use Rattle.rep_digest.specs.declared.entry.RetainedEntry.{RetainedEntry}
use Rattle.rep_answer.specs.Answers.{entry_of, topic_entry_of}
use Rattle.rep_digest.specs.WellMade.{ClientsAscend, TopicsAscend}

ascending_test : (d : List ClientEntry) → ClientsAscend d → is_ascending (λ a b. client_cmp a.client b.client) d ≡ true
ascending_test [] h = refl
ascending_test (a ∷ []) h = refl
ascending_test (a ∷ b ∷ rest) h = and_from (is_lt (client_cmp a.client b.client)) (is_ascending (λ a b. client_cmp a.client b.client) (b ∷ rest)) (ap is_lt h.0) (ascending_test (b ∷ rest) h.1)

pub entries_ascend : (d : List ClientEntry) → ClientsAscend d → Ascends (λ a b. client_cmp a.client b.client) d
entries_ascend d h = from_test (λ (a b : ClientEntry). client_cmp a.client b.client) (on_total (λ (e : ClientEntry). e.client) client_total) d (ascending_test d h)

-- the order tells whether the clients are the same
pub same_by_order : (c d : List ℕ) → same_client c d ≡ is_eq (client_cmp d c)
same_by_order c d = sym (is_eq-slice_cmp c d) ∙ ap is_eq (client_total.antisymm c d) ∙ back (client_cmp d c)
  where
    back : (r : Ordering) → is_eq (ordering_reverse r) ≡ is_eq r
    back Less = refl
    back Equal = refl
    back Greater = refl

module _ (c : List ℕ) where
  passes : (e : ClientEntry) → client_cmp e.client c ≡ Equal → same_client c e.client ≡ true
  passes e h = same_by_order c e.client ∙ ap is_eq h

  below : (e : ClientEntry) → client_cmp e.client c ≡ Less → same_client c e.client ≡ false
  below e h = same_by_order c e.client ∙ ap is_eq h

  above : (e : ClientEntry) → client_cmp e.client c ≡ Greater → same_client c e.client ≡ false
  above e h = same_by_order c e.client ∙ ap is_eq h

pub found : (d : List ClientEntry) (at : ℕ) (c : List ℕ) (e : ClientEntry) → IsFoundAt (λ e. client_cmp e.client c) d at → entry_of c d ≡ Some (get_or d at e)
found d at c e h = find_at (λ (e : ClientEntry). client_cmp e.client c) (λ e. same_client c e.client) (passes c) (below c) (above c) d at e h

pub absent : (d : List ClientEntry) (at : ℕ) (c : List ℕ) → IsGap (λ e. client_cmp e.client c) d at → entry_of c d ≡ None
absent d at c h = find_gap (λ (e : ClientEntry). client_cmp e.client c) (λ e. same_client c e.client) (passes c) (below c) (above c) d at h

-- what holds of all holds of the one that is found
pub found_all : {A : Type 0} (P : A → Type 0) (test : A → Bool) (xs : List A) → AllByRecursion P xs → (x : A) → find test xs ≡ Some x → P x
found_all P test [] h x e = absurd (true≢false (sym (ap is_some e)))
found_all {A} P test (y ∷ xs) h x e =
    elim (test y) as (λ b. cond b (Some y) (find test xs) ≡ Some x → P x) [
      | true ↦ λ is. subst P (same_Some y x is) h.0
      | false ↦ λ rest. found_all P test xs h.1 x rest
    ] e

-- ---- the same of topics

topics_test : (d : List RetainedEntry) → TopicsAscend d → is_ascending (λ a b. topic_name_cmp a.topic b.topic) d ≡ true
topics_test [] h = refl
topics_test (a ∷ []) h = refl
topics_test (a ∷ b ∷ rest) h = and_from (is_lt (topic_name_cmp a.topic b.topic)) (is_ascending (λ a b. topic_name_cmp a.topic b.topic) (b ∷ rest)) (ap is_lt h.0) (topics_test (b ∷ rest) h.1)

pub topics_ascend : (d : List RetainedEntry) → TopicsAscend d → Ascends (λ a b. topic_name_cmp a.topic b.topic) d
topics_ascend d h = from_test (λ (a b : RetainedEntry). topic_name_cmp a.topic b.topic) (on_total (λ (e : RetainedEntry). e.topic) topic_total) d (topics_test d h)

topic_by_order : (t u : List ℕ) → same_topic t u ≡ is_eq (topic_name_cmp u t)
topic_by_order t u = sym (is_eq-slice_cmp t u) ∙ ap is_eq (topic_total.antisymm t u) ∙ back (topic_name_cmp u t)
  where
    back : (r : Ordering) → is_eq (ordering_reverse r) ≡ is_eq r
    back Less = refl
    back Equal = refl
    back Greater = refl

module _ (t : List ℕ) where
  topic_passes : (e : RetainedEntry) → topic_name_cmp e.topic t ≡ Equal → same_topic t e.topic ≡ true
  topic_passes e h = topic_by_order t e.topic ∙ ap is_eq h

  topic_below : (e : RetainedEntry) → topic_name_cmp e.topic t ≡ Less → same_topic t e.topic ≡ false
  topic_below e h = topic_by_order t e.topic ∙ ap is_eq h

  topic_above : (e : RetainedEntry) → topic_name_cmp e.topic t ≡ Greater → same_topic t e.topic ≡ false
  topic_above e h = topic_by_order t e.topic ∙ ap is_eq h

pub topic_found : (d : List RetainedEntry) (at : ℕ) (t : List ℕ) (e : RetainedEntry) → IsFoundAt (λ e. topic_name_cmp e.topic t) d at → topic_entry_of t d ≡ Some (get_or d at e)
topic_found d at t e h = find_at (λ (e : RetainedEntry). topic_name_cmp e.topic t) (λ e. same_topic t e.topic) (topic_passes t) (topic_below t) (topic_above t) d at e h

pub topic_absent : (d : List RetainedEntry) (at : ℕ) (t : List ℕ) → IsGap (λ e. topic_name_cmp e.topic t) d at → topic_entry_of t d ≡ None
topic_absent d at t h = find_gap (λ (e : RetainedEntry). topic_name_cmp e.topic t) (λ e. same_topic t e.topic) (topic_passes t) (topic_below t) (topic_above t) d at h
