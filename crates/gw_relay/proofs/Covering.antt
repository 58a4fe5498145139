-- Whether an entry covers an operation: none of a topic covers one of a client, none of a client one of a topic; and of a topic the entry does that
-- a search finds.
use Rattle.std.proofs.Common.{◌≡◌, ℕ, zero, suc, Bool, true, false, ◌&&◌, ◌||◌, List, [], ◌∷◌, get_or, refl, sym, ap, ◌∙◌, true≢false, Ordering, Less, Equal, Greater, is_eq, is_lt}
use Rattle.std.specs.List.{list_any}
use Rattle.std.specs.Cmp.{on_total}
use Rattle.std.proofs.lemmas.Bool.{and_from}
use Rattle.std.proofs.lemmas.Map.Text.{is_eq-slice_cmp}
use Rattle.sn_tables.specs.Tables.{is_ascending}
use Rattle.sn_tables.specs.inner.Tables.{AllAbove, IsFoundAt, IsGap}
use Rattle.sn_tables.proofs.Ascending.{Ascends, from_test}
use Rattle.rep_op.specs.declared.op.Retained.{Retained}
use Rattle.rep_op.specs.declared.op.Op.{Op}
use Rattle.rep_op.specs.declared.op.Op.TheVariants.{Session as OfSession, Put as OfPut, Ack, Retain as OfRetain}
use Rattle.rep_op.specs.Orders.{topic_name_cmp, clock_of, is_of_client}
use Rattle.rep_model.proofs.Readers.{topic_total}
use Rattle.rep_digest.specs.declared.entry.ClientEntry.{ClientEntry}
use Rattle.rep_digest.specs.declared.entry.RetainedEntry.{RetainedEntry}
use Rattle.rep_digest.specs.WellMade.{TopicsAscend}
use Rattle.gw_relay.specs.News.{is_covered_by, entry_is_as_late, is_retained_by}

-- where no entry passes, none does
none_passes : {E : Type 0} (test : E → Bool) → ((e : E) → test e ≡ false) → (es : List E) → false ≡ list_any test es
none_passes test h [] = refl
none_passes test h (e ∷ es) = none_passes test h es ∙ sym (ap (λ b. b || list_any test es) (h e))

-- an operation of a topic has no entry of a client
pub no_clients : (op : Op) → is_of_client op ≡ false → (es : List ClientEntry) → false ≡ list_any (is_covered_by op) es
no_clients (OfSession c s i o) h es = absurd (true≢false h)
no_clients (OfPut c p) h es = absurd (true≢false h)
no_clients (Ack c r f l) h es = absurd (true≢false h)
no_clients (OfRetain t k) h es = none_passes (is_covered_by (OfRetain t k)) (λ e. refl) es

-- an operation of a client has no entry of a topic
pub no_topics : (op : Op) → is_of_client op ≡ true → (es : List RetainedEntry) → false ≡ list_any (is_retained_by op) es
no_topics (OfSession c s i o) h es = none_passes (is_retained_by (OfSession c s i o)) (λ e. refl) es
no_topics (OfPut c p) h es = none_passes (is_retained_by (OfPut c p)) (λ e. refl) es
no_topics (Ack c r f l) h es = none_passes (is_retained_by (Ack c r f l)) (λ e. refl) es
no_topics (OfRetain t k) h es = absurd (true≢false (sym h))

-- ---- topics in ascending order

topics_test : (d : List RetainedEntry) → TopicsAscend d → is_ascending (λ a b. topic_name_cmp a.topic b.topic) d ≡ true
topics_test [] h = refl
topics_test (a ∷ []) h = refl
topics_test (a ∷ b ∷ rest) h = and_from (is_lt (topic_name_cmp a.topic b.topic)) (is_ascending (λ a b. topic_name_cmp a.topic b.topic) (b ∷ rest)) (ap is_lt h.0) (topics_test (b ∷ rest) h.1)

pub topics_ascend : (d : List RetainedEntry) → TopicsAscend d → Ascends (λ a b. topic_name_cmp a.topic b.topic) d
topics_ascend d h = from_test (λ (a b : RetainedEntry). topic_name_cmp a.topic b.topic) (on_total (λ (e : RetainedEntry). e.topic) topic_total) d (topics_test d h)

-- ---- what a search finds

or_false : (b : Bool) → (b || false) ≡ b
or_false true = refl
or_false false = refl

module _ (t : List ℕ) (k : Retained) where
  -- the order tells whether an entry is of the topic
  ordered : (e : RetainedEntry) (o : Ordering) → topic_name_cmp e.topic t ≡ o → is_retained_by (OfRetain t k) e ≡ (is_eq o && entry_is_as_late e (clock_of k))
  ordered e o is = ap (λ b. b && entry_is_as_late e (clock_of k)) (sym (is_eq-slice_cmp e.topic t) ∙ ap is_eq is)

  none_above : (es : List RetainedEntry) → AllAbove (λ e. topic_name_cmp e.topic t) es → list_any (is_retained_by (OfRetain t k)) es ≡ false
  none_above [] h = refl
  none_above (e ∷ es) h = ap (λ b. b || list_any (is_retained_by (OfRetain t k)) es) (ordered e Greater h.0) ∙ none_above es h.1

  pub found : (es : List RetainedEntry) (at : ℕ) (d : RetainedEntry) → IsFoundAt (λ e. topic_name_cmp e.topic t) es at → list_any (is_retained_by (OfRetain t k)) es ≡ entry_is_as_late (get_or es at d) (clock_of k)
  found [] at d h = absurd h
  found (e ∷ es) zero d h =
      ap (λ b. b || list_any (is_retained_by (OfRetain t k)) es) (ordered e Equal h.0)
      ∙ ap (λ b. entry_is_as_late e (clock_of k) || b) (none_above es h.1)
      ∙ or_false (entry_is_as_late e (clock_of k))
  found (e ∷ es) (suc at) d h = ap (λ b. b || list_any (is_retained_by (OfRetain t k)) es) (ordered e Less h.0) ∙ found es at d h.1

  pub absent : (es : List RetainedEntry) (at : ℕ) → IsGap (λ e. topic_name_cmp e.topic t) es at → list_any (is_retained_by (OfRetain t k)) es ≡ false
  absent es zero h = none_above es h
  absent [] (suc at) h = absurd h
  absent (e ∷ es) (suc at) h = ap (λ b. b || list_any (is_retained_by (OfRetain t k)) es) (ordered e Less h.0) ∙ absent es at h.1
