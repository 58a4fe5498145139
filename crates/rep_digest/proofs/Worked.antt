-- A digest that is worked out of what a replica hands out is the digest of what it keeps.
use Rattle.std.proofs.Common.{◌≡◌, ℕ, zero, suc, ◌+◌, ◌<◌, List, [], ◌∷◌, ◌++◌, map, filter, length, take, get_or, refl, sym, ap, subst, ◌∙◌, arith}
use Rattle.std.proofs.lemmas.List.{map-append, take_more}
use Rattle.std.specs.List.{filter_map}
use Rattle.rep_op.specs.declared.op.Op.{Op}
use Rattle.rep_ops.specs.Making.{IsDeltaOf}
use Rattle.rep_ops.specs.Splitting.{all_of}
use Rattle.rep_ops.proofs.Joined.{rising_ascending}
use Rattle.rep_model.specs.Views.{pending, view, clients}
use Rattle.rep_model.specs.Keep.{keep, CountsAs}
use Rattle.rep_model.specs.Held.{IsHeld}
use Rattle.rep_model.specs.Limits.{range_of, acknowledged}
use Rattle.rep_model.proofs.Readers.{is_acknowledged_keep}
use Rattle.rep_model.proofs.Thin.{same_kept, thin-same, thin-keep}
use Rattle.rep_model.proofs.Joins.{same_trans}
use Rattle.rep_model.proofs.Ranges.{same_ranges}
use Rattle.rep_model.proofs.Limits.{in-ranges_of, in-acknowledged, apart-acknowledged}
use Rattle.rep_digest.specs.declared.groups.Acknowledged.{Acknowledged}
use Rattle.rep_digest.specs.declared.entry.ClientEntry.{ClientEntry}
use Rattle.rep_digest.specs.Digests.{origin_entry, has_ranges, numbers_from, origin_entries, client_entry, client_entries, digest}
use Rattle.rep_digest.specs.inner.Steps.{group, groups, drafted, drafted_entry}
use Rattle.rep_op.specs.Values.{AreValues}
use Rattle.rep_digest.specs.WellMade.{IsDigest}
use Rattle.rep_digest.proofs.Said.{group_ranges, ranges_rising, waiting_said}
use Rattle.rep_digest.proofs.Made.{digest_made}
use Rattle.rep_digest.proofs.Counted.{same_digest}

module _ (K W : List Op) (d : IsDeltaOf (keep K) W) where
  -- what is handed out counts as what is kept
  pub handed_counts : CountsAs K W
  handed_counts = same_trans (same_kept W (keep K) (thin-same W (keep K) d.same)) (same_kept (keep K) K (thin-keep K))

  acknowledged_said : (c : List ℕ) (o : ℕ) → filter_map (range_of c o) W ≡ acknowledged c o K
  acknowledged_said c o =
      same_ranges 0 0 (filter_map (range_of c o) W) (acknowledged c o K) (ranges_rising c o W d.delta.well_made (rising_ascending W d.delta.well_made d.delta.ascending)) (apart-acknowledged c o K)
      (λ n. in-ranges_of c o n W ∙ d.same.acknowledgements_same c (n, o) ∙ is_acknowledged_keep c K (n, o) ∙ sym (in-acknowledged c o n K))

  origin_said : (c : List ℕ) (o : ℕ) → drafted (group W c) (pending c K) o ≡ origin_entry c K o
  origin_said c o = λ i. record { origin = o; acknowledged = (group_ranges c o W d.delta.well_made ∙ acknowledged_said c o) i; waiting = waiting_said c o K i }

  entry_said : (c : List ℕ) → drafted_entry c (view c K) (group W c) ≡ client_entry K c
  unfolding origin_entries
  entry_said c = λ i. record {
    client = c;
    stamp = (view c K).stamp;
    prefix = (view c K).prefix;
    origins = filter has_ranges (map (λ o. origin_said c o i) (numbers_from 1 255));
  }

  pub entries_said : (cs : List (List ℕ)) → map (λ c. drafted_entry c (view c K) (group W c)) cs ≡ map (client_entry K) cs
  entries_said cs = λ i. map (λ c. entry_said c i) cs

-- ---- client by client

module _ (G : List ℕ → List Acknowledged) (E : List ℕ → List Acknowledged → ClientEntry) where
  group_at : (cs : List (List ℕ)) (i : ℕ) (c : List ℕ) (a : List Acknowledged) → i < length cs → get_or (map G cs) i a ≡ G (get_or cs i c)
  group_at [] i c a lt = absurd (omega (arith, lt))
  group_at (d ∷ cs) zero c a lt = refl
  group_at (d ∷ cs) (suc i) c a lt = group_at cs i c a (omega (arith, lt))

  pub entry_more : (cs : List (List ℕ)) (gs : List (List Acknowledged)) (i : ℕ) (c : List ℕ) (a : List Acknowledged) (front new : List ClientEntry) (entry : ClientEntry)
      → i < length cs → gs ≡ map G cs → c ≡ get_or cs i c → a ≡ get_or gs i a → front ≡ map (λ d. E d (G d)) (take i cs) → entry ≡ E c a → new ≡ front ++ entry ∷ []
      → new ≡ map (λ d. E d (G d)) (take (i + 1) cs)
  entry_more cs gs i c a front new entry lt groups here there so_far one behind =
      let own : a ≡ G c = there ∙ ap (λ (x : List (List Acknowledged)). get_or x i a) groups ∙ group_at cs i c a lt ∙ ap G (sym here) in
      behind ∙ (λ k. so_far k ++ (one ∙ ap (E c) own) k ∷ [])
      ∙ sym (map-append (λ d. E d (G d)) (take i cs) (c ∷ []))
      ∙ ap (map (λ d. E d (G d))) (ap (λ (x : List ℕ). take i cs ++ x ∷ []) here ∙ sym (take_more cs i c lt))

-- ---- the whole

-- what the steps come to is what the digest of what is kept says of clients, and the digest is one
pub worked : (K : List Op) (held : List (List Op)) (cs : List (List ℕ)) (entries : List ClientEntry) → IsHeld K held → AreValues (all_of held) → cs ≡ clients K
    → entries ≡ map (λ c. drafted_entry c (view c K) (group (all_of held) c)) cs → (entries ≡ client_entries K) × IsDigest (digest K)
worked K held cs entries h values is e =
    let W = all_of held in
    let whole : h.0 ≡ W = sym h.2.whole in
    let d : IsDeltaOf (keep K) W = subst (λ (V : List Op). IsDeltaOf (keep K) V) whole h.1 in
    let same : entries ≡ client_entries K = e ∙ entries_said K W d cs ∙ ap (map (client_entry K)) is in
    let counted : digest W ≡ digest K = same_digest K W (handed_counts K W d) in
    (same, subst IsDigest counted (digest_made W d.delta.well_made values))
