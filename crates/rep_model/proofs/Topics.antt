-- What is retained of topics: of thin sets the same; and the law of the last.
use Rattle.std.proofs.Common.{◌≡◌, ℕ, ◌+◌, ◌<◌, ◌≤◌, ◌^◌, Bool, true, false, cond, not, ◌||◌, ◌⊎◌, ◌↔◌, nat_lt, if◌then◌else◌, List, [], ◌∷◌, ◌++◌, filter, filter_map, Option, Some, None, is_some, IsTrue, IfSome, IsSomeAnd, Contains, refl, sym, ap, ◌∙◌, subst, true≢false, inl, inr, Ordering, Less, Equal, Greater, nat_cmp, is_eq, is_lt, arith, le_antisymm}
use Rattle.std.specs.Prelude.{option_and_then, option_map}
use Rattle.std.specs.List.{list_any, cons_option}
use Rattle.std.specs.List.Sorted.{IsStrictlySortedBy}
use Rattle.std.specs.Ordering.{eq_by_cmp, ordering_reverse, ordering_then}
use Rattle.std.specs.FinMap.{find}
use Rattle.std.specs.FinMap.Entries.{is_some-find, same_entries}
use Rattle.std.proofs.lemmas.Cmp.{tied_itself, eq_by_cmp_equiv, ranked}
use Rattle.std.proofs.lemmas.Slice.Eq.{bytes_eq-Decides}
use Rattle.std.proofs.lemmas.Map.Views.{tells_apart, Contains-from_any, list_any-from_Contains}
use Rattle.rep_op.specs.declared.op.Retained.{Retained}
use Rattle.rep_op.specs.declared.op.Op.{Op}
use Rattle.rep_op.specs.declared.op.Op.TheVariants.{Session as OfSession, Put as OfPut, Ack, Retain as OfRetain}
use Rattle.rep_op.specs.Orders.{topic_name_cmp, clock_of, clock_cmp}
use Rattle.rep_op.specs.Sets.{same_topic, retain_of, retain_at, Within}
use Rattle.rep_model.specs.Views.{names, in_order}
use Rattle.rep_model.specs.Topics.{clocks, latest, retained, later_of, topic_in, topics, names_topic, has_topic, told_of, all_retained, is_offered, retained_matching}
use Rattle.rep_model.specs.Fresh.{largest, one_more, clock_in, next_clock}
use Rattle.rep_model.specs.Keep.{is_outdone, keep, CountsAs}
use Rattle.rep_model.proofs.Lookup.{or_else, is_entry_of, is_some-find_map, list_any-weaker, list_any-picks, find-in_order, is_sorted-in_order}
use Rattle.rep_model.proofs.Greatest.{has, not_below, greatest-has, greatest-reaches, largest-least, largest-reaches}
use Rattle.rep_model.proofs.Readers.{clock_total, clock_exact, topic_total, topic_exact, has_clock, retain_at_both, retain_at_keep}
use Rattle.rep_model.proofs.Thin.{Thin, not_outdone_itself, retained-thin}
use Rattle.rep_model.proofs.Joins.{same_by_counts}
use Rattle.rep_model.proofs.Named.{one_client, sorted_names}
use Rattle.rep_model.proofs.Occurring.{retain_occurs}

agree_test : (a b : Bool) → (a ≡ true → b ≡ true) → (b ≡ true → a ≡ true) → a ≡ b
agree_test true b f g = sym (f refl)
agree_test false true f g = g refl
agree_test false false f g = refl

entry_named : {K X : Type 0} (R : K → K → Ordering) (k : K) (a : Bool) (e : K × X) → is_entry_of R k (if a then Some e else None) ≡ true → a ≡ true
entry_named R k true e h = refl
entry_named R k false e h = h

-- ---- a topic is there exactly if a reader finds something of it

module _ (t : List ℕ) where
  abbrev finds : ℕ × ℕ → Op → Bool
  finds n op = is_entry_of clock_cmp n (retain_of t op)

  finds-reads : (S : List Op) (n : ℕ × ℕ) → list_any (finds n) S ≡ is_some (retain_at t S n)
  finds-reads S n = sym (is_some-find_map clock_cmp (retain_of t) n S)

  names-finds : (op : Op) → names_topic t op ≡ true → (n : ℕ × ℕ) × (finds n op ≡ true)
  names-finds (OfSession d stamp counter change) h = absurd (true≢false (sym h))
  names-finds (OfPut d p) h = absurd (true≢false (sym h))
  names-finds (Ack d origin first last) h = absurd (true≢false (sym h))
  names-finds (OfRetain u k) h =
      (clock_of k, ap (λ b. is_entry_of clock_cmp (clock_of k) (if b then Some (clock_of k, k) else None)) h ∙ ap is_eq (tied_itself clock_total (clock_of k)))

  finds-names : (n : ℕ × ℕ) (op : Op) → finds n op ≡ true → names_topic t op ≡ true
  finds-names n (OfSession d stamp counter change) h = absurd (true≢false (sym h))
  finds-names n (OfPut d p) h = absurd (true≢false (sym h))
  finds-names n (Ack d origin first last) h = absurd (true≢false (sym h))
  finds-names n (OfRetain u k) h = entry_named clock_cmp n (same_topic t u) (clock_of k, k) h

  pub topic-there : (S : List Op) → has_topic t S ≡ true → (n : ℕ × ℕ) × (is_some (retain_at t S n) ≡ true)
  topic-there S h = let w = list_any-picks (names_topic t) finds names-finds S h in (w.0, sym (finds-reads S w.0) ∙ w.1)

  pub there-topic : (S : List Op) (n : ℕ × ℕ) → is_some (retain_at t S n) ≡ true → has_topic t S ≡ true
  there-topic S n h = list_any-weaker (finds n) (names_topic t) (finds-names n) S (finds-reads S n ∙ h)

  -- the last is there
  pub latest-there : (S : List Op) → IfSome (latest t S) (λ g. is_some (retain_at t S g) ≡ true)
  latest-there S = elim (latest t S) as (λ v. IfSome v (λ g. has clock_cmp g (clocks t S) ≡ true) → IfSome v (λ g. is_some (retain_at t S g) ≡ true)) [
    | None ↦ λ _. tt
    | Some g ↦ λ h. sym (has_clock t S g) ∙ h
  ] (greatest-has clock_cmp clock_total (clocks t S))

  -- and nothing later is
  latest-reaches : (S : List Op) (n : ℕ × ℕ) → is_some (retain_at t S n) ≡ true → IsSomeAnd (latest t S) (λ g. is_lt (clock_cmp g n) ≡ false)
  latest-reaches S n h = greatest-reaches clock_cmp clock_total n (clocks t S) (has_clock t S n ∙ h)

  -- something is retained exactly of a topic that is there
  pub topic-retained : (S : List Op) → has_topic t S ≡ is_some (retained t S)
  topic-retained S = agree_test (has_topic t S) (is_some (retained t S))
      (λ h. let w = topic-there S h in
      elim (latest t S) as (λ v. IsSomeAnd v (λ g. is_lt (clock_cmp g w.0) ≡ false) → IfSome v (λ g. is_some (retain_at t S g) ≡ true) → is_some (option_and_then (retain_at t S) v) ≡ true) [
        | None ↦ λ r _. absurd r
        | Some g ↦ λ _ there. there
      ] (latest-reaches S w.0 w.1) (latest-there S))
      (λ h. elim (latest t S) as (λ v. is_some (option_and_then (retain_at t S) v) ≡ true → has_topic t S ≡ true) [
        | None ↦ λ e. absurd (true≢false (sym e))
        | Some g ↦ λ e. there-topic S g e
      ] h)

  module _ (N W : List Op) (s : Thin N W) where
    there-back : (n : ℕ × ℕ) → is_some (retain_at t W n) ≡ true → (m : ℕ × ℕ) × (is_some (retain_at t N m) ≡ true)
    there-back n h =
        elim (latest t W) as (λ v. ((m : ℕ × ℕ) → is_outdone m v ≡ false → retain_at t N m ≡ retain_at t W m) → IsSomeAnd v (λ g. is_lt (clock_cmp g n) ≡ false) → IfSome v (λ g. is_some (retain_at t W g) ≡ true) → (m : ℕ × ℕ) × (is_some (retain_at t N m) ≡ true)) [
          | None ↦ λ _ r _. absurd r
          | Some g ↦ λ same _ there. (g, ap is_some (same g (not_outdone_itself g)) ∙ there)
        ] (s.retains_same t) (latest-reaches W n h) (latest-there W)

    pub has_topic-thin : has_topic t N ≡ has_topic t W
    has_topic-thin = agree_test (has_topic t N) (has_topic t W)
        (λ h. let w = topic-there N h in there-topic W w.0 (s.retains_there t w.0 w.1))
        (λ h. let w = topic-there W h in let v = there-back w.0 w.1 in there-topic N v.0 v.1)

-- ---- the list of topics

find_in_names : (t : List ℕ) (S : List Op) → find topic_name_cmp t (filter_map topic_in S) ≡ (if has_topic t S then Some t else None)
find_in_names t [] = refl
find_in_names t (OfSession d stamp counter change ∷ S) = find_in_names t S
find_in_names t (OfPut d p ∷ S) = find_in_names t S
find_in_names t (Ack d origin first last ∷ S) = find_in_names t S
find_in_names t (OfRetain u k ∷ S) = one_client t u (find topic_name_cmp t (filter_map topic_in S)) (has_topic t S) (find_in_names t S)

pub find_topics : (t : List ℕ) (S : List Op) → find topic_name_cmp t (in_order topic_name_cmp (filter_map topic_in S)) ≡ (if has_topic t S then Some t else None)
find_topics t S = find-in_order topic_name_cmp topic_total t (filter_map topic_in S) ∙ find_in_names t S

pub topics-thin : (N W : List Op) → Thin N W → topics N ≡ topics W
topics-thin N W s = ap names (same_entries topic_name_cmp topic_total topic_exact (in_order topic_name_cmp (filter_map topic_in N)) (in_order topic_name_cmp (filter_map topic_in W))
    (is_sorted-in_order topic_name_cmp topic_total (filter_map topic_in N)) (is_sorted-in_order topic_name_cmp topic_total (filter_map topic_in W))
    (λ q. find_topics q N ∙ ap (λ b. if b then Some q else None) (has_topic-thin q N W s) ∙ sym (find_topics q W)))

some_if : (b : Bool) (t : List ℕ) → is_some (if b then Some t else None) ≡ b
some_if true t = refl
some_if false t = refl

any_topic : (t : List ℕ) (S : List Op) → list_any (eq_by_cmp topic_name_cmp t) (topics S) ≡ has_topic t S
any_topic t S = sym (is_some-find topic_name_cmp t (in_order topic_name_cmp (filter_map topic_in S))) ∙ ap is_some (find_topics t S) ∙ some_if (has_topic t S) t

-- the topics are those of which something is there
pub topics-named : (t : List ℕ) (S : List Op) → IsTrue (has_topic t S) ↔ Contains (topics S) t
topics-named t S = (
  λ h. Contains-from_any (tells_apart topic_exact) t (topics S) (any_topic t S ∙ h),
  λ h. sym (any_topic t S) ∙ list_any-from_Contains (eq_by_cmp_equiv topic_total) t (topics S) h,
)

pub topics-ascend : (S : List Op) → IsStrictlySortedBy topic_name_cmp (topics S)
topics-ascend S = sorted_names topic_name_cmp (in_order topic_name_cmp (filter_map topic_in S)) (is_sorted-in_order topic_name_cmp topic_total (filter_map topic_in S))

pub all_retained-thin : (N W : List Op) → Thin N W → all_retained N ≡ all_retained W
all_retained-thin N W s = λ i. filter_map (λ (t : List ℕ). option_map (λ (k : Retained). (t, k)) (retained-thin N W s t i)) (topics-thin N W s i)

pub retained-counts : (t : List ℕ) (S K : List Op) → CountsAs S K → retained t K ≡ retained t S
retained-counts t = same_by_counts (retained t) (λ N W s. retained-thin N W s t)

pub topics-counts : (S K : List Op) → CountsAs S K → topics K ≡ topics S
topics-counts = same_by_counts topics topics-thin

pub all_retained-counts : (S K : List Op) → CountsAs S K → all_retained K ≡ all_retained S
all_retained-counts = same_by_counts all_retained all_retained-thin

pub retained_matching-counts : (asked : List ℕ) (S K : List Op) → CountsAs S K → retained_matching asked K ≡ retained_matching asked S
retained_matching-counts asked S K h = ap (filter (is_offered asked)) (all_retained-counts S K h)

-- ---- clocks

module _ (t : List ℕ) where
  clock-finds : (op : Op) → (clock_in t op ≡ 0) ⊎ ((n : ℕ × ℕ) × (finds t n op ≡ true) × (n.0 ≡ clock_in t op))
  clock-finds (OfSession d stamp counter change) = inl refl
  clock-finds (OfPut d p) = inl refl
  clock-finds (Ack d origin first last) = inl refl
  clock-finds (OfRetain u k) =
      elim (same_topic t u) as (λ b. ((if b then k.clock else 0) ≡ 0) ⊎ ((n : ℕ × ℕ) × (is_entry_of clock_cmp n (if b then Some (clock_of k, k) else None) ≡ true) × (n.0 ≡ (if b then k.clock else 0)))) [
        | true ↦ inr (clock_of k, ap is_eq (tied_itself clock_total (clock_of k)), refl)
        | false ↦ inl refl
      ]

  clock-below : (n : ℕ × ℕ) (op : Op) → finds t n op ≡ true → n.0 ≤ clock_in t op
  clock-below n (OfSession d stamp counter change) e = absurd (true≢false (sym e))
  clock-below n (OfPut d p) e = absurd (true≢false (sym e))
  clock-below n (Ack d origin first last) e = absurd (true≢false (sym e))
  clock-below n (OfRetain u k) e =
      elim (same_topic t u) as (λ b. is_entry_of clock_cmp n (if b then Some (clock_of k, k) else None) ≡ true → n.0 ≤ (if b then k.clock else 0)) [
        | true ↦ λ h. let same : n.0 ≡ k.clock = ap (λ (m : ℕ × ℕ). m.0) (tells_apart clock_exact n (clock_of k) h) in omega (arith, same)
        | false ↦ λ h. absurd (true≢false (sym h))
      ] e

  pub clock-at_most : (S : List Op) (m : ℕ) → ((n : ℕ × ℕ) → is_some (retain_at t S n) ≡ true → n.0 ≤ m) → largest (clock_in t) S ≤ m
  clock-at_most S m h = largest-least (clock_in t) (finds t) (λ (n : ℕ × ℕ). n.0) clock-finds m S (λ n e. h n (sym (finds-reads t S n) ∙ e))

  pub clock-reaches : (S : List Op) (n : ℕ × ℕ) → is_some (retain_at t S n) ≡ true → n.0 ≤ largest (clock_in t) S
  clock-reaches S n e = largest-reaches (clock_in t) (finds t) (λ (n : ℕ × ℕ). n.0) clock-below n S (finds-reads t S n ∙ e)

-- a name that is not below another has no lesser clock
not_less : (g n : ℕ × ℕ) → is_lt (clock_cmp g n) ≡ false → n.0 ≤ g.0
not_less g n = by_order (nat_cmp g.0 n.0) refl
  where
    by_order : (r : Ordering) → r ≡ nat_cmp g.0 n.0 → is_lt (ordering_then r (nat_cmp g.1 n.1)) ≡ false → n.0 ≤ g.0
    by_order Less e h = absurd (true≢false h)
    by_order Equal e h = let same = ranked g.0 n.0 Equal e in omega (arith, same)
    by_order Greater e h = let more = ranked g.0 n.0 Greater e in omega (arith, more)

-- a lesser clock is below
less_clock : (g n : ℕ × ℕ) → g.0 < n.0 → is_lt (clock_cmp g n) ≡ true
less_clock g n lt = by_order (nat_cmp g.0 n.0) refl
  where
    by_order : (r : Ordering) → r ≡ nat_cmp g.0 n.0 → is_lt (ordering_then r (nat_cmp g.1 n.1)) ≡ true
    by_order Less e = refl
    by_order Equal e = absurd (let same = ranked g.0 n.0 Equal e in omega (arith, same, lt))
    by_order Greater e = absurd (let more = ranked g.0 n.0 Greater e in omega (arith, more, lt))

module _ (t : List ℕ) (N W : List Op) (s : Thin N W) where
  -- the last of W is in N, and its clock is no less than any
  last_above : (n : ℕ × ℕ) → is_some (retain_at t W n) ≡ true → (g : ℕ × ℕ) × (n.0 ≤ g.0) × (is_some (retain_at t N g) ≡ true)
  last_above n h =
      elim (latest t W) as (λ v. ((m : ℕ × ℕ) → is_outdone m v ≡ false → retain_at t N m ≡ retain_at t W m) → IsSomeAnd v (λ g. is_lt (clock_cmp g n) ≡ false) → IfSome v (λ g. is_some (retain_at t W g) ≡ true) → (g : ℕ × ℕ) × (n.0 ≤ g.0) × (is_some (retain_at t N g) ≡ true)) [
        | None ↦ λ _ r _. absurd r
        | Some g ↦ λ same r there. (g, not_less g n r, ap is_some (same g (not_outdone_itself g)) ∙ there)
      ] (s.retains_same t) (latest-reaches t W n h) (latest-there t W)

  pub next_clock-thin : next_clock t N ≡ next_clock t W
  next_clock-thin = ap one_more (le_antisymm
      (clock-at_most t N (largest (clock_in t) W) (λ n e. clock-reaches t W n (s.retains_there t n e)))
      (clock-at_most t W (largest (clock_in t) N) (λ n e. let w = last_above n e in omega (arith, w.1, clock-reaches t N w.0 w.2))))

pub next_clock-counts : (t : List ℕ) (S K : List Op) → CountsAs S K → next_clock t K ≡ next_clock t S
next_clock-counts t = same_by_counts (next_clock t) (λ N W s. next_clock-thin t N W s)

-- ---- the law of the last

module _ (t : List ℕ) (S : List Op) (k : Retained) where
  -- what is retained stands in the set, and nothing later does
  pub retained-last : retained t S ≡ Some k → (retain_at t S (clock_of k) ≡ Some k) × ((name : ℕ × ℕ) → is_some (retain_at t S name) ≡ true → is_lt (clock_cmp (clock_of k) name) ≡ false)
  retained-last = go (latest t S) (latest-reaches t S)
    where
      go : (v : Option (ℕ × ℕ)) → ((n : ℕ × ℕ) → is_some (retain_at t S n) ≡ true → IsSomeAnd v (λ g. is_lt (clock_cmp g n) ≡ false)) → option_and_then (retain_at t S) v ≡ Some k
          → (retain_at t S (clock_of k) ≡ Some k) × ((name : ℕ × ℕ) → is_some (retain_at t S name) ≡ true → is_lt (clock_cmp (clock_of k) name) ≡ false)
      go None r e = absurd cc
      go (Some g) r e =
          let named = (retain_occurs t S g k e).1 in
          (subst (λ (n : ℕ × ℕ). retain_at t S n ≡ Some k) (sym named) e, λ name there. subst (λ (n : ℕ × ℕ). is_lt (clock_cmp n name) ≡ false) (sym named) (r name there))

  -- and leaves only by what is retained later
  pub retained-leaves : (W : List Op) → Within S W → retained t S ≡ Some k → (later : Retained) × (retained t W ≡ Some later) × ((later ≡ k) ⊎ IsTrue (is_lt (clock_cmp (clock_of k) (clock_of later))))
  retained-leaves W within e = go (latest t W) (latest-reaches t W (clock_of k) (ap is_some there)) (latest-there t W)
    where
      there : retain_at t W (clock_of k) ≡ Some k
      there = within.retains_in t (clock_of k) k (retained-last e).0

      same : (g : ℕ × ℕ) (l : Retained) → retain_at t W g ≡ Some l → clock_cmp (clock_of k) g ≡ Equal → l ≡ k
      same g l is tied =
          let one : clock_of k ≡ g = clock_exact (clock_of k) g tied in
          let both : Some l ≡ Some k = sym is ∙ ap (retain_at t W) (sym one) ∙ there in
          cc

      compared : (g : ℕ × ℕ) (l : Retained) → retain_at t W g ≡ Some l → clock_of l ≡ g → is_lt (clock_cmp g (clock_of k)) ≡ false → (o : Ordering) → clock_cmp (clock_of k) g ≡ o
          → (l ≡ k) ⊎ IsTrue (is_lt (clock_cmp (clock_of k) (clock_of l)))
      compared g l is named last Less o = inr (ap (λ (n : ℕ × ℕ). is_lt (clock_cmp (clock_of k) n)) named ∙ ap is_lt o)
      compared g l is named last Equal o = inl (same g l is o)
      compared g l is named last Greater o =
          absurd (true≢false (sym (ap is_lt (clock_total.antisymm g (clock_of k) ∙ ap ordering_reverse o)) ∙ last))

      found : (g : ℕ × ℕ) → is_lt (clock_cmp g (clock_of k)) ≡ false → (o : Option Retained) → retain_at t W g ≡ o → is_some o ≡ true
          → (later : Retained) × (o ≡ Some later) × ((later ≡ k) ⊎ IsTrue (is_lt (clock_cmp (clock_of k) (clock_of later))))
      found g last None is h = absurd (true≢false (sym h))
      found g last (Some l) is h = (l, refl, compared g l is (retain_occurs t W g l is).1 last (clock_cmp (clock_of k) g) refl)

      go : (v : Option (ℕ × ℕ)) → IsSomeAnd v (λ g. is_lt (clock_cmp g (clock_of k)) ≡ false) → IfSome v (λ g. is_some (retain_at t W g) ≡ true)
          → (later : Retained) × (option_and_then (retain_at t W) v ≡ Some later) × ((later ≡ k) ⊎ IsTrue (is_lt (clock_cmp (clock_of k) (clock_of later))))
      go None r h = absurd r
      go (Some g) r h = found g r (retain_at t W g) refl h

-- the last name is that of what is retained
pub latest-retained : (t : List ℕ) (S : List Op) → latest t S ≡ option_map clock_of (retained t S)
latest-retained t S = go (latest t S) (latest-there t S)
  where
    found : (g : ℕ × ℕ) (o : Option Retained) → retain_at t S g ≡ o → is_some o ≡ true → Some g ≡ option_map clock_of o
    found g None e h = absurd (true≢false (sym h))
    found g (Some k) e h = ap Some (sym (retain_occurs t S g k e).1)

    go : (v : Option (ℕ × ℕ)) → IfSome v (λ g. is_some (retain_at t S g) ≡ true) → v ≡ option_map clock_of (option_and_then (retain_at t S) v)
    go None h = refl
    go (Some g) h = found g (retain_at t S g) refl h

-- what stands in a set, and nothing later does, is retained
pub retained-is : (t : List ℕ) (S : List Op) (k : Retained) → retain_at t S (clock_of k) ≡ Some k → ((name : ℕ × ℕ) → is_some (retain_at t S name) ≡ true → is_lt (clock_cmp (clock_of k) name) ≡ false)
    → retained t S ≡ Some k
retained-is t S k here last = go (latest t S) (latest-reaches t S (clock_of k) (ap is_some here)) (latest-there t S)
  where
    level : (g : ℕ × ℕ) → is_lt (clock_cmp g (clock_of k)) ≡ false → is_lt (clock_cmp (clock_of k) g) ≡ false → (o : Ordering) → clock_cmp g (clock_of k) ≡ o → g ≡ clock_of k
    level g up down Less o = absurd (true≢false (sym (ap is_lt o) ∙ up))
    level g up down Equal o = clock_exact g (clock_of k) o
    level g up down Greater o = absurd (true≢false (sym (ap is_lt (clock_total.antisymm (clock_of k) g ∙ ap ordering_reverse o)) ∙ down))

    go : (v : Option (ℕ × ℕ)) → IsSomeAnd v (λ g. is_lt (clock_cmp g (clock_of k)) ≡ false) → IfSome v (λ g. is_some (retain_at t S g) ≡ true) → option_and_then (retain_at t S) v ≡ Some k
    go None r h = absurd r
    go (Some g) r h = ap (retain_at t S) (level g r (last g h) (clock_cmp g (clock_of k)) refl) ∙ here

-- what must be kept under a name is what is retained
pub kept-last : (t : List ℕ) (S : List Op) (n : ℕ × ℕ) (k : Retained) → retain_at t (keep S) n ≡ Some k → retained t S ≡ Some k
kept-last t S n k e =
    let parts = kept_parts (is_outdone n (latest t S)) (retain_at t S n) (sym (retain_at_keep t S n) ∙ e) in
    let named : clock_of k ≡ n = (retain_occurs t S n k parts.1).1 in
    retained-is t S k (ap (retain_at t S) named ∙ parts.1) (λ m h. ap (λ (q : ℕ × ℕ). is_lt (clock_cmp q m)) named ∙ not_after m (latest t S) (latest-reaches t S m h) parts.0)
  where
    kept_parts : (b : Bool) (o : Option Retained) → cond (not b) o None ≡ Some k → (b ≡ false) × (o ≡ Some k)
    kept_parts false o h = (refl, h)
    kept_parts true o h = absurd (true≢false (sym (ap is_some h)))

    not_after : (m : ℕ × ℕ) (v : Option (ℕ × ℕ)) → IsSomeAnd v (λ g. is_lt (clock_cmp g m) ≡ false) → is_outdone n v ≡ false → is_lt (clock_cmp n m) ≡ false
    not_after m None r h = absurd r
    not_after m (Some g) r h = not_below clock_cmp clock_total n g m h r

-- where nothing is retained, nothing ever was
pub retained-none : (t : List ℕ) (S : List Op) → retained t S ≡ None → (n : ℕ × ℕ) → retain_at t S n ≡ None
retained-none t S e n = none (retain_at t S n) refl
  where
    none : (o : Option Retained) → retain_at t S n ≡ o → o ≡ None
    none None is = refl
    none (Some k) is = absurd (true≢false (sym (there-topic t S n (ap is_some is)) ∙ (topic-retained t S ∙ ap is_some e)))

none_of : (t : List ℕ) (S : List Op) → ((n : ℕ × ℕ) → retain_at t S n ≡ None) → retained t S ≡ None
none_of t S h = elim (latest t S) as (λ v. option_and_then (retain_at t S) v ≡ None) [ None ↦ refl | Some g ↦ h g ]

-- what is retained of two sets together is the later of both
module _ (t : List ℕ) (A B : List Op) where
  in_either : (n : ℕ × ℕ) → is_some (retain_at t (A ++ B) n) ≡ true → (is_some (retain_at t A n) ≡ true) ⊎ (is_some (retain_at t B n) ≡ true)
  in_either n h = either (retain_at t A n) (sym (ap is_some (retain_at_both t A B n)) ∙ h)
    where
      either : (o : Option Retained) → is_some (or_else o (retain_at t B n)) ≡ true → (is_some o ≡ true) ⊎ (is_some (retain_at t B n) ≡ true)
      either None h = inr h
      either (Some k) h = inl refl

  in_first : (n : ℕ × ℕ) (k : Retained) → retain_at t A n ≡ Some k → retain_at t (A ++ B) n ≡ Some k
  in_first n k e = retain_at_both t A B n ∙ ap (λ o. or_else o (retain_at t B n)) e

  in_second : (n : ℕ × ℕ) → retain_at t A n ≡ None → retain_at t (A ++ B) n ≡ retain_at t B n
  in_second n e = retain_at_both t A B n ∙ ap (λ o. or_else o (retain_at t B n)) e

  two : (a b : Retained) → retained t A ≡ Some a → retained t B ≡ Some b → (l : Bool) → is_lt (clock_cmp (clock_of a) (clock_of b)) ≡ l → retained t (A ++ B) ≡ (if l then Some b else Some a)
  two a b p q true lt =
      let first = retained-last t A a p in
      let second = retained-last t B b q in
      retained-is t (A ++ B) b (in_second (clock_of b) (absent (retain_at t A (clock_of b)) refl first.1) ∙ second.0)
      (λ n h. elim (in_either n h) [
        | inl there ↦ upper n (first.1 n there) (is_lt (clock_cmp (clock_of b) n)) refl
        | inr there ↦ second.1 n there
      ])
    where
      absent : (o : Option Retained) → retain_at t A (clock_of b) ≡ o → ((n : ℕ × ℕ) → is_some (retain_at t A n) ≡ true → is_lt (clock_cmp (clock_of a) n) ≡ false) → retain_at t A (clock_of b) ≡ None
      absent None is last = is
      absent (Some k) is last = absurd (true≢false (sym lt ∙ last (clock_of b) (ap is_some is)))

      less_of : (o : Ordering) → is_lt o ≡ true → o ≡ Less
      less_of Less e = refl
      less_of Equal e = absurd (true≢false (sym e))
      less_of Greater e = absurd (true≢false (sym e))

      -- what is not after a is not after b, which is after a
      upper : (n : ℕ × ℕ) → is_lt (clock_cmp (clock_of a) n) ≡ false → (m : Bool) → is_lt (clock_cmp (clock_of b) n) ≡ m → m ≡ false
      upper n last false is = refl
      upper n last true is =
          let far = clock_total.trans (clock_of a) (clock_of b) n (less_of _ lt) (less_of _ is) in
          absurd (true≢false (sym (ap is_lt far) ∙ last))
  two a b p q false lt =
      let first = retained-last t A a p in
      let second = retained-last t B b q in
      retained-is t (A ++ B) a (in_first (clock_of a) a first.0)
      (λ n h. elim (in_either n h) [
        | inl there ↦ first.1 n there
        | inr there ↦ not_below clock_cmp clock_total (clock_of a) (clock_of b) n lt (second.1 n there)
      ])

  by_parts : (x y : Option Retained) → retained t A ≡ x → retained t B ≡ y → retained t (A ++ B) ≡ later_of x y
  by_parts None None p q = none_of t (A ++ B) (λ n. in_second n (retained-none t A p n) ∙ retained-none t B q n)
  by_parts None (Some b) p q =
      let second = retained-last t B b q in
      retained-is t (A ++ B) b (in_second (clock_of b) (retained-none t A p (clock_of b)) ∙ second.0)
      (λ n h. second.1 n (sym (ap is_some (in_second n (retained-none t A p n))) ∙ h))
  by_parts (Some a) None p q =
      let first = retained-last t A a p in
      retained-is t (A ++ B) a (in_first (clock_of a) a first.0)
      (λ n h. elim (in_either n h) [
        | inl there ↦ first.1 n there
        | inr there ↦ absurd (true≢false (sym there ∙ ap is_some (retained-none t B q n)))
      ])
  by_parts (Some a) (Some b) p q = two a b p q (is_lt (clock_cmp (clock_of a) (clock_of b))) refl

  pub retained-both : retained t (A ++ B) ≡ later_of (retained t A) (retained t B)
  retained-both = by_parts (retained t A) (retained t B) refl refl

one_more_is : (m n : ℕ) → one_more m ≡ Some n → n ≡ m + 1
one_more_is m n = elim (nat_lt (m + 1) (2 ^ 64)) as (λ b. (if b then Some (m + 1) else None) ≡ Some n → n ≡ m + 1) [
  | true ↦ λ e. some_number (m + 1) n e
  | false ↦ λ e. absurd (true≢false (sym (ap is_some e)))
]
  where
    some_number : (a b : ℕ) → Some a ≡ Some b → b ≡ a
    some_number a b e = cc

-- nothing stands under the next clock, whatever the gateway
pub next_clock-free : (t : List ℕ) (S : List Op) (n gateway : ℕ) → next_clock t S ≡ Some n → retain_at t S (n, gateway) ≡ None
next_clock-free t S n gateway e = none (retain_at t S (n, gateway)) refl
  where
    none : (o : Option Retained) → retain_at t S (n, gateway) ≡ o → o ≡ None
    none None is = refl
    none (Some l) is =
        let up = clock-reaches t S (n, gateway) (ap is_some is) in
        let next = one_more_is (largest (clock_in t) S) n e in
        absurd (omega (arith, up, next))

one_alone : (t : List ℕ) (k : Retained) (n : ℕ × ℕ) → retain_at t (OfRetain t k ∷ []) n ≡ cond (is_eq (clock_cmp n (clock_of k))) (Some k) None
one_alone t k n = ap (λ b. find clock_cmp n (cons_option (if b then Some (clock_of k, k) else None) [])) ((bytes_eq-Decides t t).1 refl)

-- what is retained under the next clock wins
module _ (t : List ℕ) (S : List Op) (k : Retained) (e : next_clock t S ≡ Some k.clock) where
  abbrev more : List Op
  more = S ++ OfRetain t k ∷ []

  itself : retain_at t (OfRetain t k ∷ []) (clock_of k) ≡ Some k
  itself = one_alone t k (clock_of k) ∙ ap (λ o. cond (is_eq o) (Some k) None) (tied_itself clock_total (clock_of k))

  stands : retain_at t more (clock_of k) ≡ Some k
  stands = retain_at_both t S (OfRetain t k ∷ []) (clock_of k) ∙ ap (λ a. or_else a (retain_at t (OfRetain t k ∷ []) (clock_of k))) (next_clock-free t S k.clock k.gateway e) ∙ itself

  under : (g : ℕ × ℕ) → is_lt (clock_cmp g (clock_of k)) ≡ false → is_some (retain_at t S g) ≡ true → ⊥
  under g last h =
      let up = clock-reaches t S g h in
      let next = one_more_is (largest (clock_in t) S) k.clock e in
      true≢false (sym (less_clock g (clock_of k) (omega (arith, up, next))) ∙ last)

  equal : (o : Ordering) → is_some (cond (is_eq o) (Some k) None) ≡ true → o ≡ Equal
  equal Less h = absurd (true≢false (sym h))
  equal Equal h = refl
  equal Greater h = absurd (true≢false (sym h))

  is_last : (g : ℕ × ℕ) → is_lt (clock_cmp g (clock_of k)) ≡ false → (o : Option Retained) → retain_at t S g ≡ o → is_some (or_else o (retain_at t (OfRetain t k ∷ []) g)) ≡ true → g ≡ clock_of k
  is_last g last (Some l) is h = absurd (under g last (ap is_some is))
  is_last g last None is h = clock_exact g (clock_of k) (equal (clock_cmp g (clock_of k)) (sym (ap is_some (one_alone t k g)) ∙ h))

  last_of : (v : Option (ℕ × ℕ)) → IsSomeAnd v (λ g. is_lt (clock_cmp g (clock_of k)) ≡ false) → IfSome v (λ g. is_some (retain_at t more g) ≡ true) → option_and_then (retain_at t more) v ≡ Some k
  last_of None r h = absurd r
  last_of (Some g) r h =
      let same : g ≡ clock_of k = is_last g r (retain_at t S g) refl (sym (ap is_some (retain_at_both t S (OfRetain t k ∷ []) g)) ∙ h) in
      ap (retain_at t more) same ∙ stands

  pub next_clock-wins : retained t (S ++ OfRetain t k ∷ []) ≡ Some k
  next_clock-wins = last_of (latest t more) (latest-reaches t more (clock_of k) (ap is_some stands)) (latest-there t more)
