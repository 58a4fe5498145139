-- What a table has of a topic is what is retained of it in the set that the table keeps; and a table with operations keeps what must be kept
-- of both.
use Rattle.std.proofs.Common.{◌≡◌, ℕ, Bool, true, false, cond, not, ◌&&◌, ◌||◌, if◌then◌else◌, T, List, [], ◌∷◌, ◌++◌, map, filter_map, length, Option, Some, None, is_some, IfSome, refl, sym, ap, ◌∙◌, subst, true≢false, Ordering, Less, Equal, Greater, is_eq, is_lt, append-nil}
use Rattle.std.specs.Prelude.{option_and_then, option_map}
use Rattle.std.specs.List.{AllByRecursion, cons_option, list_any}
use Rattle.std.specs.Cmp.{IsTotalOrder}
use Rattle.std.specs.Ordering.{ordering_reverse}
use Rattle.std.specs.FinMap.{find}
use Rattle.std.specs.FinMap.Entries.{below_all, is_sorted, same_entries}
use Rattle.std.proofs.lemmas.Cmp.{on_total, tied_itself}
use Rattle.std.proofs.lemmas.Map.Text.{is_eq-slice_cmp}
use Rattle.std.proofs.lemmas.Slice.Eq.{bytes_eq-Decides}
use Rattle.sn_tables.specs.Tables.{with_entry, by_order}
use Rattle.sn_tables.proofs.Ascending.{Ascends, ascends_with}
use Rattle.rep_op.specs.declared.op.Retained.{Retained}
use Rattle.rep_op.specs.declared.op.Op.{Op}
use Rattle.rep_op.specs.declared.op.Op.TheVariants.{Session as OfSession, Put as OfPut, Ack, Retain as OfRetain}
use Rattle.rep_op.specs.Orders.{topic_name_cmp, clock_of, clock_cmp, is_of_client, AreOfTopics}
use Rattle.rep_op.specs.Sets.{same_topic, retains, retain_at}
use Rattle.rep_model.specs.Views.{greatest, names, in_order}
use Rattle.rep_model.specs.Topics.{retained, later_of, topic_in, topics, has_topic, told_of, all_retained}
use Rattle.rep_model.proofs.Lookup.{is_sorted-in_order}
use Rattle.rep_model.proofs.Greatest.{not_below}
use Rattle.rep_model.proofs.Readers.{clock_total, clock_exact, topic_total, topic_exact, same_topic-true}
use Rattle.rep_model.proofs.Topics.{find_topics, topic-retained, retained-both}
use Rattle.rep_retain.specs.Tables.{entry_cmp, op_of, ops_of}
use Rattle.rep_retain.specs.inner.Tables.{kept_in, latest_of, with_kept, with_op, with_ops}

pub entry_total : IsTotalOrder entry_cmp
entry_total = on_total (λ (e : List ℕ × Retained). e.0) topic_total

-- every entry of a table is of a topic
pub are_of_topics : (es : List (List ℕ × Retained)) → AreOfTopics (ops_of es)
are_of_topics [] = tt
are_of_topics (e ∷ es) = (refl, are_of_topics es)

-- ---- topics that are compared

pub apart : (t u : List ℕ) (o : Ordering) → topic_name_cmp t u ≡ o → is_eq o ≡ false → same_topic t u ≡ false
apart t u o e differ = sym (is_eq-slice_cmp t u) ∙ ap is_eq e ∙ differ

pub tied : (t u : List ℕ) → topic_name_cmp t u ≡ Equal → t ≡ u
tied t u e = topic_exact t u e

pub turned : (t u : List ℕ) → same_topic t u ≡ false → same_topic u t ≡ false
turned t u e =
    elim (same_topic u t) as (λ b. same_topic u t ≡ b → b ≡ false) [
      | true ↦ λ q. absurd (true≢false (sym ((bytes_eq-Decides t u).1 (sym (same_topic-true u t q))) ∙ e))
      | false ↦ λ _. refl
    ] refl

-- ---- what a table has of a topic

-- at most one, under its name
abbrev pub one_of : Option Retained → List ((ℕ × ℕ) × Retained)
one_of None = []
one_of (Some k) = (clock_of k, k) ∷ []

absent : (t : List ℕ) (es : List (List ℕ × Retained)) → AllByRecursion (λ f. topic_name_cmp t f.0 ≡ Less) es → retains t (ops_of es) ≡ []
absent t [] h = refl
absent t (e ∷ es) h = ap (λ b. cons_option (if b then Some (clock_of e.1, e.1) else None) (retains t (ops_of es))) (apart t e.0 Less h.0 refl) ∙ absent t es h.1

pub retains_found : (t : List ℕ) (es : List (List ℕ × Retained)) → Ascends entry_cmp es → retains t (ops_of es) ≡ one_of (kept_in t es)
retains_found t [] h = refl
retains_found t (e ∷ es) h = elim (same_topic t e.0) as (λ b. same_topic t e.0 ≡ b → cons_option (if b then Some (clock_of e.1, e.1) else None) (retains t (ops_of es)) ≡ one_of (if b then Some e.1 else kept_in t es)) [
  | true ↦ λ q. ap (λ ks. (clock_of e.1, e.1) ∷ ks) (absent t es (subst (λ u. AllByRecursion (λ f. topic_name_cmp u f.0 ≡ Less) es) (sym (same_topic-true t e.0 q)) h.0))
  | false ↦ λ _. retains_found t es h.1
] refl

-- the only one is the last
last_of_one : (o : Option Retained) → option_and_then (λ (n : ℕ × ℕ). find clock_cmp n (one_of o)) (greatest clock_cmp (names (one_of o))) ≡ o
last_of_one None = refl
last_of_one (Some k) = ap (λ r. cond (is_eq r) (Some k) None) (tied_itself clock_total (clock_of k))

pub retained_found : (t : List ℕ) (es : List (List ℕ × Retained)) → Ascends entry_cmp es → retained t (ops_of es) ≡ kept_in t es
retained_found t es h =
    ap (λ (rs : List ((ℕ × ℕ) × Retained)). option_and_then (λ (n : ℕ × ℕ). find clock_cmp n rs) (greatest clock_cmp (names rs))) (retains_found t es h)
    ∙ last_of_one (kept_in t es)

-- ---- one more

-- what a table has once an entry is in it
kept_with : (u t : List ℕ) (v : Retained) (es : List (List ℕ × Retained)) → kept_in u (with_entry entry_cmp (t, v) es) ≡ (if same_topic u t then Some v else kept_in u es)
kept_with u t v [] = refl
kept_with u t v (a ∷ es) =
    elim (topic_name_cmp t a.0) as (λ o. topic_name_cmp t a.0 ≡ o → kept_in u (by_order o ((t, v) ∷ a ∷ es) ((t, v) ∷ es) (a ∷ with_entry entry_cmp (t, v) es)) ≡ (if same_topic u t then Some v else (if same_topic u a.0 then Some a.1 else kept_in u es))) [
      | Less ↦ λ _. refl
      | Equal ↦ λ e. in_place (ap (same_topic u) (sym (tied t a.0 e)))
      | Greater ↦ λ e. ap (λ o. if same_topic u a.0 then Some a.1 else o) (kept_with u t v es) ∙ past (turned t a.0 (apart t a.0 Greater e refl))
    ] refl
  where
    in_place : same_topic u a.0 ≡ same_topic u t → (if same_topic u t then Some v else kept_in u es) ≡ (if same_topic u t then Some v else (if same_topic u a.0 then Some a.1 else kept_in u es))
    in_place same = elim (same_topic u t) as (λ b. same_topic u a.0 ≡ b → (if b then Some v else kept_in u es) ≡ (if b then Some v else (if same_topic u a.0 then Some a.1 else kept_in u es))) [
      | true ↦ λ _. refl
      | false ↦ λ e. sym (ap (λ b. if b then Some a.1 else kept_in u es) e)
    ] same

    past : same_topic a.0 t ≡ false → (if same_topic u a.0 then Some a.1 else (if same_topic u t then Some v else kept_in u es)) ≡ (if same_topic u t then Some v else (if same_topic u a.0 then Some a.1 else kept_in u es))
    past other = elim (same_topic u a.0) as (λ b. same_topic u a.0 ≡ b → (if b then Some a.1 else (if same_topic u t then Some v else kept_in u es)) ≡ (if same_topic u t then Some v else (if b then Some a.1 else kept_in u es))) [
      | true ↦ λ e. sym (ap (λ b. if b then Some v else Some a.1) (ap (λ w. same_topic w t) (same_topic-true u a.0 e) ∙ other))
      | false ↦ λ _. refl
    ] refl

pub ascends_op : (es : List (List ℕ × Retained)) (op : Op) → Ascends entry_cmp es → Ascends entry_cmp (with_op es op)
ascends_op es (OfSession c s i o) h = h
ascends_op es (OfPut c p) h = h
ascends_op es (Ack c r f l) h = h
ascends_op es (OfRetain t k) h = ascends_with entry_cmp entry_total (t, latest_of (kept_in t es) k) es h

pub ascends_ops : (es : List (List ℕ × Retained)) (ops : List Op) → Ascends entry_cmp es → Ascends entry_cmp (with_ops es ops)
ascends_ops es [] h = h
ascends_ops es (op ∷ ops) h = ascends_ops (with_op es op) ops (ascends_op es op h)

-- ---- the later of two

later_none : (x : Option Retained) → later_of x None ≡ x
later_none None = refl
later_none (Some k) = refl

later_latest : (x : Option Retained) (k : Retained) → later_of x (Some k) ≡ Some (latest_of x k)
later_latest None k = refl
later_latest (Some own) k = elim (is_lt (clock_cmp (clock_of own) (clock_of k))) as (λ b. (if b then Some k else Some own) ≡ Some (if b then k else own)) [ true ↦ refl | false ↦ refl ]

less_of : (o : Ordering) → is_lt o ≡ true → o ≡ Less
less_of Less e = refl
less_of Equal e = absurd (true≢false (sym e))
less_of Greater e = absurd (true≢false (sym e))

later_assoc : (x y z : Option Retained) → later_of (later_of x y) z ≡ later_of x (later_of y z)
later_assoc None y z = refl
later_assoc (Some a) None z = refl
later_assoc (Some a) (Some b) None = later_none (later_of (Some a) (Some b))
later_assoc (Some a) (Some b) (Some c) =
    elim (is_lt (clock_cmp (clock_of a) (clock_of b))) as (λ p. is_lt (clock_cmp (clock_of a) (clock_of b)) ≡ p → later_of (if p then Some b else Some a) (Some c) ≡ later_of (Some a) (if is_lt (clock_cmp (clock_of b) (clock_of c)) then Some c else Some b)) [
      | true ↦ λ p. elim (is_lt (clock_cmp (clock_of b) (clock_of c))) as (λ q. is_lt (clock_cmp (clock_of b) (clock_of c)) ≡ q → (if q then Some c else Some b) ≡ later_of (Some a) (if q then Some c else Some b)) [
        | true ↦ λ q.
            let far = clock_total.trans (clock_of a) (clock_of b) (clock_of c) (less_of _ p) (less_of _ q) in
            sym (ap (λ r. if is_lt r then Some c else Some a) far)
        | false ↦ λ _. sym (ap (λ r. if r then Some b else Some a) p)
      ] refl
      | false ↦ λ p. elim (is_lt (clock_cmp (clock_of b) (clock_of c))) as (λ q. is_lt (clock_cmp (clock_of b) (clock_of c)) ≡ q → later_of (Some a) (Some c) ≡ later_of (Some a) (if q then Some c else Some b)) [
        | true ↦ λ _. refl
        | false ↦ λ q.
            let none = not_below clock_cmp clock_total (clock_of a) (clock_of b) (clock_of c) p q in
            ap (λ r. if r then Some c else Some a) none ∙ sym (ap (λ r. if r then Some b else Some a) p)
      ] refl
    ] refl

-- what one operation retains
one_retained : (u : List ℕ) (op : Op) → Option Retained
one_retained u (OfSession c s i o) = None
one_retained u (OfPut c p) = None
one_retained u (Ack c r f l) = None
one_retained u (OfRetain t k) = if same_topic u t then Some k else None

retained_one : (u : List ℕ) (op : Op) → retained u (op ∷ []) ≡ one_retained u op
unfolding one_retained
retained_one u (OfSession c s i o) = refl
retained_one u (OfPut c p) = refl
retained_one u (Ack c r f l) = refl
retained_one u (OfRetain t k) =
    elim (same_topic u t) as (λ b. option_and_then (λ (n : ℕ × ℕ). find clock_cmp n (cons_option (if b then Some (clock_of k, k) else None) [])) (greatest clock_cmp (names (cons_option (if b then Some (clock_of k, k) else None) []))) ≡ (if b then Some k else None)) [
      | true ↦ last_of_one (Some k)
      | false ↦ refl
    ]

kept_op : (u : List ℕ) (es : List (List ℕ × Retained)) (op : Op) → kept_in u (with_op es op) ≡ later_of (kept_in u es) (one_retained u op)
unfolding one_retained
kept_op u es (OfSession c s i o) = sym (later_none (kept_in u es))
kept_op u es (OfPut c p) = sym (later_none (kept_in u es))
kept_op u es (Ack c r f l) = sym (later_none (kept_in u es))
kept_op u es (OfRetain t k) =
    kept_with u t (latest_of (kept_in t es) k) es
    ∙ elim (same_topic u t) as (λ b. same_topic u t ≡ b → (if b then Some (latest_of (kept_in t es) k) else kept_in u es) ≡ later_of (kept_in u es) (if b then Some k else None)) [
      | true ↦ λ e. ap (λ w. Some (latest_of (kept_in w es) k)) (sym (same_topic-true u t e)) ∙ sym (later_latest (kept_in u es) k)
      | false ↦ λ _. sym (later_none (kept_in u es))
    ] refl

-- a table with operations has of each topic what is retained of it in both
pub kept_ops : (u : List ℕ) (es : List (List ℕ × Retained)) (ops : List Op) → Ascends entry_cmp es → kept_in u (with_ops es ops) ≡ later_of (kept_in u es) (retained u ops)
kept_ops u es [] h = sym (later_none (kept_in u es))
kept_ops u es (op ∷ ops) h =
    kept_ops u (with_op es op) ops (ascends_op es op h)
    ∙ ap (λ x. later_of x (retained u ops)) (kept_op u es op)
    ∙ later_assoc (kept_in u es) (one_retained u op) (retained u ops)
    ∙ ap (later_of (kept_in u es)) (ap (λ x. later_of x (retained u ops)) (sym (retained_one u op)) ∙ sym (retained-both u (op ∷ []) ops))

pub retained_ops : (u : List ℕ) (es : List (List ℕ × Retained)) (ops : List Op) → Ascends entry_cmp es → retained u (ops_of (with_ops es ops)) ≡ retained u (ops_of es ++ ops)
retained_ops u es ops h =
    retained_found u (with_ops es ops) (ascends_ops es ops h)
    ∙ kept_ops u es ops h
    ∙ ap (λ x. later_of x (retained u ops)) (sym (retained_found u es h))
    ∙ sym (retained-both u (ops_of es) ops)

-- ---- the topics of a table

-- an entry's topic under its own name
abbrev topic_entries : List (List ℕ × Retained) → List (List ℕ × List ℕ)
topic_entries es = map (λ e. (e.0, e.0)) es

both_hold : (a b : Bool) → T a → T b → T (a && b)
both_hold true b p q = q
both_hold false b p q = absurd p

below_entries : (t : List ℕ) (es : List (List ℕ × Retained)) → AllByRecursion (λ f. topic_name_cmp t f.0 ≡ Less) es → T (below_all topic_name_cmp t (topic_entries es))
below_entries t [] h = tt
below_entries t (e ∷ es) h = both_hold (is_lt (topic_name_cmp t e.0)) (below_all topic_name_cmp t (topic_entries es)) (subst T (sym (ap is_lt h.0)) tt) (below_entries t es h.1)

sorted_entries : (es : List (List ℕ × Retained)) → Ascends entry_cmp es → T (is_sorted topic_name_cmp (topic_entries es))
sorted_entries [] h = tt
sorted_entries (e ∷ es) h = both_hold (below_all topic_name_cmp e.0 (topic_entries es)) (is_sorted topic_name_cmp (topic_entries es)) (below_entries e.0 es h.0) (sorted_entries es h.1)

find_entries : (t : List ℕ) (es : List (List ℕ × Retained)) → find topic_name_cmp t (topic_entries es) ≡ (if is_some (kept_in t es) then Some t else None)
find_entries t [] = refl
find_entries t (e ∷ es) =
    ap (λ b. cond b (Some e.0) (find topic_name_cmp t (topic_entries es))) (is_eq-slice_cmp t e.0)
    ∙ elim (same_topic t e.0) as (λ b. same_topic t e.0 ≡ b → cond b (Some e.0) (find topic_name_cmp t (topic_entries es)) ≡ (if is_some (if b then Some e.1 else kept_in t es) then Some t else None)) [
      | true ↦ λ q. ap Some (sym (same_topic-true t e.0 q))
      | false ↦ λ _. find_entries t es
    ] refl

names_entries : (es : List (List ℕ × Retained)) → names (topic_entries es) ≡ map (λ e. e.0) es
names_entries [] = refl
names_entries (e ∷ es) = ap (λ ts. e.0 ∷ ts) (names_entries es)

-- the topics of a set are those of a table that has of each topic what is retained of it
pub topics_of : (S : List Op) (es : List (List ℕ × Retained)) → Ascends entry_cmp es → ((t : List ℕ) → kept_in t es ≡ retained t S) → topics S ≡ map (λ e. e.0) es
topics_of S es h same =
    ap names (same_entries topic_name_cmp topic_total topic_exact (in_order topic_name_cmp (filter_map topic_in S)) (topic_entries es)
    (is_sorted-in_order topic_name_cmp topic_total (filter_map topic_in S)) (sorted_entries es h)
    (λ q. find_topics q S ∙ ap (λ b. if b then Some q else None) (topic-retained q S ∙ ap is_some (sym (same q))) ∙ sym (find_entries q es)))
    ∙ names_entries es

-- each entry is found under its topic
each_found : (e : List ℕ × Retained) (es : List (List ℕ × Retained)) → AllByRecursion (λ f. topic_name_cmp e.0 f.0 ≡ Less) es → AllByRecursion (λ f. kept_in f.0 es ≡ Some f.1) es → AllByRecursion (λ f. kept_in f.0 (e ∷ es) ≡ Some f.1) es
each_found e es above found = go es above found
  where
    go : (fs : List (List ℕ × Retained)) → AllByRecursion (λ f. topic_name_cmp e.0 f.0 ≡ Less) fs → AllByRecursion (λ f. kept_in f.0 es ≡ Some f.1) fs → AllByRecursion (λ f. kept_in f.0 (e ∷ es) ≡ Some f.1) fs
    go [] a b = tt
    go (f ∷ fs) a b = (ap (λ q. if q then Some e.1 else kept_in f.0 es) (turned e.0 f.0 (apart e.0 f.0 Less a.0 refl)) ∙ b.0, go fs a.1 b.1)

all_found : (es : List (List ℕ × Retained)) → Ascends entry_cmp es → AllByRecursion (λ f. kept_in f.0 es ≡ Some f.1) es
all_found [] h = tt
all_found (e ∷ es) h = (ap (λ b. if b then Some e.1 else kept_in e.0 es) ((bytes_eq-Decides e.0 e.0).1 refl), each_found e es h.0 (all_found es h.1))

-- a table that has of each topic what is retained of it lists what is retained
pub lists_all : (S : List Op) (es : List (List ℕ × Retained)) → Ascends entry_cmp es → ((t : List ℕ) → kept_in t es ≡ retained t S) → all_retained S ≡ es
lists_all S es h same = ap (filter_map (told_of S)) (topics_of S es h same) ∙ go es (all_found es h)
  where
    go : (fs : List (List ℕ × Retained)) → AllByRecursion (λ f. kept_in f.0 es ≡ Some f.1) fs → filter_map (told_of S) (map (λ e. e.0) fs) ≡ fs
    go [] a = refl
    go (f ∷ fs) a = ap (λ o. cons_option (option_map (λ (k : Retained). (f.0, k)) o) (filter_map (told_of S) (map (λ e. e.0) fs))) (sym (same f.0) ∙ a.0) ∙ ap (λ rest. f ∷ rest) (go fs a.1)
