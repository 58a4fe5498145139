-- What a digest says of topics.
use Rattle.std.proofs.Common.{◌≡◌, ℕ, ◌<◌, ◌≤◌, ◌^◌, Bool, true, false, ◌&&◌, if◌then◌else◌, nat_le, List, [], ◌∷◌, ◌++◌, map, drop, append-nil, append_assoc, Option, Some, None, is_some, IfSome, IsTrue, refl, sym, ap, ◌∙◌, subst, true≢false, leb-true, Less}
use Rattle.std.specs.Prelude.{option_map}
use Rattle.std.specs.List.{filter_map, cons_option, AllByRecursion}
use Rattle.std.specs.List.Sorted.{IsStrictlySortedBy}
use Rattle.std.proofs.lemmas.Bool.{and_parts}
use Rattle.sn_topic.specs.Topics.{IsName}
use Rattle.rep_op.specs.declared.op.Retained.{Retained}
use Rattle.rep_op.specs.declared.op.Op.{Op}
use Rattle.rep_op.specs.declared.op.Op.TheVariants.{Session as OfSession, Put as OfPut, Ack, Retain as OfRetain}
use Rattle.rep_op.specs.Orders.{topic_name_cmp, clock_of, clock_cmp}
use Rattle.rep_op.specs.Sets.{same_topic, retain_of, retain_at}
use Rattle.rep_op.specs.Values.{AreValues, IsOpValue}
use Rattle.rep_op.specs.WellMade.{is_well_made}
use Rattle.rep_ops.specs.Making.{AreWellMade}
use Rattle.rep_model.specs.Topics.{latest, retained, topics, told_of, all_retained}
use Rattle.rep_model.specs.Keep.{CountsAs}
use Rattle.rep_model.proofs.Lookup.{find-all}
use Rattle.rep_model.proofs.Readers.{clock_exact, same_topic-true}
use Rattle.rep_model.proofs.Topics.{latest-retained, latest-there, topics-ascend, all_retained-counts}
use Rattle.rep_digest.specs.declared.entry.RetainedEntry.{RetainedEntry}
use Rattle.rep_digest.specs.Digests.{entry_of_topic, topic_entry, topic_entries}
use Rattle.rep_digest.specs.inner.Steps.{entry_for}
use Rattle.rep_digest.specs.WellMade.{IsRetained, TopicsAscend, AreTopics}

-- ---- what is said is read off what is retained

mapped : (t : List ℕ) (o : Option Retained) → option_map (entry_of_topic t) (option_map clock_of o) ≡ option_map entry_for (option_map (λ k. (t, k)) o)
mapped t None = refl
mapped t (Some k) = refl

cons_mapped : (o : Option (List ℕ × Retained)) (es : List (List ℕ × Retained)) → cons_option (option_map entry_for o) (map entry_for es) ≡ map entry_for (cons_option o es)
cons_mapped None es = refl
cons_mapped (Some e) es = refl

of_topics : (S : List Op) (ts : List (List ℕ)) → filter_map (topic_entry S) ts ≡ map entry_for (filter_map (told_of S) ts)
of_topics S [] = refl
of_topics S (t ∷ ts) =
    (λ i. cons_option ((ap (option_map (entry_of_topic t)) (latest-retained t S) ∙ mapped t (retained t S)) i) (of_topics S ts i))
    ∙ cons_mapped (told_of S t) (filter_map (told_of S) ts)

pub topics_said : (S : List Op) → topic_entries S ≡ map entry_for (all_retained S)
topics_said S = of_topics S (topics S)

-- one topic more, of those that are left
pub said_more : (front new : List RetainedEntry) (all : List (List ℕ × Retained)) (place behind : ℕ) (e : List ℕ × Retained) → drop place all ≡ e ∷ drop behind all → new ≡ front ++ entry_for e ∷ []
    → front ++ map entry_for (drop place all) ≡ map entry_for all → new ++ map entry_for (drop behind all) ≡ map entry_for all
said_more front new all place behind e next more so_far =
    ap (λ (xs : List RetainedEntry). xs ++ map entry_for (drop behind all)) more
    ∙ append_assoc front (entry_for e ∷ []) (map entry_for (drop behind all))
    ∙ ap (λ (xs : List (List ℕ × Retained)). front ++ map entry_for xs) (sym next) ∙ so_far

-- where none is left, all are said
pub said_all : (made : List RetainedEntry) (all : List (List ℕ × Retained)) (place : ℕ) → drop place all ≡ [] → made ++ map entry_for (drop place all) ≡ map entry_for all → made ≡ map entry_for all
said_all made all place none so_far = sym (append-nil made) ∙ ap (λ (xs : List (List ℕ × Retained)). made ++ map entry_for xs) (sym none) ∙ so_far

-- what counts as a set says the same of topics
pub topics_counted : (S K : List Op) → CountsAs S K → topic_entries K ≡ topic_entries S
topics_counted S K h = topics_said K ∙ ap (map entry_for) (all_retained-counts S K h) ∙ sym (topics_said S)

-- ---- entries are well made

module _ (t : List ℕ) where
  one_retain : (op : Op) → IsTrue (is_well_made op) → IsOpValue op → IfSome (retain_of t op) (λ e. IsRetained (entry_of_topic t e.0))
  one_retain (OfSession c s i change) m v = tt
  one_retain (OfPut c p) m v = tt
  one_retain (Ack c o f l) m v = tt
  one_retain (OfRetain u k) m v =
      let w = and_parts _ _ m in
      let x = and_parts _ _ w.0 in
      let y = and_parts (nat_le 1 k.clock) (nat_le 1 k.gateway) x.0 in
      elim (same_topic t u) as (λ b. same_topic t u ≡ b → IfSome {T = (ℕ × ℕ) × Retained} (if b then Some (clock_of k, k) else None) (λ e. IsRetained (entry_of_topic t e.0))) [
        | true ↦ λ same. record {
          topic = subst IsName (sym (same_topic-true t u same)) v.0;
          clock = (leb-true 1 k.clock y.0, v.1);
          gateway = (leb-true 1 k.gateway y.1, v.2);
        }
        | false ↦ λ _. tt
      ] refl

paired : {A : Type 0} (P Q R : A → Type 0) → ((x : A) → P x → Q x → R x) → (xs : List A) → AllByRecursion P xs → AllByRecursion Q xs → AllByRecursion R xs
paired P Q R f [] p q = tt
paired P Q R f (x ∷ xs) p q = (f x p.0 q.0, paired P Q R f xs p.1 q.1)

found_value : {X : Type 0} (o : Option X) (P : Type 0) → IfSome o (λ _. P) → is_some o ≡ true → P
found_value None P h e = absurd (true≢false (sym e))
found_value (Some x) P h e = h

less_front : (e : RetainedEntry) (es : List RetainedEntry) → AllByRecursion (λ f. topic_name_cmp e.topic f.topic ≡ Less) es → TopicsAscend es → TopicsAscend (e ∷ es)
less_front e [] h up = tt
less_front e (f ∷ es) h up = (h.0, up)

module _ (W : List Op) (made : AreWellMade W) (values : AreValues W) where
  retain_there : (t : List ℕ) (name : ℕ × ℕ) → is_some (retain_at t W name) ≡ true → IsRetained (entry_of_topic t name)
  retain_there t name e = found_value (retain_at t W name) (IsRetained (entry_of_topic t name))
      (find-all clock_cmp clock_exact (retain_of t) (λ n _. IsRetained (entry_of_topic t n)) W
      (paired (λ op. IsTrue (is_well_made op)) IsOpValue (λ op. IfSome (retain_of t op) (λ e. IsRetained (entry_of_topic t e.0))) (one_retain t) W made values) name) e

  entries_there : (ts : List (List ℕ)) → AllByRecursion IsRetained (filter_map (topic_entry W) ts)
  entries_there [] = tt
  entries_there (t ∷ ts) =
      elim (latest t W) as (λ v. IfSome v (λ g. is_some (retain_at t W g) ≡ true) → AllByRecursion IsRetained (cons_option (option_map (entry_of_topic t) v) (filter_map (topic_entry W) ts))) [
        | None ↦ λ _. entries_there ts
        | Some g ↦ λ h. (retain_there t g h, entries_there ts)
      ] (latest-there t W)

  above : (t : List ℕ) (ts : List (List ℕ)) → AllByRecursion (λ u. topic_name_cmp t u ≡ Less) ts → AllByRecursion (λ e. topic_name_cmp t e.topic ≡ Less) (filter_map (topic_entry W) ts)
  above t [] h = tt
  above t (u ∷ ts) h =
      elim (latest u W) as (λ v. AllByRecursion (λ e. topic_name_cmp t e.topic ≡ Less) (cons_option (option_map (entry_of_topic u) v) (filter_map (topic_entry W) ts))) [
        | None ↦ above t ts h.1
        | Some g ↦ (h.0, above t ts h.1)
      ]

  topics_up : (ts : List (List ℕ)) → IsStrictlySortedBy topic_name_cmp ts → TopicsAscend (filter_map (topic_entry W) ts)
  unfolding IsStrictlySortedBy
  topics_up [] h = tt
  topics_up (t ∷ ts) h =
      elim (latest t W) as (λ v. TopicsAscend (cons_option (option_map (entry_of_topic t) v) (filter_map (topic_entry W) ts))) [
        | None ↦ topics_up ts h.1
        | Some g ↦ less_front (entry_of_topic t g) (filter_map (topic_entry W) ts) (above t ts h.0) (topics_up ts h.1)
      ]

  pub topics_made : AreTopics (topic_entries W)
  topics_made = record { entries = entries_there (topics W); ascend = topics_up (topics W) (topics-ascend W) }
