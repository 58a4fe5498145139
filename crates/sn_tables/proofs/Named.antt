-- the entry of a name is that with the least id
use Rattle.std.proofs.Common.{◌≡◌, ◌≢◌, ℕ, ◌≤◌, ◌==◌, Bool, true, false, cond, List, [], ◌∷◌, Option, Some, None, IfSome, bytes_eq, refl, sym, subst, arith}
use Rattle.std.specs.declared.cmp.Ordering.TheVariants.{Less}
use Rattle.std.specs.List.{AllByRecursion, find}
use Rattle.std.proofs.lemmas.Bool.Decides.{nat_tests}
use Rattle.std.proofs.lemmas.Cmp.{ranked}
use Rattle.std.proofs.lemmas.Slice.Eq.{bytes_eq-Decides}
use Rattle.sn_tables.specs.declared.topics.TopicEntry.{TopicEntry}
use Rattle.sn_tables.specs.Tables.{IsTable}
use Rattle.sn_tables.specs.Topics.{topic_cmp, topic_of, topic_named, IsLeastIdOf}
use Rattle.sn_tables.proofs.Ascending.{Ascends, all_weaker, from_test}
use Rattle.sn_tables.proofs.TopicPlaces.{topic_total}

-- what holds of all holds of the one that is found
of_found : (P : TopicEntry → Type 0) (test : TopicEntry → Bool) (xs : List TopicEntry) → AllByRecursion P xs → IfSome (find test xs) P
of_found P test [] h = tt
of_found P test (x ∷ xs) h =
    elim (test x) as (λ b. IfSome (cond b (Some x) (find test xs)) P) [ true ↦ h.0 | false ↦ of_found P test xs h.1 ]

-- octets that fail the test differ
differ : (a b : List ℕ) → bytes_eq a b ≡ false → a ≢ b
differ a b h e = absurd (let yes = (bytes_eq-Decides a b).1 e in cc)

-- what is known of an entry with the name
record IsFirst (name : List ℕ) (xs : List TopicEntry) (e : TopicEntry) : Type 0 where
  there : topic_of e.id xs ≡ Some e
  named : e.name ≡ name
  least : AllByRecursion (λ y. y.name ≡ name → e.id ≤ y.id) xs

here : (name : List ℕ) (x : TopicEntry) (xs : List TopicEntry) → AllByRecursion (λ y. topic_cmp x y ≡ Less) xs → bytes_eq x.name name ≡ true → IsFirst name (x ∷ xs) x
here name x xs up is = record {
  there = let same : (x.id == x.id) ≡ true = grind (arith, nat_tests) in rw same refl;
  named = (bytes_eq-Decides x.name name).0 is;
  least = ((λ _. omega arith), all_weaker (λ y. topic_cmp x y ≡ Less) (λ y. y.name ≡ name → x.id ≤ y.id) (λ y h _. let lt = ranked x.id y.id Less (sym h) in omega arith) xs up);
}

later : (name : List ℕ) (x : TopicEntry) (xs : List TopicEntry) (e : TopicEntry) → topic_cmp x e ≡ Less → bytes_eq x.name name ≡ false → IsFirst name xs e → IsFirst name (x ∷ xs) e
later name x xs e up is h = record {
  there = let lt = ranked x.id e.id Less (sym up) in let apart : (x.id == e.id) ≡ false = grind (arith, nat_tests, lt) in rw apart h.there;
  named = h.named;
  least = ((λ same. absurd (differ x.name name is same)), h.least);
}

first_named : (name : List ℕ) (xs : List TopicEntry) → Ascends topic_cmp xs → IfSome (topic_named name xs) (IsFirst name xs)
first_named name [] up = tt
first_named name (x ∷ xs) up =
    elim (bytes_eq x.name name) as (λ b. bytes_eq x.name name ≡ b → IfSome (cond b (Some x) (topic_named name xs)) (IsFirst name (x ∷ xs))) [
      | true ↦ λ is. here name x xs up.0 is
      | false ↦ λ is. both (topic_named name xs) (λ e. topic_cmp x e ≡ Less) (of_found (λ e. topic_cmp x e ≡ Less) (λ e. bytes_eq e.name name) xs up.0) is (first_named name xs up.1)
    ] refl
  where
    both : (o : Option TopicEntry) (P : TopicEntry → Type 0) → IfSome o (λ e. topic_cmp x e ≡ Less) → bytes_eq x.name name ≡ false → IfSome o (IsFirst name xs) → IfSome o (IsFirst name (x ∷ xs))
    both None P h is more = tt
    both (Some e) P h is more = later name x xs e h is more

-- of a table
pub least_id : (name : List ℕ) (xs : List TopicEntry) → IsTable topic_cmp xs → (e : TopicEntry) → Some e ≡ topic_named name xs → IsLeastIdOf name xs e.id
least_id name xs table e is =
    let P : Option TopicEntry → Type 0 = λ o. IfSome o (IsFirst name xs) in
    let first = subst P (sym is) (first_named name xs (from_test topic_cmp topic_total xs table.0)) in
    record { named = (e, first.there, first.named); least = first.least }
