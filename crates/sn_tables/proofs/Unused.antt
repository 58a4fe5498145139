-- the least id that is not in use
use Rattle.std.proofs.Common.{◌≡◌, ℕ, ◌+◌, ◌<◌, ◌≤◌, ◌==◌, Bool, true, false, if◌then◌else◌, nat_lt, List, [], ◌∷◌, Some, None, IsSome, refl, arith}
use Rattle.std.specs.declared.cmp.Ordering.TheVariants.{Less}
use Rattle.std.specs.List.{AllByRecursion}
use Rattle.std.proofs.lemmas.Cmp.{ranked}
use Rattle.std.proofs.lemmas.Bool.Decides.{nat_tests}
use Rattle.std.proofs.Common.{sym}
use Rattle.sn_tables.specs.declared.topics.TopicEntry.{TopicEntry}
use Rattle.sn_tables.specs.Tables.{IsTable}
use Rattle.sn_tables.specs.Topics.{topic_cmp, topic_of, least_unused, IsLeastUnused}
use Rattle.sn_tables.proofs.Ascending.{Ascends, from_test}
use Rattle.sn_tables.proofs.TopicPlaces.{topic_total}

-- a number from n on that is no id, while each smaller one from n on is
record IsLeastFrom (topics : List TopicEntry) (n m : ℕ) : Type 0 where
  from : n ≤ m
  unused : topic_of m topics ≡ None
  least : (k : ℕ) → n ≤ k → k < m → IsSome (topic_of k topics)

-- numbers that are not above the first id are not later ids
none_later : (e : TopicEntry) (xs : List TopicEntry) (k : ℕ) → AllByRecursion (λ y. topic_cmp e y ≡ Less) xs → k ≤ e.id → topic_of k xs ≡ None
none_later e [] k h le = refl
none_later e (x ∷ xs) k h le =
    let above : e.id < x.id = ranked e.id x.id Less (sym h.0) in
    let apart : (x.id == k) ≡ false = grind (arith, nat_tests) in
    rw apart (none_later e xs k h.1 le)

least_cons : (e : TopicEntry) (rest : List TopicEntry) (n : ℕ) → AllByRecursion (λ y. topic_cmp e y ≡ Less) rest → ((n : ℕ) → IsLeastFrom rest n (least_unused n rest)) → (t : Bool) → nat_lt n e.id ≡ t → (s : Bool) → (e.id == n) ≡ s → IsLeastFrom (e ∷ rest) n (if t then n else least_unused (if s then n + 1 else n) rest)
least_cons e rest n up more true t s is =
    let below : n < e.id = grind (arith, nat_tests) in
    let apart : (e.id == n) ≡ false = grind (arith, nat_tests) in
    record { from = omega arith; unused = rw apart (none_later e rest n up (omega arith)); least = λ k low high. absurd (omega arith) }
least_cons e rest n up more false t true is =
    let next = more (n + 1) in
    let same : e.id ≡ n = grind (arith, nat_tests) in
    let apart : (e.id == least_unused (n + 1) rest) ≡ false = grind (arith, nat_tests, next.from) in
    record {
      from = omega (arith, next.from);
      unused = rw apart next.unused;
      least = λ k low high. elim (e.id == k) as (λ b. (e.id == k) ≡ b → IsSome (if b then Some e else topic_of k rest)) [ true ↦ λ _. refl | false ↦ λ other. next.least k (grind (arith, nat_tests)) high ] refl;
    }
least_cons e rest n up more false t false is =
    let next = more n in
    let below : e.id < n = grind (arith, nat_tests) in
    let apart : (e.id == least_unused n rest) ≡ false = grind (arith, nat_tests, next.from) in
    record {
      from = next.from;
      unused = rw apart next.unused;
      least = λ k low high. let other : (e.id == k) ≡ false = grind (arith, nat_tests) in rw other (next.least k low high);
    }

least_from : (xs : List TopicEntry) (n : ℕ) → Ascends topic_cmp xs → IsLeastFrom xs n (least_unused n xs)
least_from [] n up = record { from = omega arith; unused = refl; least = λ k low high. absurd (omega arith) }
least_from (e ∷ rest) n up = least_cons e rest n up.0 (λ n. least_from rest n up.1) (nat_lt n e.id) refl (e.id == n) refl

-- of a table
pub least_in_table : (xs : List TopicEntry) → IsTable topic_cmp xs → IsLeastUnused xs (least_unused 1 xs)
least_in_table xs table =
    let least = least_from xs 1 (from_test topic_cmp topic_total xs table.0) in
    record { from_one = least.from; unused = least.unused; least = least.least }
