-- What a table with operations is, how many topics it has, and the clock that is next.
use Rattle.std.proofs.Common.{◌≡◌, ℕ, suc, ◌+◌, ◌<◌, ◌≤◌, ◌^◌, ◌==◌, Bool, true, false, cond, if◌then◌else◌, nat_lt, List, [], ◌∷◌, ◌++◌, map, length, max, Option, Some, None, IsTrue, IfSome, is_some, Bor, refl, sym, ap, ◌∙◌, subst, true≢false, Less, arith}
use Rattle.std.specs.List.{AllByRecursion}
use Rattle.std.specs.Option.{SomeIff, MatchOption, option_copied}
use Rattle.std.specs.Ordering.{is_lt}
use Rattle.std.proofs.lemmas.Bool.Decides.{nat_tests}
use Rattle.sn_tables.proofs.Ascending.{Ascends, all_with}
use Rattle.rep_op.specs.declared.op.Retained.{Retained}
use Rattle.rep_op.specs.declared.op.Op.{Op}
use Rattle.rep_op.specs.declared.op.Op.TheVariants.{Session as OfSession, Put as OfPut, Ack, Retain as OfRetain}
use Rattle.rep_op.specs.Orders.{topic_name_cmp, clock_of, clock_cmp}
use Rattle.rep_op.specs.Sets.{same_topic}
use Rattle.rep_op.specs.WellMade.{is_retained, is_well_made}
use Rattle.rep_ops.specs.Making.{AreWellMade}
use Rattle.rep_model.specs.Topics.{retained, topics, all_retained}
use Rattle.rep_model.specs.Fresh.{largest, one_more, clock_in, next_clock}
use Rattle.rep_model.proofs.Readers.{same_topic-true}
use Rattle.rep_retain.specs.Tables.{entry_cmp, op_of, ops_of}
use Rattle.rep_retain.specs.inner.Tables.{kept_in, latest_of, with_op, with_ops}
use Rattle.rep_retain.specs.Refusals.{AreFew}
use Rattle.rep_retain.proofs.Found.{apart, ascends_ops, retained_found, retained_ops, topics_of, lists_all}

-- ---- what stays well made

abbrev IsMade : List ℕ × Retained → Type 0
IsMade e = IsTrue (is_well_made (op_of e))

each_made : (es : List (List ℕ × Retained)) → AreWellMade (ops_of es) → AllByRecursion IsMade es
each_made [] h = tt
each_made (e ∷ es) h = (h.0, each_made es h.1)

all_made : (es : List (List ℕ × Retained)) → AllByRecursion IsMade es → AreWellMade (ops_of es)
all_made [] h = tt
all_made (e ∷ es) h = (h.0, all_made es h.1)

found_made : (t : List ℕ) (es : List (List ℕ × Retained)) → AllByRecursion IsMade es → IfSome (kept_in t es) (λ k. IsTrue (is_retained k))
found_made t [] h = tt
found_made t (e ∷ es) h = elim (same_topic t e.0) as (λ b. IfSome (if b then Some e.1 else kept_in t es) (λ k. IsTrue (is_retained k))) [ true ↦ h.0 | false ↦ found_made t es h.1 ]

latest_made : (o : Option Retained) (k : Retained) → IfSome o (λ own. IsTrue (is_retained own)) → IsTrue (is_retained k) → IsTrue (is_retained (latest_of o k))
latest_made None k h made = made
latest_made (Some own) k h made = elim (is_lt (clock_cmp (clock_of own) (clock_of k))) as (λ b. IsTrue (is_retained (if b then k else own))) [ true ↦ made | false ↦ h ]

made_op : (es : List (List ℕ × Retained)) (op : Op) → AllByRecursion IsMade es → IsTrue (is_well_made op) → AllByRecursion IsMade (with_op es op)
made_op es (OfSession c s i o) h made = h
made_op es (OfPut c p) h made = h
made_op es (Ack c r f l) h made = h
made_op es (OfRetain t k) h made = all_with entry_cmp IsMade (t, latest_of (kept_in t es) k) es (latest_made (kept_in t es) k (found_made t es h) made) h

made_each : (es : List (List ℕ × Retained)) (ops : List Op) → AllByRecursion IsMade es → AreWellMade ops → AllByRecursion IsMade (with_ops es ops)
made_each es [] h made = h
made_each es (op ∷ ops) h made = made_each (with_op es op) ops (made_op es op h made.0) made.1

pub made_ops : (es : List (List ℕ × Retained)) (ops : List Op) → AreWellMade (ops_of es) → AreWellMade ops → AreWellMade (ops_of (with_ops es ops))
made_ops es ops h made = all_made (with_ops es ops) (made_each es ops (each_made es h) made)

-- ---- how many topics

length_names : (es : List (List ℕ × Retained)) → length (map (λ e. e.0) es) ≡ length es
length_names [] = refl
length_names (e ∷ es) = ap suc (length_names es)

pub count_ops : (es : List (List ℕ × Retained)) (ops : List Op) → Ascends entry_cmp es → length (topics (ops_of es ++ ops)) ≡ length (with_ops es ops)
count_ops es ops h =
    let next = with_ops es ops in
    ap length (topics_of (ops_of es ++ ops) next (ascends_ops es ops h) (λ t. sym (retained_found t next (ascends_ops es ops h)) ∙ retained_ops t es ops h)) ∙ length_names next

-- a table that is not too long has few topics
pub few_ops : (es : List (List ℕ × Retained)) (ops : List Op) → Ascends entry_cmp es → length (with_ops es ops) ≤ 4096 → AreFew (ops_of es ++ ops)
few_ops es ops h le = ap (nat_lt 4096) (count_ops es ops h) ∙ not_above (length (with_ops es ops)) le
  where
    not_above : (n : ℕ) → n ≤ 4096 → nat_lt 4096 n ≡ false
    not_above n le = grind (arith, nat_tests)

pub many_ops : (es : List (List ℕ × Retained)) (ops : List Op) → Ascends entry_cmp es → 4096 < length (with_ops es ops) → nat_lt 4096 (length (topics (ops_of es ++ ops))) ≡ true
many_ops es ops h lt = ap (nat_lt 4096) (count_ops es ops h) ∙ above (length (with_ops es ops)) lt
  where
    above : (n : ℕ) → 4096 < n → nat_lt 4096 n ≡ true
    above n lt = grind (arith, nat_tests)

-- no operation makes no difference
pub no_ops : (ops : List Op) → (length ops == 0) ≡ true → ops ≡ []
no_ops [] h = refl
no_ops (op ∷ ops) h = absurd (true≢false (sym h ∙ not_empty (length ops)))
  where
    not_empty : (n : ℕ) → (suc n == 0) ≡ false
    not_empty n = grind (arith, nat_tests)

pub same_without : (es : List (List ℕ × Retained)) (ops : List Op) → ops ≡ [] → with_ops es ops ≡ es
same_without es ops e = ap (with_ops es) e

-- ---- what is listed, and the next clock

pub lists_table : (es : List (List ℕ × Retained)) → Ascends entry_cmp es → all_retained (ops_of es) ≡ es
lists_table es h = lists_all (ops_of es) es h (λ t. sym (retained_found t es h))

-- the clock of what is retained, or 0
abbrev pub clock_or_none : Option Retained → ℕ
clock_or_none None = 0
clock_or_none (Some k) = k.clock

no_clock : (t : List ℕ) (es : List (List ℕ × Retained)) → AllByRecursion (λ f. topic_name_cmp t f.0 ≡ Less) es → largest (clock_in t) (ops_of es) ≡ 0
no_clock t [] h = refl
no_clock t (e ∷ es) h =
    ap (λ b. max (if b then e.1.clock else 0) (largest (clock_in t) (ops_of es))) (apart t e.0 Less h.0 refl) ∙ ap (λ n. max 0 n) (no_clock t es h.1)

largest_found : (t : List ℕ) (es : List (List ℕ × Retained)) → Ascends entry_cmp es → largest (clock_in t) (ops_of es) ≡ clock_or_none (kept_in t es)
largest_found t [] h = refl
largest_found t (e ∷ es) h =
    elim (same_topic t e.0) as (λ b. same_topic t e.0 ≡ b → max (if b then e.1.clock else 0) (largest (clock_in t) (ops_of es)) ≡ clock_or_none (if b then Some e.1 else kept_in t es)) [
      | true ↦ λ q. ap (max e.1.clock) (no_clock t es (subst (λ u. AllByRecursion (λ f. topic_name_cmp u f.0 ≡ Less) es) (sym (same_topic-true t e.0 q)) h.0)) ∙ no_more e.1.clock
      | false ↦ λ _. none_less (largest (clock_in t) (ops_of es)) ∙ largest_found t es h.1
    ] refl
  where
    no_more : (n : ℕ) → max n 0 ≡ n
    no_more n = omega arith

    none_less : (n : ℕ) → max 0 n ≡ n
    none_less n = omega arith

pub clock_found : (t : List ℕ) (es : List (List ℕ × Retained)) → Ascends entry_cmp es → next_clock t (ops_of es) ≡ one_more (clock_or_none (kept_in t es))
clock_found t es h = ap one_more (largest_found t es h)

-- the number after, where there is one
pub next_one : (n : ℕ) (r : Option ℕ) → SomeIff r (n + 1 < 2 ^ 64) (n + 1) → r ≡ one_more n
next_one n None h = ap (λ b. if b then Some (n + 1) else None) (sym (let e : nat_lt (n + 1) (2 ^ 64) ≡ false = grind (arith, nat_tests, h) in e))
next_one n (Some x) h = ap Some h.1 ∙ ap (λ b. if b then Some (n + 1) else None) (sym (let e : nat_lt (n + 1) (2 ^ 64) ≡ true = grind (arith, nat_tests, h.0) in e))

-- ---- a look-up, by cases

pub told : {X : Type 0} (o : Option (Bor X)) (v : Option X) → option_copied o ≡ v → MatchOption o (v ≡ None) (λ x. v ≡ Some x.now)
told None v h = sym h
told (Some x) v h = sym h
