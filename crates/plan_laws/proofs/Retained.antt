-- What a well made set retains can be handed.
use Rattle.std.proofs.Common.{◌≡◌, ℕ, zero, suc, ◌-◌, Bool, true, false, ◌&&◌, nat_le, cond, if◌then◌else◌, List, [], ◌∷◌, map, filter, filter_map, take, length, Option, Some, None, IfSome, option_map, option_and_then, IsTrue}
use Rattle.std.specs.List.{AllByRecursion, cons_option}
use Rattle.std.proofs.lemmas.Bool.{and_parts}
use Rattle.rep_op.specs.declared.op.Retained.{Retained}
use Rattle.rep_op.specs.declared.op.Op.{Op}
use Rattle.rep_op.specs.declared.op.Op.TheVariants.{Session as OfSession, Put as OfPut, Ack, Retain as OfRetain}
use Rattle.rep_op.specs.Orders.{clock_of, clock_cmp}
use Rattle.rep_op.specs.Sets.{same_topic, retain_of, retain_at}
use Rattle.rep_op.specs.WellMade.{is_retained, is_well_made}
use Rattle.rep_ops.specs.Making.{AreWellMade}
use Rattle.rep_model.specs.Topics.{latest, retained, topics, told_of, all_retained, is_offered}
use Rattle.rep_model.proofs.Lookup.{find-all}
use Rattle.rep_model.proofs.Readers.{clock_exact}
use Rattle.sn_plan.specs.declared.draft.Posted.{Posted}
use Rattle.sn_local.specs.Seen.{seen_of}
use Rattle.sn_plan.proofs.Lists.{all-weaken}
use Rattle.sn_subscribe.specs.Handing.{at_most, handed_for}
use Rattle.plan_laws.proofs.Sound.{IsPosted, least-two}

-- what is retained is in range
abbrev IsKept : Retained → Type 0
IsKept k = is_retained k ≡ true

-- ---- what stands under a name

entry_of : (t : List ℕ) (op : Op) → IsTrue (is_well_made op) → IfSome (retain_of t op) (λ e. IsKept e.1)
entry_of t (OfSession d stamp counter change) made = tt
entry_of t (OfPut d put) made = tt
entry_of t (Ack d origin first last) made = tt
entry_of t (OfRetain u k) made =
    elim (same_topic t u) as (λ b. IfSome {T = (ℕ × ℕ) × Retained} (if b then Some (clock_of k, k) else None) (λ e. IsKept e.1)) [
      | true ↦ made
      | false ↦ tt
    ]

entry_at : (t : List ℕ) (S : List Op) → AreWellMade S → (name : ℕ × ℕ) → IfSome (retain_at t S name) IsKept
entry_at t S made name =
    find-all clock_cmp clock_exact (retain_of t) (λ n k. IsKept k) S
    (all-weaken (λ op. IsTrue (is_well_made op)) (λ op. IfSome (retain_of t op) (λ e. IsKept e.1)) (entry_of t) S made) name

-- what is retained of a topic is one of these
retained_kept : (t : List ℕ) (S : List Op) → AreWellMade S → IfSome (retained t S) IsKept
retained_kept t S made =
    elim (latest t S) as (λ v. IfSome (option_and_then (retain_at t S) v) IsKept) [
      | None ↦ tt
      | Some name ↦ entry_at t S made name
    ]

told : (t : List ℕ) (o : Option Retained) → IfSome o IsKept → IfSome (option_map (λ (k : Retained). (t, k)) o) (λ (e : List ℕ × Retained). IsKept e.1)
told t None h = tt
told t (Some k) h = h

-- ---- lists

module _ {A : Type 0} (P : A → Type 0) where
  one_more : (o : Option A) (xs : List A) → IfSome o P → AllByRecursion P xs → AllByRecursion P (cons_option o xs)
  one_more None xs h all = all
  one_more (Some x) xs h all = (h, all)

  found_all : {B : Type 0} (f : B → Option A) → ((b : B) → IfSome (f b) P) → (bs : List B) → AllByRecursion P (filter_map f bs)
  found_all f h [] = tt
  found_all f h (b ∷ bs) = one_more (f b) (filter_map f bs) (h b) (found_all f h bs)

  if_all : (b : Bool) (x : A) (xs : List A) → P x → AllByRecursion P xs → AllByRecursion P (cond b (x ∷ xs) xs)
  if_all true x xs h all = (h, all)
  if_all false x xs h all = all

  passed_all : (test : A → Bool) (xs : List A) → AllByRecursion P xs → AllByRecursion P (filter test xs)
  passed_all test [] all = tt
  passed_all test (x ∷ xs) all = if_all (test x) x (filter test xs) all.0 (passed_all test xs all.1)

  first_all : (n : ℕ) (xs : List A) → AllByRecursion P xs → AllByRecursion P (take n xs)
  first_all zero xs all = tt
  first_all (suc n) [] all = tt
  first_all (suc n) (x ∷ xs) all = (all.0, first_all n xs all.1)

mapped_all : {A B : Type 0} (P : A → Type 0) (Q : B → Type 0) (f : A → B) → ((x : A) → P x → Q (f x)) → (xs : List A) → AllByRecursion P xs → AllByRecursion Q (map f xs)
mapped_all P Q f h [] all = tt
mapped_all P Q f h (x ∷ xs) all = (h x all.0, mapped_all P Q f h xs all.1)

-- ---- what is handed

abbrev IsEntry : List ℕ × Retained → Type 0
IsEntry e = IsKept e.1

entry_posted : (qos : ℕ) (e : List ℕ × Retained) → IsEntry e → IsPosted (at_most qos e)
entry_posted qos e h =
    let a = and_parts (nat_le 1 e.1.clock && nat_le 1 e.1.gateway && nat_le e.1.qos 2) (nat_le (length e.1.body) 4096) h in
    let b = and_parts (nat_le 1 e.1.clock && nat_le 1 e.1.gateway) (nat_le e.1.qos 2) a.0 in
    (least-two e.1.qos qos b.1, a.1)

pub handed-fine : (S : List Op) → AreWellMade S → (asked : List ℕ) (qos waiting : ℕ) → AllByRecursion IsPosted (handed_for (seen_of S) asked qos waiting)
handed-fine S made asked qos waiting =
    let offered : List (List ℕ × Retained) = filter (is_offered asked) (all_retained S) in
    let all : AllByRecursion IsEntry (all_retained S) = found_all IsEntry (told_of S) (λ t. told t (retained t S) (retained_kept t S made)) (topics S) in
    mapped_all IsEntry IsPosted (at_most qos) (entry_posted qos) (take (1024 - waiting) offered)
    (first_all IsEntry (1024 - waiting) offered (passed_all IsEntry (is_offered asked) (all_retained S) all))
