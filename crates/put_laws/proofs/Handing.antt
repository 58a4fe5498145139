-- What a subscriber is handed: each topic that it asks for and of which something is retained, once, in ascending order.
use Rattle.std.proofs.Common.{◌≡◌, ℕ, zero, suc, ◌+◌, ◌-◌, ◌<◌, ◌≤◌, Bool, true, false, cond, ◌&&◌, nat_lt, List, [], ◌∷◌, map, filter, filter_map, take, length, Option, Some, None, is_some, option_map, Contains, refl, sym, ap, ◌∙◌, subst, inl, inr, Less, arith, lt-ltb, ltb-true}
use Rattle.std.specs.List.{AllByRecursion, cons_option}
use Rattle.std.specs.List.Sorted.{IsStrictlySortedBy}
use Rattle.std.proofs.lemmas.Bool.{and_from, and_parts}
use Rattle.std.proofs.lemmas.Option.{none-some, same_Some}
use Rattle.sn_topic.specs.Matching.{is_match}
use Rattle.rep_op.specs.declared.op.Retained.{Retained}
use Rattle.rep_op.specs.declared.op.Op.{Op}
use Rattle.rep_op.specs.Orders.{topic_name_cmp}
use Rattle.rep_model.specs.Topics.{retained, topics, told_of, all_retained, is_offered, retained_matching}
use Rattle.rep_model.proofs.Topics.{topic-retained, topics-named, topics-ascend}
use Rattle.sn_local.specs.Seen.{seen_of}
use Rattle.sn_plan.specs.declared.draft.Posted.{Posted}
use Rattle.sn_subscribe.specs.Handing.{at_most, handed_for}
use Rattle.put_laws.proofs.Acked.{none-there}
use Rattle.put_laws.proofs.Recipients.{head_there, behind_there, head_or}

-- ---- elements

module _ {A : Type 0} where
  taken_whole : (n : ℕ) (xs : List A) → length xs ≤ n → take n xs ≡ xs
  taken_whole zero [] h = refl
  taken_whole zero (x ∷ xs) h = absurd (omega (arith, h))
  taken_whole (suc n) [] h = refl
  taken_whole (suc n) (x ∷ xs) h = ap (λ rest. x ∷ rest) (taken_whole n xs (omega (arith, h)))

  taken_from : (n : ℕ) (xs : List A) (x : A) → Contains (take n xs) x → Contains xs x
  taken_from zero xs x h = absurd (none-there x h)
  taken_from (suc n) [] x h = h
  taken_from (suc n) (y ∷ xs) x h =
      elim (head_or y x (take n xs) h) [
        | inl same ↦ subst (Contains (y ∷ xs)) same (head_there y xs)
        | inr more ↦ behind_there y x xs (taken_from n xs x more)
      ]

  module _ (test : A → Bool) where
    kept_behind : (b : Bool) (y : A) (xs : List A) (x : A) → Contains xs x → Contains (cond b (y ∷ xs) xs) x
    kept_behind true y xs x h = behind_there y x xs h
    kept_behind false y xs x h = h

    passed_there : (xs : List A) (x : A) → test x ≡ true → Contains xs x → Contains (filter test xs) x
    passed_there [] x passes h = h
    passed_there (y ∷ xs) x passes h =
        elim (head_or y x xs h) [
          | inl same ↦
              subst (λ b. Contains (cond b (y ∷ filter test xs) (filter test xs)) x) (sym (ap test same ∙ passes))
              (subst (Contains (y ∷ filter test xs)) same (head_there y (filter test xs)))
          | inr more ↦ kept_behind (test y) y (filter test xs) x (passed_there xs x passes more)
        ]

    passed_from : (xs : List A) (x : A) → Contains (filter test xs) x → (test x ≡ true) × Contains xs x
    passed_from [] x h = absurd (none-there x h)
    passed_from (y ∷ xs) x h =
        elim (test y) as (λ b. test y ≡ b → Contains (cond b (y ∷ filter test xs) (filter test xs)) x → (test x ≡ true) × Contains (y ∷ xs) x) [
          | true ↦ λ passes there.
              elim (head_or y x (filter test xs) there) [
                | inl same ↦ (ap test (sym same) ∙ passes, subst (Contains (y ∷ xs)) same (head_there y xs))
                | inr more ↦ let r = passed_from xs x more in (r.0, behind_there y x xs r.1)
              ]
          | false ↦ λ _ there. let r = passed_from xs x there in (r.0, behind_there y x xs r.1)
        ] refl h

module _ {B : Type 0} where
  found_behind : (o : Option B) (ys : List B) (y : B) → Contains ys y → Contains (cons_option o ys) y
  found_behind None ys y h = h
  found_behind (Some x) ys y h = behind_there x y ys h

module _ {A B : Type 0} where
  mapped_there : (f : A → B) (xs : List A) (x : A) → Contains xs x → Contains (map f xs) (f x)
  mapped_there f [] x h = absurd (none-there x h)
  mapped_there f (y ∷ xs) x h =
      elim (head_or y x xs h) [
        | inl same ↦ subst (λ z. Contains (f y ∷ map f xs) (f z)) same (head_there (f y) (map f xs))
        | inr more ↦ behind_there (f y) (f x) (map f xs) (mapped_there f xs x more)
      ]

  mapped_from : (f : A → B) (xs : List A) (y : B) → Contains (map f xs) y → (x : A) × Contains xs x × (y ≡ f x)
  mapped_from f [] y h = absurd (none-there y h)
  mapped_from f (x ∷ xs) y h =
      elim (head_or (f x) y (map f xs) h) [
        | inl same ↦ (x, head_there x xs, sym same)
        | inr more ↦ let r = mapped_from f xs y more in (r.0, behind_there x r.0 xs r.1, r.2)
      ]

  found_there : (f : A → Option B) (xs : List A) (x : A) (y : B) → f x ≡ Some y → Contains xs x → Contains (filter_map f xs) y
  found_there f [] x y is h = absurd (none-there x h)
  found_there f (z ∷ xs) x y is h =
      elim (head_or z x xs h) [
        | inl same ↦ subst (λ o. Contains (cons_option o (filter_map f xs)) y) (sym (ap f same ∙ is)) (head_there y (filter_map f xs))
        | inr more ↦ found_behind (f z) (filter_map f xs) y (found_there f xs x y is more)
      ]

  found_from : (f : A → Option B) (xs : List A) (y : B) → Contains (filter_map f xs) y → (x : A) × (f x ≡ Some y)
  found_from f [] y h = absurd (none-there y h)
  found_from f (x ∷ xs) y h =
      elim (f x) as (λ o. f x ≡ o → Contains (cons_option o (filter_map f xs)) y → (x : A) × (f x ≡ Some y)) [
        | None ↦ λ _ there. found_from f xs y there
        | Some z ↦ λ is there.
            elim (head_or z y (filter_map f xs) there) [
              | inl same ↦ (x, is ∙ ap Some same)
              | inr more ↦ found_from f xs y more
            ]
      ] refl h

-- ---- what is there

told_from : (S : List Op) (t : List ℕ) (e : List ℕ × Retained) → told_of S t ≡ Some e → retained e.0 S ≡ Some e.1
told_from S t e h =
    elim (retained t S) as (λ o. retained t S ≡ o → option_map (λ (k : Retained). (t, k)) o ≡ Some e → retained e.0 S ≡ Some e.1) [
      | None ↦ λ _ none. absurd (none-some e none)
      | Some k ↦ λ is some. subst (λ (x : List ℕ × Retained). retained x.0 S ≡ Some x.1) (same_Some (t, k) e some) is
    ] refl h

module _ (S : List Op) (asked : List ℕ) where
  offered-there : (t : List ℕ) (k : Retained) → retained t S ≡ Some k → is_match asked t ≡ true → 0 < length k.body → Contains (retained_matching asked S) (t, k)
  offered-there t k is matches some =
      let there : Contains (topics S) t = (topics-named t S).0 (topic-retained t S ∙ ap is_some is) in
      passed_there (is_offered asked) (all_retained S) (t, k)
      (and_from (is_match asked t) (nat_lt 0 (length k.body)) matches (lt-ltb 0 (length k.body) some))
      (found_there (told_of S) (topics S) t (t, k) (ap (option_map (λ (k : Retained). (t, k))) is) there)

  offered-from : (e : List ℕ × Retained) → Contains (retained_matching asked S) e → (retained e.0 S ≡ Some e.1) × (is_match asked e.0 ≡ true) × (0 < length e.1.body)
  offered-from e there =
      let p = passed_from (is_offered asked) (all_retained S) e there in
      let b = and_parts (is_match asked e.0) (nat_lt 0 (length e.1.body)) p.0 in
      let f = found_from (told_of S) (topics S) e p.1 in
      (told_from S f.0 e f.1, b.0, ltb-true 0 (length e.1.body) b.1)

  module _ (qos waiting : ℕ) where
    pub handed-all : (t : List ℕ) (k : Retained) → length (retained_matching asked S) + waiting ≤ 1024 → retained t S ≡ Some k → is_match asked t ≡ true → 0 < length k.body
        → Contains (handed_for (seen_of S) asked qos waiting) (at_most qos (t, k))
    handed-all t k room is matches some =
        let whole : take (1024 - waiting) (retained_matching asked S) ≡ retained_matching asked S = taken_whole (1024 - waiting) (retained_matching asked S) (omega (arith, room)) in
        subst (λ xs. Contains (map (at_most qos) xs) (at_most qos (t, k))) (sym whole)
        (mapped_there (at_most qos) (retained_matching asked S) (t, k) (offered-there t k is matches some))

    abbrev IsHanded : Posted → Type 0
    IsHanded m = (k : Retained) × (retained m.topic S ≡ Some k) × (is_match asked m.topic ≡ true) × (0 < length k.body) × (m ≡ at_most qos (m.topic, k))

    pub handed-only : (m : Posted) → Contains (handed_for (seen_of S) asked qos waiting) m → IsHanded m
    handed-only m there =
        let from = mapped_from (at_most qos) (take (1024 - waiting) (retained_matching asked S)) m there in
        let e : List ℕ × Retained = from.0 in
        let is = offered-from e (taken_from (1024 - waiting) (retained_matching asked S) e from.1) in
        subst IsHanded (sym from.2) (e.1, is.0, is.1, is.2, refl)

-- ---- how many

few_mapped : {A B : Type 0} (f : A → B) (n : ℕ) (xs : List A) → length (map f (take n xs)) ≤ n
few_mapped f zero xs = omega arith
few_mapped f (suc n) [] = omega arith
few_mapped f (suc n) (x ∷ xs) = let r = few_mapped f n xs in omega (arith, r)

pub handed-few : (S : List Op) (asked : List ℕ) (qos waiting : ℕ) → waiting ≤ 1024 → length (handed_for (seen_of S) asked qos waiting) + waiting ≤ 1024
handed-few S asked qos waiting h = let r = few_mapped (at_most qos) (1024 - waiting) (retained_matching asked S) in omega (arith, r, h)

-- ---- in which order

abbrev Ascends : List (List ℕ) → Type 0
Ascends ts = IsStrictlySortedBy topic_name_cmp ts

abbrev IsBelow : List ℕ → List ℕ → Type 0
IsBelow t u = topic_name_cmp t u ≡ Less

-- the topics of these
abbrev topics_of : List (List ℕ × Retained) → List (List ℕ)
topics_of es = map (λ (e : List ℕ × Retained). e.0) es

module _ (P : List ℕ → Type 0) where
  all_taken : (n : ℕ) (es : List (List ℕ × Retained)) → AllByRecursion P (topics_of es) → AllByRecursion P (topics_of (take n es))
  all_taken zero es all = tt
  all_taken (suc n) [] all = tt
  all_taken (suc n) (e ∷ es) all = (all.0, all_taken n es all.1)

  all_if : (b : Bool) (e : List ℕ × Retained) (es : List (List ℕ × Retained)) → P e.0 → AllByRecursion P (topics_of es) → AllByRecursion P (topics_of (cond b (e ∷ es) es))
  all_if true e es h all = (h, all)
  all_if false e es h all = all

  all_passed : (test : List ℕ × Retained → Bool) (es : List (List ℕ × Retained)) → AllByRecursion P (topics_of es) → AllByRecursion P (topics_of (filter test es))
  all_passed test [] all = tt
  all_passed test (e ∷ es) all = all_if (test e) e (filter test es) all.0 (all_passed test es all.1)

  all_told : (S : List Op) (ts : List (List ℕ)) → AllByRecursion P ts → AllByRecursion P (topics_of (filter_map (told_of S) ts))
  all_told S [] all = tt
  all_told S (t ∷ ts) all =
      elim (retained t S) as (λ o. AllByRecursion P (topics_of (cons_option (option_map (λ (k : Retained). (t, k)) o) (filter_map (told_of S) ts)))) [
        | None ↦ all_told S ts all.1
        | Some k ↦ (all.0, all_told S ts all.1)
      ]

taken-ascend : (n : ℕ) (es : List (List ℕ × Retained)) → Ascends (topics_of es) → Ascends (topics_of (take n es))
unfolding IsStrictlySortedBy
taken-ascend zero es h = tt
taken-ascend (suc n) [] h = tt
taken-ascend (suc n) (e ∷ es) h = (all_taken (IsBelow e.0) n es h.0, taken-ascend n es h.1)

if-ascend : (b : Bool) (e : List ℕ × Retained) (es : List (List ℕ × Retained)) → AllByRecursion (IsBelow e.0) (topics_of es) → Ascends (topics_of es) → Ascends (topics_of (cond b (e ∷ es) es))
unfolding IsStrictlySortedBy
if-ascend true e es h k = (h, k)
if-ascend false e es h k = k

passed-ascend : (test : List ℕ × Retained → Bool) (es : List (List ℕ × Retained)) → Ascends (topics_of es) → Ascends (topics_of (filter test es))
unfolding IsStrictlySortedBy
passed-ascend test [] h = tt
passed-ascend test (e ∷ es) h = if-ascend (test e) e (filter test es) (all_passed (IsBelow e.0) test es h.0) (passed-ascend test es h.1)

told-ascend : (S : List Op) (ts : List (List ℕ)) → Ascends ts → Ascends (topics_of (filter_map (told_of S) ts))
unfolding IsStrictlySortedBy
told-ascend S [] h = tt
told-ascend S (t ∷ ts) h =
    elim (retained t S) as (λ o. Ascends (topics_of (cons_option (option_map (λ (k : Retained). (t, k)) o) (filter_map (told_of S) ts)))) [
      | None ↦ told-ascend S ts h.1
      | Some k ↦ (all_told (IsBelow t) S ts h.0, told-ascend S ts h.1)
    ]

posted_topics : (qos : ℕ) (es : List (List ℕ × Retained)) → map (λ (m : Posted). m.topic) (map (at_most qos) es) ≡ topics_of es
posted_topics qos [] = refl
posted_topics qos (e ∷ es) = ap (λ rest. e.0 ∷ rest) (posted_topics qos es)

pub handed-ascend : (S : List Op) (asked : List ℕ) (qos waiting : ℕ) → IsStrictlySortedBy topic_name_cmp (map (λ (m : Posted). m.topic) (handed_for (seen_of S) asked qos waiting))
handed-ascend S asked qos waiting =
    subst Ascends (sym (posted_topics qos (take (1024 - waiting) (retained_matching asked S))))
    (taken-ascend (1024 - waiting) (retained_matching asked S) (passed-ascend (is_offered asked) (all_retained S) (told-ascend S (topics S) (topics-ascend S))))
