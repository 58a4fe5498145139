-- A filter without a wildcard asks for the topic of its name alone, which a search finds.
use Rattle.std.proofs.Common.{◌≡◌, ℕ, zero, suc, ◌==◌, ◌&&◌, ◌||◌, not, nat_lt, Bool, true, false, cond, List, [], ◌∷◌, length, filter, get_or, refl, sym, ap, ◌∙◌, true≢false, Ordering, Less, Greater, is_eq}
use Rattle.std.proofs.lemmas.Bool.{and_parts}
use Rattle.std.proofs.lemmas.Slice.Eq.{bytes_eq-Decides}
use Rattle.std.proofs.lemmas.List.Splits.{join_with_byte-slice_split}
use Rattle.std.specs.List.{AllByRecursion, list_any, onto_first, join_with_byte}
use Rattle.std.specs.Str.{bytes_eq}
use Rattle.sn_topic.specs.Levels.{is_wildcard, has_wildcard, is_hash, is_plus, is_only, levels, begins_with_wildcard}
use Rattle.sn_topic.specs.Matching.{is_match, levels_match, level_agrees, no_level, begins_with_dollar}
use Rattle.sn_tables.specs.inner.Tables.{AllAbove, IsFoundAt, IsGap}
use Rattle.rep_op.specs.declared.op.Retained.{Retained}
use Rattle.rep_model.specs.Topics.{is_offered}
use Rattle.rep_retain.specs.inner.Tables.{by_topic}
use Rattle.rep_retain.proofs.Found.{apart}

-- ---- a filter without wildcards asks for itself alone

or_none : (a b : Bool) → (a || b) ≡ false → (a ≡ false) × (b ≡ false)
or_none true b h = absurd (true≢false h)
or_none false b h = (refl, h)

abbrev pub plain : List ℕ → Type 0
plain level = has_wildcard level ≡ false

not_only : (w : ℕ) (level : List ℕ) → ((o : ℕ) → (o == w) ≡ true → is_wildcard o ≡ true) → plain level → is_only w level ≡ false
not_only w [] is h = refl
not_only w (o ∷ []) is h =
    elim (o == w) as (λ b. (o == w) ≡ b → b ≡ false) [
      | true ↦ λ t. absurd (true≢false (sym (is o t) ∙ (or_none (is_wildcard o) (list_any is_wildcard []) h).0))
      | false ↦ λ _. refl
    ] refl
not_only w (o ∷ p ∷ more) is h = refl

no_hash : (level : List ℕ) → plain level → is_hash level ≡ false
no_hash level h = not_only 35 level (λ o is. elim (o == 43) as (λ b. (b || (o == 35)) ≡ true) [ true ↦ refl | false ↦ is ]) h

no_plus : (level : List ℕ) → plain level → is_plus level ≡ false
no_plus level h = not_only 43 level (λ o is. ap (λ b. b || (o == 35)) is) h

bytes_same : (a b : List ℕ) → bytes_eq a b ≡ true → a ≡ b
bytes_same a b h = (bytes_eq-Decides a b).0 h

levels_same : (asked given : List (List ℕ)) → AllByRecursion plain asked → levels_match asked given ≡ true → asked ≡ given
levels_same [] [] h m = refl
levels_same [] (g ∷ given) h m = absurd (true≢false (sym m))
levels_same (a ∷ asked) [] h m = absurd (true≢false (sym m ∙ ap (λ b. b && no_level asked) (no_hash a h.0)))
levels_same (a ∷ asked) (g ∷ given) h m =
    let second : (level_agrees a g && levels_match asked given) ≡ true = ap (λ b. (b && no_level asked) || (level_agrees a g && levels_match asked given)) (sym (no_hash a h.0)) ∙ m in
    let parts = and_parts (level_agrees a g) (levels_match asked given) second in
    let same = bytes_same a g (ap (λ b. b || bytes_eq a g) (sym (no_plus a h.0)) ∙ parts.0) in
    let rest = levels_same asked given h.1 parts.1 in
    λ i. same i ∷ rest i

plain_onto : (x : ℕ) (parts : List (List ℕ)) → is_wildcard x ≡ false → AllByRecursion plain parts → AllByRecursion plain (onto_first x parts)
plain_onto x [] w h = (ap (λ b. b || false) w, tt)
plain_onto x (part ∷ parts) w h = (ap (λ b. b || has_wildcard part) w ∙ h.0, h.1)

plain_levels : (octets : List ℕ) → plain octets → AllByRecursion plain (levels octets)
plain_levels [] h = (refl, tt)
plain_levels (x ∷ xs) h =
    let parts = or_none (is_wildcard x) (has_wildcard xs) h in
    let rest = plain_levels xs parts.1 in
    elim (x == 47) as (λ b. AllByRecursion plain (cond b ([] ∷ levels xs) (onto_first x (levels xs)))) [
      | true ↦ (refl, rest)
      | false ↦ plain_onto x (levels xs) parts.0 rest
    ]

asks_for_itself : (asked topic : List ℕ) → plain asked → is_match asked topic ≡ true → asked ≡ topic
asks_for_itself asked topic h m =
    let parts = and_parts (not (begins_with_wildcard asked && begins_with_dollar topic)) (levels_match (levels asked) (levels topic)) m in
    let same = levels_same (levels asked) (levels topic) (plain_levels asked h) parts.1 in
    sym (join_with_byte-slice_split 47 asked) ∙ ap (join_with_byte 47) same ∙ join_with_byte-slice_split 47 topic

-- ---- of a table one entry is left

module _ (asked : List ℕ) (h : plain asked) where
  -- the entry of another topic is not offered
  not_offered : (e : List ℕ × Retained) (o : Ordering) → by_topic asked e ≡ o → is_eq o ≡ false → is_offered asked e ≡ false
  not_offered e o is differ =
      ap (λ b. b && nat_lt 0 (length e.1.body))
      (elim (is_match asked e.0) as (λ b. is_match asked e.0 ≡ b → b ≡ false) [
        | true ↦ λ m. absurd (true≢false (sym ((bytes_eq-Decides e.0 asked).1 (sym (asks_for_itself asked e.0 h m))) ∙ apart e.0 asked o is differ))
        | false ↦ λ _. refl
      ] refl)

  none_above : (es : List (List ℕ × Retained)) → AllAbove (by_topic asked) es → filter (is_offered asked) es ≡ []
  none_above [] a = refl
  none_above (e ∷ es) a = ap (λ b. cond b (e ∷ filter (is_offered asked) es) (filter (is_offered asked) es)) (not_offered e Greater a.0 refl) ∙ none_above es a.1

  -- where the topic has a place, what is there is offered or nothing
  pub one_at : (es : List (List ℕ × Retained)) (i : ℕ) (d : List ℕ × Retained) → IsFoundAt (by_topic asked) es i → filter (is_offered asked) es ≡ filter (is_offered asked) (get_or es i d ∷ [])
  one_at [] i d a = absurd a
  one_at (e ∷ es) zero d a = ap (λ rest. cond (is_offered asked e) (e ∷ rest) rest) (none_above es a.1)
  one_at (e ∷ es) (suc i) d a = ap (λ b. cond b (e ∷ filter (is_offered asked) es) (filter (is_offered asked) es)) (not_offered e Less a.0 refl) ∙ one_at es i d a.1

  -- and nothing where it has none
  pub none_gap : (es : List (List ℕ × Retained)) (i : ℕ) → IsGap (by_topic asked) es i → filter (is_offered asked) es ≡ []
  none_gap es zero a = none_above es a
  none_gap [] (suc i) a = absurd a
  none_gap (e ∷ es) (suc i) a = ap (λ b. cond b (e ∷ filter (is_offered asked) es) (filter (is_offered asked) es)) (not_offered e Less a.0 refl) ∙ none_gap es i a.1
