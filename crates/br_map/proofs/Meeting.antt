-- filters that a topic matches overlap
use Rattle.std.proofs.Common.{◌≡◌, ℕ, ◌<◌, ◌==◌, ◌||◌, ◌&&◌, not, Bool, true, false, cond, inl, inr, Bor, Option, Some, None, MatchOption, List, [], ◌∷◌, length, refl, ap, sym, subst}
use Rattle.std.specs.List.{onto_first}
use Rattle.std.specs.Option.{option_copied}
use Rattle.std.specs.Str.{bytes_eq}
use Rattle.std.proofs.lemmas.Bool.{and_parts, and_from, or_cases, or_left, or_right, eqb-true, eq-eqb, not-true}
use Rattle.std.proofs.lemmas.Slice.Eq.{bytes_eq-Decides}
use Rattle.sn_topic.specs.Levels.{begins_with_wildcard, is_hash, is_plus, levels}
use Rattle.sn_topic.specs.Matching.{Matches, begins_with_dollar, level_agrees, levels_match, no_level}
use Rattle.sn_topic.proofs.Agreement.{match_end, no_level-levels}
use Rattle.sn_topic.proofs.Cuts.{levels_some}
use Rattle.sn_topic.proofs.Rule.{is_match-Matches}
use Rattle.br_map.specs.Apart.{dollar_apart, are_filters_apart, levels_meet, overlap}
use Rattle.br_map.specs.inner.Ending.{last_overlaps}

-- two levels of filters that agree with one level of a name meet
both_same : (a b n : List ℕ) → bytes_eq a n ≡ true → bytes_eq b n ≡ true → bytes_eq a b ≡ true
both_same a b n p q =
    let first = (bytes_eq-Decides a n).0 p in
    let second = (bytes_eq-Decides b n).0 q in
    (bytes_eq-Decides a b).1 cc

meet_of : (a b n : List ℕ) → level_agrees a n ≡ true → level_agrees b n ≡ true → levels_meet a b ≡ true
meet_of a b n p q =
    elim (or_cases (is_plus a) (bytes_eq a n) p) as (λ _. levels_meet a b ≡ true) [
      | inl plus ↦ or_left (is_plus a || is_plus b) (bytes_eq a b) (or_left (is_plus a) (is_plus b) plus)
      | inr same ↦ elim (or_cases (is_plus b) (bytes_eq b n) q) as (λ _. levels_meet a b ≡ true) [
        | inl plus ↦ or_left (is_plus a || is_plus b) (bytes_eq a b) (or_right (is_plus a) (is_plus b) plus)
        | inr also ↦ or_right (is_plus a || is_plus b) (bytes_eq a b) (both_same a b n same also)
      ]
    ]

-- levels that both filters ask for
overlap_of : (f g given : List (List ℕ)) → levels_match f given ≡ true → levels_match g given ≡ true → overlap f g ≡ true
overlap_of [] g [] p q = q
overlap_of [] g (n ∷ given) p q = cc
overlap_of (a ∷ f) [] [] p q = p
overlap_of (a ∷ f) [] (n ∷ given) p q = cc
overlap_of (a ∷ f) (b ∷ g) [] p q = or_left ((is_hash a && no_level f) || (is_hash b && no_level g)) (levels_meet a b && overlap f g) (or_left (is_hash a && no_level f) (is_hash b && no_level g) p)
overlap_of (a ∷ f) (b ∷ g) (n ∷ given) p q =
    elim (or_cases (is_hash a && no_level f) (level_agrees a n && levels_match f given) p) as (λ _. overlap (a ∷ f) (b ∷ g) ≡ true) [
      | inl hash ↦ or_left ((is_hash a && no_level f) || (is_hash b && no_level g)) (levels_meet a b && overlap f g) (or_left (is_hash a && no_level f) (is_hash b && no_level g) hash)
      | inr one ↦ elim (or_cases (is_hash b && no_level g) (level_agrees b n && levels_match g given) q) as (λ _. overlap (a ∷ f) (b ∷ g) ≡ true) [
        | inl hash ↦ or_left ((is_hash a && no_level f) || (is_hash b && no_level g)) (levels_meet a b && overlap f g) (or_right (is_hash a && no_level f) (is_hash b && no_level g) hash)
        | inr two ↦
            let first = and_parts (level_agrees a n) (levels_match f given) one in
            let second = and_parts (level_agrees b n) (levels_match g given) two in
            or_right ((is_hash a && no_level f) || (is_hash b && no_level g)) (levels_meet a b && overlap f g) (and_from (levels_meet a b) (overlap f g) (meet_of a b n first.0 second.0) (overlap_of f g given first.1 second.1))
      ]
    ]

-- a name whose first level begins with `$` begins with it
head_at : (x : ℕ) (parts : List (List ℕ)) (slash : Bool) (first : List ℕ) (more : List (List ℕ)) → cond slash ([] ∷ parts) (onto_first x parts) ≡ (36 ∷ first) ∷ more → x ≡ 36
head_at x parts true first more h = cc
head_at x [] false first more h = cc
head_at x (part ∷ rest) false first more h = cc

head_dollar : (topic first : List ℕ) (more : List (List ℕ)) → levels topic ≡ (36 ∷ first) ∷ more → begins_with_dollar topic ≡ true
head_dollar [] first more h = cc
head_dollar (x ∷ xs) first more h = eq-eqb x 36 (head_at x (levels xs) (x == 47) first more h)

-- a level that begins with `$` is no wildcard
no_hash : (first : List ℕ) → is_hash (36 ∷ first) ≡ false
no_hash [] = refl
no_hash (x ∷ first) = refl

no_plus : (first : List ℕ) → is_plus (36 ∷ first) ≡ false
no_plus [] = refl
no_plus (x ∷ first) = refl

-- so a name that is asked for by one has that level
dollar_level : (first : List ℕ) (more given : List (List ℕ)) (hash plus : Bool) → is_hash (36 ∷ first) ≡ hash → is_plus (36 ∷ first) ≡ plus → hash ≡ false → plus ≡ false
    → levels_match ((36 ∷ first) ∷ more) given ≡ true → (others : List (List ℕ)) × (given ≡ (36 ∷ first) ∷ others)
dollar_level first more [] hash plus e d free none h =
    let parts = and_parts (is_hash (36 ∷ first)) (no_level more) h in
    let wrong : true ≡ false = cc in
    absurd cc
dollar_level first more (n ∷ given) hash plus e d free none h =
    elim (or_cases (is_hash (36 ∷ first) && no_level more) (level_agrees (36 ∷ first) n && levels_match more given) h) as (λ _. (others : List (List ℕ)) × (n ∷ given ≡ (36 ∷ first) ∷ others)) [
      | inl left ↦
          let parts = and_parts (is_hash (36 ∷ first)) (no_level more) left in
          let wrong : true ≡ false = cc in
          absurd cc
      | inr right ↦
          let parts = and_parts (level_agrees (36 ∷ first) n) (levels_match more given) right in
          elim (or_cases (is_plus (36 ∷ first)) (bytes_eq (36 ∷ first) n) parts.0) as (λ _. (others : List (List ℕ)) × (n ∷ given ≡ (36 ∷ first) ∷ others)) [
            | inl plus_is ↦ let wrong : true ≡ false = cc in absurd cc
            | inr same ↦ (given, ap (λ level. level ∷ given) (sym ((bytes_eq-Decides (36 ∷ first) n).0 same)))
          ]
    ]

dollar_after : (rest topic : List ℕ) → levels_match (levels (36 ∷ rest)) (levels topic) ≡ true → begins_with_dollar topic ≡ true
dollar_after rest topic h =
    let some = levels_some rest in
    let P : List (List ℕ) → Type 0 = λ parts. levels_match (onto_first 36 parts) (levels topic) ≡ true in
    let found = dollar_level some.0 some.1 (levels topic) (is_hash (36 ∷ some.0)) (is_plus (36 ∷ some.0)) refl refl (no_hash some.0) (no_plus some.0) (subst P some.2 h) in
    head_dollar topic some.0 found.0 found.1

dollar_of : (filter topic : List ℕ) → begins_with_dollar filter ≡ true → levels_match (levels filter) (levels topic) ≡ true → begins_with_dollar topic ≡ true
dollar_of [] topic d h = cc
dollar_of (x ∷ rest) topic d h =
    let is = eqb-true x 36 d in
    let P : ℕ → Type 0 = λ n. levels_match (levels (n ∷ rest)) (levels topic) ≡ true in
    dollar_after rest topic (subst P is h)

-- what a topic that a filter matches has
levels_of : (filter topic : List ℕ) → Matches filter topic → levels_match (levels filter) (levels topic) ≡ true
levels_of filter topic m = (and_parts (not (begins_with_wildcard filter && begins_with_dollar topic)) (levels_match (levels filter) (levels topic)) ((is_match-Matches filter topic).1 m)).1

apart_by_dollar : (f g topic : List ℕ) → dollar_apart f g ≡ true → Matches f topic → Matches g topic → ⊥
apart_by_dollar f g topic d m n =
    let parts = and_parts (begins_with_wildcard f) (begins_with_dollar g) d in
    m.1 (parts.0, dollar_of g topic parts.1 (levels_of g topic n))

pub apart_rule : (f g : List ℕ) → are_filters_apart f g ≡ true → (topic : List ℕ) → Matches f topic → Matches g topic → ⊥
apart_rule f g h topic m n =
    elim (or_cases (dollar_apart f g || dollar_apart g f) (not (overlap (levels f) (levels g))) h) as (λ _. ⊥) [
      | inl dollar ↦ elim (or_cases (dollar_apart f g) (dollar_apart g f) dollar) as (λ _. ⊥) [
        | inl first ↦ apart_by_dollar f g topic first m n
        | inr second ↦ apart_by_dollar g f topic second n m
      ]
      | inr none ↦
          let never = not-true (overlap (levels f) (levels g)) none in
          let always = overlap_of (levels f) (levels g) (levels topic) (levels_of f topic m) (levels_of g topic n) in
          let wrong : true ≡ false = cc in
          absurd cc
    ]

-- the levels of two filters, a first level at a time
last_both : (hash other meet : Bool) → (((hash && true) || (other && true)) || (meet && true)) ≡ ((hash || other) || meet)
last_both true other meet = refl
last_both false true meet = refl
last_both false false true = refl
last_both false false false = refl

last_one : (hash other meet rest : Bool) → (((hash && true) || (other && false)) || (meet && rest)) ≡ (hash || (meet && rest))
last_one true other meet rest = refl
last_one false true meet rest = refl
last_one false false meet rest = refl

other_last : (hash other meet rest : Bool) → (((hash && false) || (other && true)) || (meet && rest)) ≡ (other || (meet && rest))
other_last true true meet rest = refl
other_last true false meet rest = refl
other_last false true meet rest = refl
other_last false false meet rest = refl

both_more : (hash other meet rest : Bool) → (((hash && false) || (other && false)) || (meet && rest)) ≡ (meet && rest)
both_more true true meet rest = refl
both_more true false meet rest = refl
both_more false true meet rest = refl
both_more false false meet rest = refl

-- nothing against the levels of a topic
nothing_left : (rest : List ℕ) → overlap [] (levels rest) ≡ is_hash rest
nothing_left rest = match_end rest

left_nothing : (rest : List ℕ) → overlap (levels rest) [] ≡ is_hash rest
left_nothing rest =
    let some = levels_some rest in
    let P : List (List ℕ) → Type 0 = λ parts. levels_match parts [] ≡ is_hash rest in
    let Q : List (List ℕ) → Type 0 = λ parts. overlap parts [] ≡ is_hash rest in
    subst Q (sym some.2) (subst P some.2 (match_end rest))

-- the last level of the first filter
overlap_last_none : (last other right : List ℕ) → levels right ≡ other ∷ [] → overlap (last ∷ []) (levels right) ≡ last_overlaps last other None
overlap_last_none last other right h =
    let P : List (List ℕ) → Type 0 = λ parts. overlap (last ∷ []) parts ≡ last_overlaps last other None in
    subst P (sym h) (last_both (is_hash last) (is_hash other) (levels_meet last other))

overlap_last_some : (last other right rest : List ℕ) → levels right ≡ other ∷ levels rest → overlap (last ∷ []) (levels right) ≡ last_overlaps last other (Some rest)
overlap_last_some last other right rest h =
    let P : List (List ℕ) → Type 0 = λ parts. overlap (last ∷ []) parts ≡ last_overlaps last other (Some rest) in
    let Q : Bool → Bool → Type 0 = λ none end. (((is_hash last && true) || (is_hash other && none)) || (levels_meet last other && end)) ≡ last_overlaps last other (Some rest) in
    let R : Bool → Type 0 = λ none. Q none (overlap [] (levels rest)) in
    let S : Bool → Type 0 = λ end. Q false end in
    subst P (sym h) (subst R (sym (no_level-levels rest)) (subst S (sym (nothing_left rest)) (last_one (is_hash last) (is_hash other) (levels_meet last other) (is_hash rest))))

pub overlap_last : (last other right : List ℕ) (more : Option (Bor (List ℕ))) → MatchOption more (levels right ≡ other ∷ []) (λ rest. (length rest.now < length right) × (levels right ≡ other ∷ levels rest.now))
    → overlap (last ∷ []) (levels right) ≡ last_overlaps last other (option_copied more)
overlap_last last other right None h = overlap_last_none last other right h
overlap_last last other right (Some rest) h = overlap_last_some last other right rest.now h.1

-- the last level of the second filter
pub overlap_short : (level rest other : List ℕ) → overlap (level ∷ levels rest) (other ∷ []) ≡ (is_hash other || (levels_meet level other && is_hash rest))
overlap_short level rest other =
    let Q : Bool → Bool → Type 0 = λ none end. (((is_hash level && none) || (is_hash other && true)) || (levels_meet level other && end)) ≡ (is_hash other || (levels_meet level other && is_hash rest)) in
    let R : Bool → Type 0 = λ none. Q none (overlap (levels rest) []) in
    let S : Bool → Type 0 = λ end. Q false end in
    subst R (sym (no_level-levels rest)) (subst S (sym (left_nothing rest)) (other_last (is_hash level) (is_hash other) (levels_meet level other) (is_hash rest)))

-- a level of each that others follow
pub overlap_next : (level rest other more : List ℕ) → overlap (level ∷ levels rest) (other ∷ levels more) ≡ (levels_meet level other && overlap (levels rest) (levels more))
overlap_next level rest other more =
    let Q : Bool → Bool → Type 0 = λ none also. (((is_hash level && none) || (is_hash other && also)) || (levels_meet level other && overlap (levels rest) (levels more))) ≡ (levels_meet level other && overlap (levels rest) (levels more)) in
    let R : Bool → Type 0 = λ none. Q none (no_level (levels more)) in
    let S : Bool → Type 0 = λ also. Q false also in
    subst R (sym (no_level-levels rest)) (subst S (sym (no_level-levels more)) (both_more (is_hash level) (is_hash other) (levels_meet level other) (overlap (levels rest) (levels more))))
