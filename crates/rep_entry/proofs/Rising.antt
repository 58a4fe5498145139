-- Messages whose names ascend, and both lists in one.
use Rattle.std.proofs.Common.{◌≡◌, ℕ, true, false, List, [], ◌∷◌, ◌++◌, map, Option, Some, None, is_some, if◌then◌else◌, refl, sym, ap, ◌∙◌, Ordering, Less, Equal, Greater, true≢false}
use Rattle.std.specs.List.{AllByRecursion}
use Rattle.std.specs.Ordering.{is_lt, is_eq, eq_by_cmp, ordering_reverse}
use Rattle.std.specs.FinMap.{find, put}
use Rattle.std.specs.FinMap.Entries.{by_order}
use Rattle.rep_op.specs.declared.op.Put.{Put}
use Rattle.rep_op.specs.Orders.{name_of, put_cmp}
use Rattle.rep_model.specs.Views.{in_order}
use Rattle.rep_model.proofs.Lookup.{or_else, find_both}
use Rattle.rep_model.proofs.Readers.{put_total}
use Rattle.rep_model.proofs.Joins.{all-both, all-weaker}
use Rattle.rep_log.specs.Mail.{goes_before, front_before, rest_from, weave, IsLess, Above, Rising, named_puts, put_by_name, InOne}

-- p's name is none of theirs
abbrev pub IsApart : Put → List Put → Type 0
IsApart p ns = AllByRecursion (λ n. eq_by_cmp put_cmp (name_of p) (name_of n) ≡ false) ns

abbrev pub AreApart : List Put → List Put → Type 0
AreApart ps ns = AllByRecursion (λ p. IsApart p ns) ps

less : (r : Ordering) → is_lt r ≡ true → r ≡ Less
less Less e = refl
less Equal e = absurd (true≢false (sym e))
less Greater e = absurd (true≢false (sym e))

above_trans : (q p : Put) (ns : List Put) → IsLess q p → Above p ns → Above q ns
above_trans q p ns h above = all-weaker (IsLess p) (IsLess q) (λ n e. put_total.trans (name_of q) (name_of p) (name_of n) h e) ns above

module _ (p : Put) where
  front_all : (P : Put → Type 0) (ns : List Put) → AllByRecursion P ns → AllByRecursion P (front_before p ns)
  front_all P [] h = tt
  front_all P (n ∷ ns) h = elim (goes_before n p) as (λ b. AllByRecursion P (if b then n ∷ front_before p ns else [])) [ true ↦ (h.0, front_all P ns h.1) | false ↦ tt ]

  rest_every : (P : Put → Type 0) (ns : List Put) → AllByRecursion P ns → AllByRecursion P (rest_from p ns)
  rest_every P [] h = tt
  rest_every P (n ∷ ns) h = elim (goes_before n p) as (λ b. AllByRecursion P (if b then rest_from p ns else n ∷ ns)) [ true ↦ rest_every P ns h.1 | false ↦ h ]

  front_below : (ns : List Put) → AllByRecursion (λ n. IsLess n p) (front_before p ns)
  front_below [] = tt
  front_below (n ∷ ns) = elim (goes_before n p) as (λ b. goes_before n p ≡ b → AllByRecursion (λ n. IsLess n p) (if b then n ∷ front_before p ns else [])) [ true ↦ λ e. (less (put_cmp (name_of n) (name_of p)) e, front_below ns) | false ↦ λ _. tt ] refl

  rising_front : (ns : List Put) → Rising ns → Rising (front_before p ns)
  rising_front [] h = tt
  rising_front (n ∷ ns) h = elim (goes_before n p) as (λ b. Rising (if b then n ∷ front_before p ns else [])) [ true ↦ (front_all (IsLess n) ns h.0, rising_front ns h.1) | false ↦ tt ]

  rising_rest : (ns : List Put) → Rising ns → Rising (rest_from p ns)
  rising_rest [] h = tt
  rising_rest (n ∷ ns) h = elim (goes_before n p) as (λ b. Rising (if b then rest_from p ns else n ∷ ns)) [ true ↦ rising_rest ns h.1 | false ↦ h ]

  -- what does not go before p, and is not named as p, comes after it
  after : (n : Put) → goes_before n p ≡ false → eq_by_cmp put_cmp (name_of p) (name_of n) ≡ false → IsLess p n
  after n low apart = turned (put_cmp (name_of p) (name_of n)) (put_cmp (name_of n) (name_of p)) (put_total.antisymm (name_of n) (name_of p)) apart low
    where
      turned : (r s : Ordering) → s ≡ ordering_reverse r → is_eq r ≡ false → is_lt s ≡ false → r ≡ Less
      turned Less s e a b = refl
      turned Equal s e a b = absurd (true≢false a)
      turned Greater s e a b = absurd (true≢false (sym (ap is_lt e) ∙ b))

  rest_above : (ns : List Put) → Rising ns → IsApart p ns → Above p (rest_from p ns)
  rest_above [] h a = tt
  rest_above (n ∷ ns) h a = elim (goes_before n p) as (λ b. goes_before n p ≡ b → Above p (if b then rest_from p ns else n ∷ ns)) [
    | true ↦ λ _. rest_above ns h.1 a.1
    | false ↦ λ e. let first = after n e a.0 in (first, above_trans p n ns first h.0)
  ] refl

  rising_join : (xs ys : List Put) → Rising xs → AllByRecursion (λ n. IsLess n p) xs → Above p ys → Rising ys → Rising (xs ++ p ∷ ys)
  rising_join [] ys h below above k = (above, k)
  rising_join (x ∷ xs) ys h below above k = (all-both (IsLess x) xs (p ∷ ys) h.0 (below.0, above_trans x p ys below.0 above), rising_join xs ys h.1 below.1 above k)

  pub front_rest : (ns : List Put) → front_before p ns ++ rest_from p ns ≡ ns
  front_rest [] = refl
  front_rest (n ∷ ns) = elim (goes_before n p) as (λ b. (if b then n ∷ front_before p ns else []) ++ (if b then rest_from p ns else n ∷ ns) ≡ n ∷ ns) [ true ↦ ap (λ rest. n ∷ rest) (front_rest ns) | false ↦ refl ]

pub weave_all : (P : Put → Type 0) (ps ns : List Put) → AllByRecursion P ps → AllByRecursion P ns → AllByRecursion P (weave ps ns)
weave_all P [] ns f g = g
weave_all P (p ∷ ps) ns f g = all-both P (front_before p ns) (p ∷ weave ps (rest_from p ns)) (front_all p P ns g) (f.0, weave_all P ps (rest_from p ns) f.1 (rest_every p P ns g))

-- both in one ascend
pub rising_weave : (ps ns : List Put) → Rising ps → Rising ns → AreApart ps ns → Rising (weave ps ns)
rising_weave [] ns f g a = g
rising_weave (p ∷ ps) ns f g a =
    let rest = rest_from p ns in
    rising_join p (front_before p ns) (weave ps rest) (rising_front p ns g) (front_below p ns)
    (weave_all (IsLess p) ps rest f.0 (rest_above p ns g a.0))
    (rising_weave ps rest f.1 (rising_rest p ns g) (all-weaker (λ q. IsApart q ns) (λ q. IsApart q rest) (λ q h. rest_every p (λ n. eq_by_cmp put_cmp (name_of q) (name_of n) ≡ false) ns h) ps a.1))

-- ---- under their names

named_both : (ps ns : List Put) → named_puts (ps ++ ns) ≡ named_puts ps ++ named_puts ns
named_both [] ns = refl
named_both (p ∷ ps) ns = ap (λ rest. (name_of p, p) ∷ rest) (named_both ps ns)

put_named_both : (q : ℕ × ℕ) (ps ns : List Put) → put_by_name q (ps ++ ns) ≡ or_else (put_by_name q ps) (put_by_name q ns)
put_named_both q ps ns = ap (find put_cmp q) (named_both ps ns) ∙ find_both put_cmp q (named_puts ps) (named_puts ns)

shuffled : (front p ps rest : Option Put) → (is_some (or_else p ps) ≡ true → or_else front rest ≡ None) → or_else front (or_else p (or_else ps rest)) ≡ or_else (or_else p ps) (or_else front rest)
shuffled None None ps rest h = refl
shuffled None (Some x) ps rest h = refl
shuffled (Some f) None None rest h = refl
shuffled (Some f) None (Some x) rest h = h refl ∙ none_first (sym (h refl))
  where
    none_first : {P : Type 0} → None ≡ Some f → P
    none_first e = cc
shuffled (Some f) (Some x) ps rest h = none_first (sym (h refl))
  where
    none_first : {P : Type 0} → None ≡ Some f → P
    none_first e = cc

-- what both in one have under a name
pub find_weave : (q : ℕ × ℕ) (ps ns : List Put) → InOne q ps ns → put_by_name q (weave ps ns) ≡ or_else (put_by_name q ps) (put_by_name q ns)
find_weave q [] ns h = refl
find_weave q (p ∷ ps) ns h =
    let front = front_before p ns in
    let rest = rest_from p ns in
    let halves : put_by_name q ns ≡ or_else (put_by_name q front) (put_by_name q rest) = ap (put_by_name q) (sym (front_rest p ns)) ∙ put_named_both q front rest in
    let one : Option Put = put_by_name q (p ∷ []) in
    let split : put_by_name q (p ∷ ps) ≡ or_else one (put_by_name q ps) = put_named_both q (p ∷ []) ps in
    put_named_both q front (p ∷ weave ps rest)
    ∙ ap (or_else (put_by_name q front)) (put_named_both q (p ∷ []) (weave ps rest) ∙ ap (or_else one) (find_weave q ps rest (λ there. last_none (put_by_name q front) (put_by_name q rest) (sym halves ∙ h (ap is_some split ∙ some_second one (put_by_name q ps) there)))))
    ∙ shuffled (put_by_name q front) one (put_by_name q ps) (put_by_name q rest) (λ there. sym halves ∙ h (ap is_some split ∙ there))
    ∙ λ i. or_else (sym split i) (sym halves i)
  where
    last_none : (a b : Option Put) → or_else a b ≡ None → b ≡ None
    last_none None b e = e
    last_none (Some x) b e = some_none e
      where
        some_none : {P : Type 0} → Some x ≡ None → P
        some_none e = cc

    some_second : (a b : Option Put) → is_some b ≡ true → is_some (or_else a b) ≡ true
    some_second None b e = e
    some_second (Some x) b e = refl

-- ---- ascending messages are in order

put_front : (p : Put) (ps : List Put) → Above p ps → put put_cmp (name_of p) p (named_puts ps) ≡ (name_of p, p) ∷ named_puts ps
put_front p [] h = refl
put_front p (q ∷ ps) h = ap (λ r. by_order r ((name_of p, p) ∷ (name_of q, q) ∷ named_puts ps) ((name_of q, p) ∷ named_puts ps) ((name_of q, q) ∷ put put_cmp (name_of p) p (named_puts ps))) h.0

pub in_order_rising : (ps : List Put) → Rising ps → in_order put_cmp (named_puts ps) ≡ named_puts ps
in_order_rising [] h = refl
in_order_rising (p ∷ ps) h = ap (put put_cmp (name_of p) p) (in_order_rising ps h.1) ∙ put_front p ps h.0

pub values_named : (ps : List Put) → map (λ (e : (ℕ × ℕ) × Put). e.1) (named_puts ps) ≡ ps
values_named [] = refl
values_named (p ∷ ps) = ap (λ rest. p ∷ rest) (values_named ps)
