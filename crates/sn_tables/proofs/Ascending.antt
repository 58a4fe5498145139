-- lists in strictly ascending order: each entry is below all later ones
use Rattle.std.proofs.Common.{◌≡◌, ◌<◌, Bool, true, false, cond, List, [], ◌∷◌, length, refl, ap, ◌∙◌, arith}
use Rattle.std.specs.declared.cmp.Ordering.{Ordering}
use Rattle.std.specs.declared.cmp.Ordering.TheVariants.{Less, Equal, Greater}
use Rattle.std.specs.Ordering.{is_lt, ordering_reverse}
use Rattle.std.specs.Cmp.{IsTotalOrder}
use Rattle.std.specs.List.{AllByRecursion, filter}
use Rattle.std.proofs.lemmas.Bool.{and_parts, and_from}
use Rattle.sn_tables.specs.Tables.{is_ascending, with_entry, by_order}

-- an ordering that passes the test
pub less : (o : Ordering) → is_lt o ≡ true → o ≡ Less
less Less h = refl
less Equal h = cc
less Greater h = cc

module _ {E : Type 0} where
  -- what holds of all implies what follows for all
  pub all_weaker : (P Q : E → Type 0) → ((x : E) → P x → Q x) → (xs : List E) → AllByRecursion P xs → AllByRecursion Q xs
  all_weaker P Q weaker [] h = tt
  all_weaker P Q weaker (x ∷ xs) h = (weaker x h.0, all_weaker P Q weaker xs h.1)

  -- some of all
  pub all_filter : (P : E → Type 0) (keeps : E → Bool) (xs : List E) → AllByRecursion P xs → AllByRecursion P (filter keeps xs)
  all_filter P keeps [] h = tt
  all_filter P keeps (x ∷ xs) h =
      elim (keeps x) as (λ b. AllByRecursion P (cond b (x ∷ filter keeps xs) (filter keeps xs))) [ true ↦ (h.0, all_filter P keeps xs h.1) | false ↦ all_filter P keeps xs h.1 ]

  module _ (cmp : E → E → Ordering) where
    -- each entry is below all later ones
    abbrev pub Ascends : List E → Type 0
    Ascends [] = Unit {0}
    Ascends (x ∷ xs) = AllByRecursion (λ y. cmp x y ≡ Less) xs × Ascends xs

    -- fewer than two entries ascend
    pub short : (xs : List E) → length xs < 2 → is_ascending cmp xs ≡ true
    short [] lt = refl
    short (x ∷ []) lt = refl
    short (x ∷ y ∷ rest) lt = absurd (omega arith)

    -- one more below the first
    pub test_cons : (x : E) (xs : List E) → AllByRecursion (λ y. cmp x y ≡ Less) xs → is_ascending cmp xs ≡ true → is_ascending cmp (x ∷ xs) ≡ true
    test_cons x [] h t = refl
    test_cons x (y ∷ ys) h t = and_from (is_lt (cmp x y)) (is_ascending cmp (y ∷ ys)) (ap is_lt h.0) t

    -- a list that ascends passes the test
    pub to_test : (xs : List E) → Ascends xs → is_ascending cmp xs ≡ true
    to_test [] h = refl
    to_test (x ∷ xs) h = test_cons x xs h.0 (to_test xs h.1)

    -- some entries of a list that ascends
    pub ascends_filter : (keeps : E → Bool) (xs : List E) → Ascends xs → Ascends (filter keeps xs)
    ascends_filter keeps [] h = tt
    ascends_filter keeps (x ∷ xs) h =
        elim (keeps x) as (λ b. Ascends (cond b (x ∷ filter keeps xs) (filter keeps xs))) [ true ↦ (all_filter (λ y. cmp x y ≡ Less) keeps xs h.0, ascends_filter keeps xs h.1) | false ↦ ascends_filter keeps xs h.1 ]

    -- what holds of the entry and of all holds of the table with it
    pub all_with : (P : E → Type 0) (e : E) (xs : List E) → P e → AllByRecursion P xs → AllByRecursion P (with_entry cmp e xs)
    all_with P e [] p h = (p, tt)
    all_with P e (x ∷ xs) p h =
        elim (cmp e x) as (λ o. AllByRecursion P (by_order o (e ∷ x ∷ xs) (e ∷ xs) (x ∷ with_entry cmp e xs))) [ Less ↦ (p, h) | Equal ↦ (p, h.1) | Greater ↦ (h.0, all_with P e xs p h.1) ]

    module _ (total : IsTotalOrder cmp) where
      -- the order, the other way round
      pub turned : (x y : E) (o : Ordering) → cmp x y ≡ o → cmp y x ≡ ordering_reverse o
      turned x y o h = total.antisymm y x ∙ ap ordering_reverse h

      -- a list that passes the test ascends
      pub from_test : (xs : List E) → is_ascending cmp xs ≡ true → Ascends xs
      from_test [] h = tt
      from_test (x ∷ []) h = (tt, tt)
      from_test (x ∷ y ∷ rest) h =
          let parts = and_parts (is_lt (cmp x y)) (is_ascending cmp (y ∷ rest)) h in
          let below : cmp x y ≡ Less = less (cmp x y) parts.0 in
          let later : Ascends (y ∷ rest) = from_test (y ∷ rest) parts.1 in
          ((below, all_weaker (λ z. cmp y z ≡ Less) (λ z. cmp x z ≡ Less) (λ z h. total.trans x y z below h) rest later.0), later)

      -- the table with an entry ascends
      pub ascends_with : (e : E) (xs : List E) → Ascends xs → Ascends (with_entry cmp e xs)
      ascends_with e [] h = (tt, tt)
      ascends_with e (x ∷ xs) h =
          elim (cmp e x) as (λ o. cmp e x ≡ o → Ascends (by_order o (e ∷ x ∷ xs) (e ∷ xs) (x ∷ with_entry cmp e xs))) [
            | Less ↦ λ is. ((is, all_weaker (λ z. cmp x z ≡ Less) (λ z. cmp e z ≡ Less) (λ z h. total.trans e x z is h) xs h.0), h)
            | Equal ↦ λ is. (all_weaker (λ z. cmp x z ≡ Less) (λ z. cmp e z ≡ Less) (λ z h. total.congr e x z is ∙ h) xs h.0, h.1)
            | Greater ↦ λ is. (all_with (λ z. cmp x z ≡ Less) e xs (turned e x Greater is) h.0, ascends_with e xs h.1)
          ] refl
