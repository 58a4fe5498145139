-- Counts of what passes a test, where fewer pass another; sums of what each weighs; and the arithmetic of what is left to do.
use Rattle.std.proofs.Common.{◌≡◌, ◌⊎◌, ℕ, suc, ◌+◌, ◌*◌, ◌<◌, ◌≤◌, Bool, true, false, cond, List, [], ◌∷◌, filter, length, Contains, refl, sym, ap, ◌∙◌, subst, true≢false, inl, inr, zero, not-suc-le-zero, le_of_suc-le-suc, arith, mul-le-mul_right, add-mul, one-mul, mul_assoc, mul_comm}
use Rattle.std.proofs.lemmas.List.Elements.{Contains-push, Contains-append_left, Contains-append_right}

-- how many pass the test
abbrev pub count : {X : Type 0} → (X → Bool) → List X → ℕ
count test xs = length (filter test xs)

-- the list has the element, told by recursion
abbrev pub IsAmong : {X : Type 0} → X → List X → Type 0
IsAmong x [] = ⊥
IsAmong x (y ∷ rest) = (x ≡ y) ⊎ IsAmong x rest

pub among-contains : {X : Type 0} (x : X) (xs : List X) → IsAmong x xs → Contains xs x
among-contains x [] h = absurd h
among-contains x (y ∷ rest) (inl e) = rw e (Contains-append_left (y ∷ []) rest y (Contains-push [] y))
among-contains x (y ∷ rest) (inr h) = Contains-append_right (y ∷ []) rest x (among-contains x rest h)

pub contains-among : {X : Type 0} (x : X) (xs : List X) → Contains xs x → IsAmong x xs
contains-among x [] h = absurd (not-suc-le-zero h.1)
contains-among x (y ∷ rest) (zero, short, is) = inl (sym is)
contains-among x (y ∷ rest) (suc k, short, is) = inr (contains-among x rest (k, le_of_suc-le-suc short, is))

module _ {X : Type 0} (x : X) (ys zs : List X) where
  longer : (a b : Bool) → (a ≡ true → b ≡ true) → length ys ≤ length zs → length (cond a (x ∷ ys) ys) ≤ length (cond b (x ∷ zs) zs)
  longer true true h k = omega arith
  longer true false h k = absurd (true≢false (sym (h refl)))
  longer false true h k = omega arith
  longer false false h k = k

  longer_here : (a b : Bool) → a ≡ false → b ≡ true → length ys ≤ length zs → length (cond a (x ∷ ys) ys) < length (cond b (x ∷ zs) zs)
  longer_here true b e f k = absurd (true≢false e)
  longer_here false true e f k = omega arith
  longer_here false false e f k = absurd (true≢false (sym f))

  longer_later : (a b : Bool) → (a ≡ true → b ≡ true) → length ys < length zs → length (cond a (x ∷ ys) ys) < length (cond b (x ∷ zs) zs)
  longer_later true true h k = omega arith
  longer_later true false h k = absurd (true≢false (sym (h refl)))
  longer_later false true h k = omega arith
  longer_later false false h k = k

module _ {X : Type 0} (p q : X → Bool) (weaker : (x : X) → q x ≡ true → p x ≡ true) where
  -- where each that passes the one test passes the other, no more pass it
  pub count-most : (xs : List X) → count q xs ≤ count p xs
  count-most [] = omega arith
  count-most (x ∷ rest) = longer x (filter q rest) (filter p rest) (q x) (p x) (weaker x) (count-most rest)

  -- and fewer, where one among them passes the other test alone
  pub count-fewer : (c : X) → p c ≡ true → q c ≡ false → (xs : List X) → IsAmong c xs → count q xs < count p xs
  count-fewer c is isnt [] h = absurd h
  count-fewer c is isnt (x ∷ rest) (inl e) =
      longer_here x (filter q rest) (filter p rest) (q x) (p x) (ap q (sym e) ∙ isnt) (ap p (sym e) ∙ is) (count-most rest)
  count-fewer c is isnt (x ∷ rest) (inr h) =
      longer_later x (filter q rest) (filter p rest) (q x) (p x) (weaker x) (count-fewer c is isnt rest h)

shorter : {X : Type 0} (b : Bool) (x : X) (ys : List X) (n : ℕ) → length ys ≤ n → length (cond b (x ∷ ys) ys) ≤ suc n
shorter true x ys n h = omega arith
shorter false x ys n h = omega arith

pub count-whole : {X : Type 0} (test : X → Bool) (xs : List X) → count test xs ≤ length xs
count-whole test [] = omega arith
count-whole test (x ∷ rest) = shorter (test x) x (filter test rest) (length rest) (count-whole test rest)

-- ---- sums of what each weighs

abbrev pub weigh : {X : Type 0} → (X → ℕ) → List X → ℕ
weigh weight [] = 0
weigh weight (x ∷ rest) = weight x + weigh weight rest

both_less : (a b c d : ℕ) → a ≤ b → c ≤ d → a + c ≤ b + d
both_less a b c d h k = omega arith

first_less : (a b c d : ℕ) → a < b → c ≤ d → a + c < b + d
first_less a b c d h k = omega arith

later_less : (a b c d : ℕ) → a ≤ b → c < d → a + c < b + d
later_less a b c d h k = omega arith

module _ {X : Type 0} (v w : X → ℕ) (lighter : (x : X) → w x ≤ v x) where
  -- where none weighs more, all do not
  pub weigh-most : (xs : List X) → weigh w xs ≤ weigh v xs
  weigh-most [] = omega arith
  weigh-most (x ∷ rest) = both_less (w x) (v x) (weigh w rest) (weigh v rest) (lighter x) (weigh-most rest)

  -- and less, where one among them weighs less
  pub weigh-less : (c : X) → w c < v c → (xs : List X) → IsAmong c xs → weigh w xs < weigh v xs
  weigh-less c less [] h = absurd h
  weigh-less c less (x ∷ rest) (inl e) =
      first_less (w x) (v x) (weigh w rest) (weigh v rest) (subst (λ (y : X). w y < v y) e less) (weigh-most rest)
  weigh-less c less (x ∷ rest) (inr h) = later_less (w x) (v x) (weigh w rest) (weigh v rest) (lighter x) (weigh-less c less rest h)

thrice_more : (w n m : ℕ) → w ≤ 3 → n ≤ 3 * m → w + n ≤ 3 * (suc m)
thrice_more w n m h k = omega arith

pub weigh-whole : {X : Type 0} (weight : X → ℕ) → ((x : X) → weight x ≤ 3) → (xs : List X) → weigh weight xs ≤ 3 * length xs
weigh-whole weight h [] = omega arith
weigh-whole weight h (x ∷ rest) = thrice_more (weight x) (weigh weight rest) (length rest) (h x) (weigh-whole weight h rest)

some_more : (w n : ℕ) → 0 < w → 0 < w + n
some_more w n h = omega arith

some_later : (w n : ℕ) → 0 < n → 0 < w + n
some_later w n h = omega arith

-- where one weighs something, all do
pub weigh-some : {X : Type 0} (weight : X → ℕ) (c : X) → 0 < weight c → (xs : List X) → IsAmong c xs → 0 < weigh weight xs
weigh-some weight c some [] h = absurd h
weigh-some weight c some (x ∷ rest) (inl e) = some_more (weight x) (weigh weight rest) (subst (λ y. 0 < weight y) e some)
weigh-some weight c some (x ∷ rest) (inr h) = some_later (weight x) (weigh weight rest) (weigh-some weight c some rest h)

-- ---- what is left to do: of n clients u are up, each of which can still make k more due; what is due weighs d; and a times more

-- a client is lost
pub less_up : (k u v d e a b : ℕ) → v < u → e < k → b ≤ a → v * k + e + b < u * k + d + a
less_up k u v d e a b fewer few once =
    let more : (v + 1) * k ≤ u * k = mul-le-mul_right k (omega arith) in
    omega (arith, more, add-mul v 1 k, one-mul k)

-- what is due with a client is done
pub less_due : (k u v d e a b : ℕ) → v ≤ u → e < d → b ≤ a → v * k + e + b < u * k + d + a
less_due k u v d e a b fewer few once =
    let more : v * k ≤ u * k = mul-le-mul_right k fewer in
    omega (arith, more)

-- it was time for something, and is not any more
pub less_time : (k u v d e a b : ℕ) → v ≤ u → e ≤ d → b < a → v * k + e + b < u * k + d + a
less_time k u v d e a b fewer few once =
    let more : v * k ≤ u * k = mul-le-mul_right k fewer in
    omega (arith, more)

-- nothing is done
pub no_more : (k u v d e a b : ℕ) → v ≤ u → e ≤ d → b ≤ a → v * k + e + b ≤ u * k + d + a
no_more k u v d e a b fewer few once =
    let more : v * k ≤ u * k = mul-le-mul_right k fewer in
    omega (arith, more)

all_of_them : (n u k d a : ℕ) → u ≤ n → d + a ≤ k → u * k + d + a ≤ (n + 1) * k
all_of_them n u k d a few due =
    let more : u * k ≤ n * k = mul-le-mul_right k few in
    omega (arith, more, add-mul n 1 k, one-mul k)

thrice : (m : ℕ) → m * (3 * m) ≡ 3 * (m * m)
thrice m = mul_comm m (3 * m) ∙ mul_assoc 3 m m

at_most_three : (n d a : ℕ) → d ≤ 3 * n → a ≤ 1 → d + a ≤ 3 * (n + 1)
at_most_three n d a h k = omega arith

pub all_left_to_do : (n u d a : ℕ) → u ≤ n → d ≤ 3 * n → a ≤ 1 → u * (3 * (n + 1)) + d + a ≤ 3 * ((n + 1) * (n + 1))
all_left_to_do n u d a few due once =
    subst (λ most. u * (3 * (n + 1)) + d + a ≤ most) (thrice (n + 1)) (all_of_them n u (3 * (n + 1)) d a few (at_most_three n d a due once))

pub below_three : (n d : ℕ) → d ≤ 3 * n → d < 3 * (n + 1)
below_three n d h = omega arith
