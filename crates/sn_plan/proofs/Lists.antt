-- Options and lists: what was there before a map, what a fold makes of one more, all of a part.
use Rattle.std.proofs.Common.{◌≡◌, List, [], ◌∷◌, ◌++◌, map, fold, filter_map, Option, Some, None, option_map, option_and_then, refl, ap, ◌∙◌}
use Rattle.std.specs.List.{AllByRecursion, cons_option}
use Rattle.std.proofs.lemmas.Option.{none-some, same_Some}

pub and_then-some : {A B : Type 0} (f : A → Option B) (o : Option A) (y : B) → option_and_then f o ≡ Some y → (x : A) × (o ≡ Some x) × (f x ≡ Some y)
and_then-some f None y e = absurd (none-some y e)
and_then-some f (Some x) y e = (x, refl, e)

pub map-some : {A B : Type 0} (f : A → B) (o : Option A) (y : B) → option_map f o ≡ Some y → (x : A) × (o ≡ Some x) × (f x ≡ y)
map-some f None y e = absurd (none-some y e)
map-some f (Some x) y e = (x, refl, same_Some (f x) y e)

pub fold_one_more : {A B : Type 0} (f : B → A → B) (b : B) (xs : List A) (x : A) → fold f b (xs ++ x ∷ []) ≡ f (fold f b xs) x
fold_one_more f b [] x = refl
fold_one_more f b (y ∷ ys) x = fold_one_more f (f b y) ys x

pub all-append : {A : Type 0} (P : A → Type 0) (xs ys : List A) → AllByRecursion P xs → AllByRecursion P ys → AllByRecursion P (xs ++ ys)
all-append P [] ys f h = h
all-append P (x ∷ xs) ys f h = (f.0, all-append P xs ys f.1 h)

pub all-weaken : {A : Type 0} (P Q : A → Type 0) → ((x : A) → P x → Q x) → (xs : List A) → AllByRecursion P xs → AllByRecursion Q xs
all-weaken P Q f [] h = tt
all-weaken P Q f (x ∷ xs) h = (f x h.0, all-weaken P Q f xs h.1)

pub all-map : {A B : Type 0} (P : B → Type 0) (f : A → B) → ((x : A) → P (f x)) → (xs : List A) → AllByRecursion P (map f xs)
all-map P f h [] = tt
all-map P f h (x ∷ xs) = (h x, all-map P f h xs)

-- where nothing passes, nothing is left
pub none_pass : {A B : Type 0} (f : A → Option B) (xs : List A) → AllByRecursion (λ x. f x ≡ None) xs → filter_map f xs ≡ []
none_pass f [] h = refl
none_pass f (x ∷ xs) h = ap (λ o. cons_option o (filter_map f xs)) h.0 ∙ none_pass f xs h.1

pub all-given : {A : Type 0} (P : A → Type 0) → ((x : A) → P x) → (xs : List A) → AllByRecursion P xs
all-given P h [] = tt
all-given P h (x ∷ xs) = (h x, all-given P h xs)

pub all-both : {A : Type 0} (P Q R : A → Type 0) → ((x : A) → P x → Q x → R x) → (xs : List A) → AllByRecursion P xs → AllByRecursion Q xs → AllByRecursion R xs
all-both P Q R f [] h k = tt
all-both P Q R f (x ∷ xs) h k = (f x h.0 k.0, all-both P Q R f xs h.1 k.1)
