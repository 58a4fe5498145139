-- the front of a queue
use Rattle.std.proofs.Common.{◌≡◌, ◌<◌, ◌↔◌, Bor, List, [], ◌∷◌, ◌++◌, length, Option, Some, None, true, false, refl, sym, ap, arith}
use Rattle.std.specs.Prelude.{IsSome, MatchOption, slice_get}
use Rattle.std.specs.Option.{option_copied, option_to_list}
use Rattle.std.specs.Slice.{IsItemAt}

-- what is lent is the first item
pub front-is : {X : Type 0} (xs : List X) (r : Option (Bor X)) → IsItemAt xs 0 r → option_copied r ≡ slice_get xs 0
front-is [] None is = refl
front-is [] (Some x) is = let none : true ≡ false = is.0 in cc
front-is (y ∷ ys) None is =
    let some : 0 < length (y ∷ ys) = omega arith in
    let there : false ≡ true = is.2 some in cc
front-is {X} (y ∷ ys) (Some x) is = ap (λ (one : X). Some one) is.1

-- what is taken out was the first item
pub popped : {X : Type 0} (old new : List X) (r : Option X) → old ≡ option_to_list r ++ new → (IsSome r ↔ (0 < length old)) → MatchOption r ((old ≡ []) × (new ≡ [])) (λ item. old ≡ item ∷ new)
popped [] new None e some = (refl, sym e)
popped (x ∷ xs) new None e some =
    let longer : 0 < length (x ∷ xs) = omega arith in
    let there : false ≡ true = some.1 longer in cc
popped old new (Some item) e some = e
