-- lists
use Rattle.std.proofs.Common.{◌≡◌, List, [], ◌∷◌, ◌++◌, refl, ap, subst}
use Rattle.std.specs.List.{AllByRecursion}

pub one-more : {X : Type 0} (xs : List X) (x : X) (ys : List X) → (xs ++ x ∷ []) ++ ys ≡ xs ++ x ∷ ys
one-more [] x ys = refl
one-more (z ∷ zs) x ys = ap (λ more. z ∷ more) (one-more zs x ys)

pub regroup : {X : Type 0} (xs ys zs : List X) → (xs ++ ys) ++ zs ≡ xs ++ (ys ++ zs)
regroup [] ys zs = refl
regroup (x ∷ xs) ys zs = ap (λ more. x ∷ more) (regroup xs ys zs)

pub no-more : {X : Type 0} (xs : List X) → xs ++ [] ≡ xs
no-more [] = refl
no-more (x ∷ xs) = ap (λ more. x ∷ more) (no-more xs)

-- what came at a place of a run came at that place of a longer one
pub later-on : {X : Type 0} (run earlier : List X) (x : X) (later more : List X) → run ≡ earlier ++ x ∷ later → run ++ more ≡ earlier ++ x ∷ (later ++ more)
later-on run earlier x later more e =
    subst (λ r. run ++ more ≡ r) (regroup earlier (x ∷ later) more) (ap (λ r. r ++ more) e)

pub all-push : {X : Type 0} (P : X → Type 0) (xs : List X) (x : X) → AllByRecursion P xs → P x → AllByRecursion P (xs ++ x ∷ [])
all-push P [] x h p = (p, tt)
all-push P (y ∷ ys) x h p = (h.0, all-push P ys x h.1 p)

pub all-map : {X : Type 0} (P Q : X → Type 0) (xs : List X) → ((x : X) → P x → Q x) → AllByRecursion P xs → AllByRecursion Q xs
all-map P Q [] f h = tt
all-map P Q (x ∷ xs) f h = (f x h.0, all-map P Q xs f h.1)
