-- A list that is read item by item.
use Rattle.std.proofs.Common.{◌≡◌, ℕ, List, [], ◌∷◌, ◌++◌, Option, Some, None, refl, ap, sym, ◌∙◌, append_assoc, append-nil}
use Rattle.std.specs.Prelude.{option_map, option_and_then}
use Rattle.toml.specs.Data.{Data, Items, item, no_items}
use Rattle.gw_main.specs.Reading.{each}

-- so many were read, and this is what is read of the rest
abbrev pub behind : {A : Type 0} → List A → Option (List A) → Option (List A)
behind done rest = option_map (λ more. done ++ more) rest

joined : {A : Type 0} (done : List A) (one : A) (rest : Option (List A)) → behind done (option_map (λ more. one ∷ more) rest) ≡ behind (done ++ one ∷ []) rest
joined done one None = refl
joined {A} done one (Some more) = ap (λ (l : List A). Some l) (sym (append_assoc done (one ∷ []) more))

-- one more was read
pub goes_on : {A : Type 0} (read : Data → Option A) (whole : Option (List A)) (done : List A) (first : Data) (rest : Items) (one : A) → whole ≡ behind done (each read (item first rest)) → read first ≡ Some one → whole ≡ behind (done ++ one ∷ []) (each read rest)
goes_on {A} read whole done first rest one was is =
    was ∙ ap (λ (r : Option A). behind done (option_and_then (λ x. option_map (λ more. x ∷ more) (each read rest)) r)) is ∙ joined done one (each read rest)

-- one was not
pub stops : {A : Type 0} (read : Data → Option A) (whole : Option (List A)) (done : List A) (first : Data) (rest : Items) → whole ≡ behind done (each read (item first rest)) → read first ≡ None → whole ≡ None
stops {A} read whole done first rest was is =
    was ∙ ap (λ (r : Option A). behind done (option_and_then (λ x. option_map (λ more. x ∷ more) (each read rest)) r)) is

-- nothing was read yet
pub begins : {A : Type 0} (rest : Option (List A)) → rest ≡ behind [] rest
begins None = refl
begins (Some more) = refl

-- nothing is left
pub ends : {A : Type 0} (whole : Option (List A)) (done : List A) → whole ≡ behind done (Some []) → whole ≡ Some done
ends {A} whole done was = was ∙ ap (λ (l : List A). Some l) (append-nil done)
