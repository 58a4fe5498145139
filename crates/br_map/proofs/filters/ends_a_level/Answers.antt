use Rattle.std.proofs.Common.{◌≡◌, ℕ, ◌-◌, ◌<◌, List, [], ◌∷◌, length, nat_eq, get_or, refl, sym, subst, arith}
use Rattle.br_map.specs.Apart.{ends_a_level}
use Rattle.br_map.proofs.filters.ends_a_level.Goals as goal

-- the last octet by its place
last_is : (octet : ℕ) (more : List ℕ) → nat_eq (get_or (octet ∷ more) (length more) 0) 47 ≡ ends_a_level (octet ∷ more)
last_is octet [] = refl
last_is octet (next ∷ more) = last_is next more

at_end : (octets : List ℕ) → 0 < length octets → nat_eq (get_or octets (length octets - 1) 0) 47 ≡ ends_a_level octets
at_end [] h = absurd (omega arith)
at_end (octet ∷ more) h =
    let e : length (octet ∷ more) - 1 ≡ length more = omega arith in
    let P : ℕ → Type 0 = λ n. nat_eq (get_or (octet ∷ more) n 0) 47 ≡ ends_a_level (octet ∷ more) in
    subst P (sym e) (last_is octet more)

pub returns-in-len1-up : goal.returns-in-len1-up
returns-in-len1-up c = at_end c.args.octets.now (omega (arith, c.in-len1-up.len_at_least))
