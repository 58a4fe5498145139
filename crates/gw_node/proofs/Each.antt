-- Answers that are replaced one by one.
use Rattle.std.proofs.Common.{◌≡◌, ℕ, zero, suc, ◌<◌, ◌≤◌, List, [], ◌∷◌, ◌++◌, length, map, take, drop, set, Result, Err, refl, ap, arith}
use Rattle.std.proofs.lemmas.List.{take_all, drop_all, append-nil}
use Rattle.gw_answer.specs.declared.out.Out.{Out}
use Rattle.gw_answer.specs.declared.refusal.Refusal.{Refusal}
use Rattle.gw_answer.specs.declared.refusal.Refusal.TheVariants as refusals
use Rattle.gw_node.specs.inner.Rows.{excused}

-- that the node is halted
abbrev pub told_halted : Result Out Refusal
told_halted = Err refusals.Halted

-- one more
pub each_next : {X : Type 0} (v : X) (old : List X) (i : ℕ) → i < length old → set (map (λ (x : X). v) (take i old) ++ drop i old) i v ≡ map (λ (x : X). v) (take (suc i) old) ++ drop (suc i) old
each_next v [] i lt = absurd (omega arith)
each_next v (x ∷ rest) zero lt = refl
each_next v (x ∷ rest) (suc i) lt = ap (λ xs. v ∷ xs) (each_next v rest i (omega arith))

-- after the last
pub each_done : {X : Type 0} (v : X) (old : List X) (i : ℕ) → length old ≤ i → map (λ (x : X). v) (take i old) ++ drop i old ≡ map (λ (x : X). v) old
each_done v old i le = rw (take_all i old le, drop_all i old le) (append-nil (map (λ x. v) old))

-- the first has its excuse
pub first_excused : (excuse : Out) (said : List (Result Out Refusal)) → 0 < length said → set (map (λ (a : Result Out Refusal). Err refusals.Halted) said) 0 (Err (refusals.Disk excuse)) ≡ excused excuse said
first_excused excuse [] some = absurd (omega arith)
first_excused excuse (answer ∷ answers) some = refl

pub some_still : {X Y : Type 0} (f : X → Y) (xs : List X) → 0 < length xs → 0 < length (map f xs)
some_still f [] some = absurd (omega arith)
some_still f (x ∷ xs) some = omega arith
