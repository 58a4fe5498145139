-- Which version operations need, and which can say them.
use Rattle.std.proofs.Common.{◌≡◌, Bool, true, false, cond, not, List, [], ◌∷◌, refl, sym, subst, inl, inr}
use Rattle.std.specs.Prelude.{◌||◌}
use Rattle.std.specs.List.{list_any, AllByRecursion}
use Rattle.std.proofs.lemmas.Bool.{cases_Bool, not-true, not_from_false}
use Rattle.rep_op.specs.declared.op.Op.{Op}
use Rattle.rep_op.specs.declared.version.Version.{Version}
use Rattle.rep_op.specs.declared.version.Version.TheVariants.{One, Two}
use Rattle.rep_op.specs.Versions.{needs_two}
use Rattle.rep_read.proofs.Operations.{can_say}
use Rattle.rep_ops.specs.Spelling.{version_of}

pub is_two : (ops : List Op) → list_any needs_two ops ≡ true → version_of ops ≡ Two
is_two ops e = rw e refl

pub is_one : (ops : List Op) → list_any needs_two ops ≡ false → version_of ops ≡ One
is_one ops e = rw e refl

chosen_two : (b : Bool) → cond b Two One ≡ Two → b ≡ true
chosen_two true e = refl
chosen_two false e = absurd cc

pub two_needed : (ops : List Op) → version_of ops ≡ Two → list_any needs_two ops ≡ true
two_needed ops e = chosen_two (list_any needs_two ops) e

neither : (a b : Bool) → (a || b) ≡ false → (a ≡ false) × (b ≡ false)
neither true b e = absurd cc
neither false b e = (refl, e)

none_of_either : (a b : Bool) → a ≡ false → b ≡ false → (a || b) ≡ false
none_of_either a b e f = rw (e, f) refl

one_says : (ops : List Op) → list_any needs_two ops ≡ false → AllByRecursion (λ op. can_say One op ≡ true) ops
one_says [] e = tt
one_says (op ∷ rest) e = let h = neither (needs_two op) (list_any needs_two rest) e in (not_from_false (needs_two op) h.0, one_says rest h.1)

two_says : (ops : List Op) → AllByRecursion (λ op. can_say Two op ≡ true) ops
two_says [] = tt
two_says (op ∷ rest) = (refl, two_says rest)

-- the version of operations can say them
pub version_says : (ops : List Op) → AllByRecursion (λ op. can_say (version_of ops) op ≡ true) ops
version_says ops =
    elim (cases_Bool (list_any needs_two ops)) [
      | inl two ↦ subst (λ (v : Version). AllByRecursion (λ op. can_say v op ≡ true) ops) (sym (is_two ops two)) (two_says ops)
      | inr none ↦ subst (λ (v : Version). AllByRecursion (λ op. can_say v op ≡ true) ops) (sym (is_one ops none)) (one_says ops none)
    ]

none_needs : (ops : List Op) → AllByRecursion (λ op. can_say One op ≡ true) ops → list_any needs_two ops ≡ false
none_needs [] h = refl
none_needs (op ∷ rest) h = none_of_either (needs_two op) (list_any needs_two rest) (not-true (needs_two op) h.0) (none_needs rest h.1)

-- what version 1 can say needs no other
pub said_by_one : (ops : List Op) → AllByRecursion (λ op. can_say One op ≡ true) ops → version_of ops ≡ One
said_by_one ops h = is_one ops (none_needs ops h)
