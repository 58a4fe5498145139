-- the order of numbers and the test of equality
use Rattle.std.proofs.Common.{◌≡◌, ℕ, ◌==◌, ◌<◌, ◌&&◌, Bool, nat_le, true, false, sym, eq-eqb, arith}
use Rattle.std.specs.declared.cmp.Ordering.TheVariants.{Less, Equal, Greater}
use Rattle.std.specs.Ordering.{nat_cmp}
use Rattle.std.proofs.lemmas.Cmp.{ranked}
use Rattle.std.proofs.lemmas.Bool.Decides.{nat_tests}

pub tied : (a b : ℕ) → nat_cmp a b ≡ Equal → (a == b) ≡ true
tied a b h = eq-eqb a b (ranked a b Equal (sym h))

pub lower : (a b : ℕ) → nat_cmp a b ≡ Less → (a == b) ≡ false
lower a b h = let lt = ranked a b Less (sym h) in grind (arith, nat_tests, lt)

pub higher : (a b : ℕ) → nat_cmp a b ≡ Greater → (a == b) ≡ false
higher a b h = let gt = ranked a b Greater (sym h) in grind (arith, nat_tests, gt)

-- where there is room for what is not there, fewer than 256 are
pub room_left : (n : ℕ) (absent : Bool) → (nat_le 256 n && absent) ≡ false → absent ≡ true → n < 256
room_left n absent free new = grind (arith, nat_tests)
