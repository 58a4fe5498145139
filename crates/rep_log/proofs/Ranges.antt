-- The acknowledged ranges of a client, one after the other.
use Rattle.std.proofs.Common.{◌≡◌, ℕ, ◌+◌, not, ◌==◌, ◌||◌, List, [], ◌∷◌, ◌++◌, map, length, refl, ap, Vec, Global}
use Rattle.std.specs.List.{list_any}
use Rattle.rep_op.specs.declared.op.Op.TheVariants.{Ack}
use Rattle.rep_log.specs.Mail.{Range}
use Rattle.rep_log.specs.Origins.{origins_of}
use Rattle.rep_log.specs.Kept.{of_acks}

pub acks_both : (c : List ℕ) (xs ys : List Range) → of_acks c (xs ++ ys) ≡ of_acks c xs ++ of_acks c ys
acks_both c [] ys = refl
acks_both c (x ∷ xs) ys = ap (λ rest. Ack c x.0 x.1.0 x.1.1 ∷ rest) (acks_both c xs ys)

pub any_ranges : (es : List (ℕ × Vec (ℕ × ℕ) Global)) → list_any (λ (v : Vec (ℕ × ℕ) Global). not (length v.items == 0)) (map (λ e. e.1) es) ≡ list_any (λ (o : ℕ × List (ℕ × ℕ)). not (length o.1 == 0)) (origins_of es)
any_ranges [] = refl
any_ranges (e ∷ es) = ap (λ b. not (length e.1.items == 0) || b) (any_ranges es)
