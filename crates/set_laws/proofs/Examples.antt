-- Worked rows: three acknowledgements, of which two stand above a gap; a part of a set is below it.
use Rattle.std.proofs.Common.{◌≡◌, ℕ, List, [], ◌∷◌, ◌++◌, refl, true, false}
use Rattle.rep_op.specs.declared.op.Op.{Op}
use Rattle.rep_op.specs.declared.op.Op.TheVariants.{Ack}
use Rattle.rep_model.specs.Keep.{keep}
use Rattle.rep_model.specs.Limits.{acknowledged, above_a_gap}
use Rattle.set_laws.specs.Exceptions.{count_to, is_above_gap, is_told}

abbrev client : List ℕ
client = 104 ∷ 49 ∷ []

-- 1, 3 and 4 of origin 7 are acknowledged, and 5 of another
abbrev told : List Op
told = Ack client 7 3 4 ∷ Ack client 7 1 1 ∷ Ack client 8 5 5 ∷ []

ranges : acknowledged client 7 told ≡ (1, 1) ∷ (3, 4) ∷ []
ranges = refl

by_ranges : above_a_gap (acknowledged client 7 told) ≡ 2
by_ranges = refl

one_by_one : count_to (is_above_gap (is_told client 7 told)) 6 ≡ 2
one_by_one = refl

other_origin : count_to (is_above_gap (is_told client 8 told)) 6 ≡ 1
other_origin = refl

-- where the first of these is not acknowledged, all stand above a gap
without_first : count_to (is_above_gap (is_told client 7 (Ack client 7 3 4 ∷ []))) 6 ≡ 2
without_first = refl

-- where the second is, none does
gapless : count_to (is_above_gap (is_told client 7 (Ack client 7 2 2 ∷ told))) 6 ≡ 0
gapless = refl
