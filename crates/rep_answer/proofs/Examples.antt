-- Worked examples of the definitions.
use Rattle.std.proofs.Common.{◌≡◌, ℕ, List, [], ◌∷◌, refl, true, false}
use Rattle.rep_op.specs.declared.op.Op.{Op}
use Rattle.rep_op.specs.declared.op.Op.TheVariants.{Put as OfPut, Ack}
use Rattle.rep_model.specs.Views.{gapless}
use Rattle.rep_digest.specs.Digests.{digest, origin_entries, numbers_from}
use Rattle.rep_answer.specs.Answers.{covers_put, covers_acknowledgement}
use Rattle.rep_answer.specs.inner.Steps.{outside, left_by_digest}
use Rattle.rep_digest.proofs.Examples.{s1}

-- of the messages 1 to 3 of gateway 2, 1 and 2 are acknowledged and 3 waits
abbrev message : ℕ → Op
message seq = OfPut s1 (record { origin = 2; seq = seq; topic = 0x74 ∷ []; qos = 1; retain = false; expires = 0; body = [] })

abbrev some_done : List Op
some_done = message 3 ∷ Ack s1 2 1 2 ∷ []

-- message 3 is covered since it waits, and its acknowledgement is not
put_covered : covers_put (digest some_done) s1 (3, 2) ≡ true
unfolding gapless origin_entries numbers_from
put_covered = refl

ack_not_covered : covers_acknowledgement (digest some_done) s1 (3, 2) ≡ false
unfolding gapless origin_entries numbers_from
ack_not_covered = refl

-- so of the acknowledgements 1 to 4 the last two are left
left : left_by_digest (digest some_done) (Ack s1 2 1 4) ≡ Ack s1 2 3 4 ∷ []
unfolding gapless origin_entries numbers_from
left = refl

-- around 3 to 4 and 6 to 6
around : outside (1, 7) ((3, 4) ∷ (6, 6) ∷ []) ≡ (1, 2) ∷ (5, 5) ∷ (7, 7) ∷ []
around = refl
