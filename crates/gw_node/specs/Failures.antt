-- Answers that report a failure of the disk.
use Rattle.std.specs.Prelude.{ℕ, ◌+◌, List, [], ◌∷◌, Result, Err}
use Rattle.gw_answer.specs.declared.out.Out.{Out}
use Rattle.gw_answer.specs.declared.refusal.Refusal.{Refusal}
use Rattle.gw_answer.specs.declared.refusal.Refusal.TheVariants as refusals

-- one, if the answer is that the disk failed
abbrev pub failed : Result Out Refusal → ℕ
failed (Err (refusals.Disk excuse)) = 1
failed answer = 0

-- how many of the answers are so
abbrev pub failed_all : List (Result Out Refusal) → ℕ
failed_all [] = 0
failed_all (answer ∷ answers) = failed answer + failed_all answers
