-- What a thread adds to its pass.
use Rattle.std.specs.Prelude.{◌≡◌, Bool, true, false, List, All}
use Rattle.gw_answer.specs.declared.step.Step.{Step}
use Rattle.gw_answer.specs.declared.step.Step.TheVariants as steps
use Rattle.gw_shift.specs.Calls.{Held, Holder}
use Rattle.gw_shift.specs.Passes.{with_calls}

-- the pass holds what it held and then such calls, and nothing else
abbrev pub AddsEach : (Held → Type 0) → Holder → Holder → Type 0
AddsEach IsSuch before after =
    (more : List Held) × (after ≡ with_calls before more) × All IsSuch more

-- the pass holds what it held and then calls of this kind, and nothing else
abbrev pub Adds : (Step → Bool) → Holder → Holder → Type 0
Adds is before after = AddsEach (λ (held : Held). is held.step ≡ true) before after

-- another gateway's: a delta is taken, a digest is given or answered
abbrev pub is_of_link : Step → Bool
is_of_link (steps.Take delta) = true
is_of_link steps.Digest = true
is_of_link (steps.Answer digest) = true
is_of_link step = false
