-- Calls that are made with one sync.
use Rattle.std.specs.Prelude.{◌≡◌, Bool, true, List, All}
use Rattle.gw_answer.specs.declared.step.Step.{Step}

-- all of the calls are of this kind
abbrev pub AllAre : (Step → Bool) → List Step → Type 0
AllAre is steps = All (λ (step : Step). is step ≡ true) steps
