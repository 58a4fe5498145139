-- The plan of a step, and what a step reads.
use Rattle.std.specs.Prelude.{◌≡◌, Option, Some, Result, MatchResult}
use Rattle.sn_local.specs.declared.fault.StepFault.{StepFault}
use Rattle.sn_plan.specs.Plans.{IsPlanFault}

-- the value after the call is what the definition says
abbrev pub Becomes : {X Y : Type 0} → Result Y StepFault → X → Option X → Type 0
Becomes result x defined =
    MatchResult result (λ _. defined ≡ Some x) (λ fault. IsPlanFault fault defined)
