-- Why a gateway refuses what it made itself.
use Rattle.std.specs.Prelude.{◌<◌, ◌≤◌, List, length}
use Rattle.std.specs.List.{AllByRecursion}
use Rattle.rep_op.specs.declared.op.Op.{Op}
use Rattle.rep_ops.specs.Making.{IsDeltaOf}
use Rattle.rep_ops.specs.Spelling.{delta_spelling, max_octets}
use Rattle.sn_local.specs.declared.config.Config.{Config}
use Rattle.sn_plan.specs.declared.plan.Plan.{Plan}

-- gateways have numbers from 1 on
abbrev pub AreNumbered : List Config → Type 0
AreNumbered configs = AllByRecursion (λ (config : Config). 1 ≤ config.gateway) configs

-- the delta of the operations has more octets than a delta may have
abbrev pub IsTooLong : Plan → Type 0
IsTooLong plan =
    (delta : List Op) × IsDeltaOf plan.ops delta × (max_octets < length (delta_spelling delta))
