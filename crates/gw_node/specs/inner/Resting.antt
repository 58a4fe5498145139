-- What a node remembers of ticks.
use Rattle.std.specs.Prelude.{ℕ, Bool, true, List, Option, Some, None}
use Rattle.rep_op.specs.declared.op.Op.{Op}
use Rattle.sn_local.specs.declared.config.Config.{Config}
use Rattle.sn_local.specs.Seen.{seen_of}
use Rattle.sn_local.specs.Locals.{Local}
use Rattle.sn_tick.specs.Rest.{is_idle}

-- if a moment is remembered, a tick of that moment has nothing to do
abbrev pub rests : Option ℕ → Config → List Op → Local → Bool
rests None config kept local = true
rests (Some until) config kept local =
    is_idle config.gateway config.advertise config.field (seen_of kept) local until
