-- The gateways of a field, by their settings.
use Rattle.std.specs.Prelude.{List, map}
use Rattle.sn_local.specs.declared.config.Config.{Config}
use Rattle.gw_event.specs.Gateways.{Gateway}
use Rattle.gw_world.specs.Field.{Field}

-- the settings of each gateway of a field, its number among them, in the order of their places
abbrev pub settings : Field → List Config
settings field = map (λ (gateway : Gateway). gateway.config) field.gateways
