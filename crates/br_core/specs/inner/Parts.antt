-- the first command, a message that came before, and whether the first reading goes
use Rattle.std.specs.Prelude.{ℕ, Bool, false, if◌then◌else◌, List, [], ◌∷◌, drop, slice_get, Option, Some, None}
use Rattle.br_core.specs.declared.item.Command.{Command}
use Rattle.br_core.specs.declared.item.Flight.{Flight}
use Rattle.br_core.specs.declared.item.Item.{Item}
use Rattle.br_core.specs.declared.settings.Settings.{Settings}
use Rattle.br_core.specs.declared.state.Bridge.{Bridge}
use Rattle.br_core.specs.declared.state.Open.{Open}
use Rattle.br_core.specs.Commands.{put_down}
use Rattle.br_core.specs.Lanes.{is_same}
use Rattle.br_core.specs.Sides.{has_window}

-- the first command, and the bridge without it
abbrev pub first_command : List Command → Option Command
first_command [] = None
first_command (command ∷ more) = Some command

abbrev pub without_first : Bridge → Bridge
without_first bridge = put_down (record bridge.down { queue = drop 1 bridge.down.queue }) bridge

-- the lane's open message, if this is the same again
abbrev pub same_open : Option Open → ℕ → ℕ → List ℕ → Option Open
same_open None name msg_id body = None
same_open (Some held) name msg_id body = if is_same name msg_id body held then Some held else None

-- whether a reading, if there is one, is sent now; and the first of those that wait
abbrev pub goes_if : Option Item → Settings → List Flight → Bool
goes_if None settings flight = false
goes_if (Some item) settings flight = has_window settings item.qos flight

abbrev pub first_goes : Settings → List Item → List Flight → Bool
first_goes settings waiting flight = goes_if (slice_get waiting 0) settings flight
