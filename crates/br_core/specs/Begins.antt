-- A bridge before anything has come, and what is counted from a moment.
use Rattle.std.specs.Prelude.{ℕ, ◌+◌, false, [], map, None}
use Rattle.br_core.specs.declared.settings.Settings.{Settings}
use Rattle.br_core.specs.declared.state.Bridge.{Bridge}
use Rattle.br_core.specs.declared.state.Doing.TheVariants as doings
use Rattle.br_core.specs.declared.state.Down.{Down}
use Rattle.br_core.specs.declared.state.Lane.{Lane}
use Rattle.br_core.specs.declared.state.Moment.{Moment}
use Rattle.br_core.specs.declared.state.Phase.TheVariants as phases
use Rattle.br_core.specs.declared.state.Side.TheVariants as sides
use Rattle.br_core.specs.declared.state.TheConstants.{PING, RETRY}

-- a moment in seconds, and those that are counted from it
abbrev pub moment_of : ℕ → Moment
moment_of now =
    record {
      at = now;
      soon = now + 1;
      retry = now + RETRY;
      ping = now + PING;
      minute = now + 60;
    }

-- a lane and a lane for commands before anything has come
abbrev pub new_lane : Lane
new_lane =
    record {
      phase = phases.Asleep;
      tries = 0;
      due = 0;
      msg_id = 1;
      ids = [];
      last = None;
    }

abbrev pub new_down : Down
new_down =
    record {
      phase = phases.Away;
      tries = 0;
      due = 0;
      msg_id = 1;
      ids = [];
      doing = doings.Nothing;
      line = 0;
      queue = [];
      is_behind = false;
    }

-- a bridge that begins: lanes sleep until the broker is there
abbrev pub begun : Settings → Bridge
begun settings =
    record {
      lanes = map (λ own. new_lane) settings.lanes;
      down = new_down;
      side = sides.Closed;
      due = 0;
      tries = 0;
      is_subscribed = false;
      is_storing = false;
      waiting = [];
      flight = [];
      number = 0;
      packet_id = 1;
      out = [];
    }
