use Rattle.std.proofs.Common.{◌≡◌, take, flat_map}
use Rattle.std.specs.Prelude.{string_bytes}
use Rattle.gw_page.specs.Logs.{event_text}
use Rattle.gw_page.proofs.logging.log.Given as goal

-- a line for each so far
abbrev pub invariant-loop-event : goal.invariant-loop-event
invariant-loop-event l =
    string_bytes l.text ≡ flat_map event_text (take l.event-index l.events)
