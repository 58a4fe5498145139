use Rattle.std.proofs.Common.{◌≡◌, ◌++◌, drop, flat_map}
use Rattle.std.specs.Prelude.{string_bytes}
use Rattle.gw_play.specs.Sessions.{received_line}
use Rattle.gw_play.proofs.session_lines.print_received.Given as goal

-- the text so far and the lines of the ids left are the text of all
abbrev pub invariant-loop-id : goal.invariant-loop-id
invariant-loop-id l =
    string_bytes l.text ++ flat_map received_line (drop l.id-index l.ids) ≡ string_bytes l.fn.text ++ flat_map received_line l.ids
