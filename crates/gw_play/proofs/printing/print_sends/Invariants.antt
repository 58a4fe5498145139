use Rattle.std.proofs.Common.{◌≡◌, ◌++◌, take, flat_map}
use Rattle.std.specs.Prelude.{string_bytes}
use Rattle.gw_play.specs.Printing.{send_line}
use Rattle.gw_play.proofs.printing.print_sends.Given as goal

-- a line for each so far
abbrev pub invariant-loop-send : goal.invariant-loop-send
invariant-loop-send l = string_bytes l.text ≡ string_bytes l.fn.text ++ flat_map send_line (take l.send-index l.sends)
