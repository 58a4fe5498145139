use Rattle.std.proofs.Common.{◌≡◌, ◌++◌, take, flat_map}
use Rattle.std.specs.Prelude.{string_bytes}
use Rattle.gw_play.specs.Printing.{put_line}
use Rattle.gw_play.proofs.printing.print_puts.Given as goal

-- a line for each so far
abbrev pub invariant-loop-put : goal.invariant-loop-put
invariant-loop-put l = string_bytes l.text ≡ string_bytes l.fn.text ++ flat_map put_line (take l.put-index l.puts)
