use Rattle.std.proofs.Common.{◌≡◌, ◌++◌, take, flat_map}
use Rattle.std.specs.Prelude.{string_bytes}
use Rattle.gw_play.specs.Printing.{client_text}
use Rattle.gw_play.proofs.printing.print_clients.Given as goal

-- the lines of each so far
abbrev pub invariant-loop-view : goal.invariant-loop-view
invariant-loop-view l = string_bytes l.text ≡ string_bytes l.fn.text ++ flat_map client_text (take l.view-index l.views)
