use Rattle.std.proofs.Common.{◌≡◌, ◌+◌, ◌++◌, drop, length}
use Rattle.std.specs.Prelude.{string_bytes}
use Rattle.gw_play.specs.Printing.{delta_lines}
use Rattle.gw_play.proofs.printing.print_deltas.Given as goal

-- the lines so far and those of the deltas left are the lines of all
abbrev pub invariant-loop-delta : goal.invariant-loop-delta
invariant-loop-delta l =
    record {
      told : string_bytes l.text ++ delta_lines l.after (drop l._delta-index l.deltas) ≡ string_bytes l.fn.text ++ delta_lines l.fn.before l.deltas;
      counted : l.after + length (drop l._delta-index l.deltas) ≡ l.fn.before + length l.deltas;
    }
