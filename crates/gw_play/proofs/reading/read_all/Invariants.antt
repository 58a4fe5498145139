use Rattle.std.proofs.Common.{◌≤◌, ◌+◌}
use Rattle.std.specs.Io.KnownBytes.{Consumes}
use Rattle.gw_play.proofs.reading.read_all.Given as goal

-- no more reads than turns, and the text is what was taken
abbrev pub invariant-loop : goal.invariant-loop
invariant-loop g l =
    record {
      count : g.S.Source.reads l.source ≤ g.S.Source.reads l.fn.source + l.counter;
      taken : Consumes (g.S.Source.remaining l.fn.source) (g.S.Source.remaining l.source) l.text.items;
    }
