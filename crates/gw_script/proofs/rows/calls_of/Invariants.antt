-- The lines so far spell the calls so far.
use Rattle.std.proofs.Common.{◌≡◌, ◌≤◌, length, take}
use Rattle.gw_script.specs.Rows.{SpellCalls}
use Rattle.gw_script.proofs.Growth.{octets_of}
use Rattle.gw_script.proofs.rows.calls_of.Given as goal

abbrev pub invariant-loop-line : goal.invariant-loop-line
invariant-loop-line l =
    record {
      counted : length l.calls.items ≡ l.line-index;
      few : l.line-index ≤ l.count;
      spelled : SpellCalls l.gateway (take l.line-index (octets_of l.lines)) l.calls.items;
    }
