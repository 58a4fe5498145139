-- The script is what the lines up to a place make up, and the place moves on.
use Rattle.std.proofs.Common.{◌-◌, ◌≤◌, take}
use Rattle.std.specs.Prelude.{vec_len}
use Rattle.gw_script.specs.Scripts.{IsScriptOf}
use Rattle.gw_script.proofs.Growth.{octets_of}
use Rattle.gw_script.proofs.script.parse.Given as goal

abbrev pub invariant-reading : goal.invariant-reading
invariant-reading l =
    record {
      within : l.at ≤ vec_len l.lines;
      said : IsScriptOf (take l.at (octets_of l.lines.items)) l.script;
    }

abbrev pub decreases-reading : goal.decreases-reading
decreases-reading l = vec_len l.lines - l.at
