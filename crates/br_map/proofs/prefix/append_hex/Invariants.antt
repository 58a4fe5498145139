use Rattle.std.proofs.Common.{◌≡◌, ◌++◌, drop}
use Rattle.br_map.specs.Mapping.{hex}
use Rattle.br_map.proofs.prefix.append_hex.Given as goal

-- what is written, and the digits of what is left
abbrev pub invariant-loop-octet : goal.invariant-loop-octet
invariant-loop-octet l = l.out.items ++ hex (drop l.octet-index l.octets) ≡ l.fn.out.items ++ hex l.octets
