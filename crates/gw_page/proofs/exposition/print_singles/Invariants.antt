use Rattle.std.proofs.Common.{◌≡◌, ◌++◌, take, flat_map}
use Rattle.std.specs.Prelude.{string_bytes}
use Rattle.gw_page.specs.Expositions.{single_text}
use Rattle.gw_page.proofs.exposition.print_singles.Given as goal

-- a text for each so far
abbrev pub invariant-loop-single : goal.invariant-loop-single
invariant-loop-single l =
    string_bytes l.text ≡ string_bytes l.fn.text ++ flat_map (single_text l.all) (take l.single-index l.singles)
