use Rattle.std.proofs.Common.{◌≡◌, ◌++◌, take, flat_map}
use Rattle.std.specs.Prelude.{string_bytes}
use Rattle.gw_page.specs.Expositions.{column_text}
use Rattle.gw_page.proofs.exposition.print_columns.Given as goal

-- a text for each so far
abbrev pub invariant-loop-column : goal.invariant-loop-column
invariant-loop-column l =
    string_bytes l.text ≡ string_bytes l.fn.text ++ flat_map (column_text l.links) (take l.column-index l.columns)
