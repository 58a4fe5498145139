use Rattle.std.proofs.Common.{◌≡◌, ◌++◌, take, flat_map}
use Rattle.std.specs.Prelude.{string_bytes}
use Rattle.gw_page.specs.Expositions.{link_text}
use Rattle.gw_page.proofs.exposition.print_links.Given as goal

-- a text for each so far
abbrev pub invariant-loop-link : goal.invariant-loop-link
invariant-loop-link l =
    string_bytes l.text ≡ string_bytes l.fn.text ++ flat_map (link_text l.column) (take l.link-index l.links)
