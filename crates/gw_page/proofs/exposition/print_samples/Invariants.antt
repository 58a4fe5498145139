use Rattle.std.proofs.Common.{◌≡◌, ◌++◌, take, flat_map}
use Rattle.std.specs.Prelude.{string_bytes}
use Rattle.gw_page.specs.Expositions.{sample_text}
use Rattle.gw_page.proofs.exposition.print_samples.Given as goal

-- a text for each so far
abbrev pub invariant-loop-sample : goal.invariant-loop-sample
invariant-loop-sample l =
    string_bytes l.text ≡ string_bytes l.fn.text ++ flat_map (sample_text l.count) (take l.sample-index l.samples)
