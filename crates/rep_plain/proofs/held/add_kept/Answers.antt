use Rattle.std.proofs.Common.{◌≡◌, ◌++◌, filter, OnOk, ap, subst, ◌∙◌}
use Rattle.std.specs.List.{filter_map}
use Rattle.rep_plain.specs.inner.Steps.{range_in, must_stay}
use Rattle.rep_plain.proofs.Kept.{kept_of_entry}
use Rattle.rep_plain.proofs.held.add_kept.Goals as goal

pub returns : goal.returns
returns c =
    let entry = c.args.entry.now in
    let client = c.args.client.now in
    let ops = c.as_slice-ops.ensures.value in
    let same = (λ i. filter (must_stay entry.seen.stamp (c.as_slice.ensures.value i)) (ops i)) ∙ kept_of_entry client entry c.in_ok-ranges.ranges.items c.requires (c.in_ok-ranges.ensures ∙ ap (filter_map (range_in client)) ops) in
    subst (λ xs. OnOk c.push_kept.result (c.push_kept.new.kept.items ≡ c.args.kept.now.items ++ xs)) same c.push_kept.ensures
