use Rattle.std.proofs.Common.{◌≡◌, ◌++◌, List, ap, ◌∙◌, flat_map}
use Rattle.gw_report.specs.declared.label.TheConstants.{KINDS as all_kinds, ANSWERS as all_answers}
use Rattle.gw_report.specs.declared.numbers.Sample.{Sample}
use Rattle.gw_shift.specs.Tallies.{samples_of_kind}
use Rattle.gw_shift.proofs.tallying.tally.Goals as goal

-- the samples of all kinds, after none
pub returns : goal.returns
returns c =
    c.new.ensures ∙ c.in_ok-push_kinds.ensures
    ∙ ap (λ (xs : List Sample). xs ++ flat_map (samples_of_kind c.args.history.now all_answers) all_kinds) c.new-samples.ensures.items
