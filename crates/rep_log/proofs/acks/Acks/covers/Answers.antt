use Rattle.std.proofs.Common.{sym, ap, ◌∙◌}
use Rattle.rep_model.specs.Ranges.{in_ranges}
use Rattle.rep_log.proofs.Acknowledged.{covers_at}
use Rattle.rep_log.proofs.acks.Acks.covers.Goals as goal

pub returns : goal.returns
returns c = c.any_within.ensures ∙ ap (in_ranges c.args.seq) c.numbers.ensures.numbers ∙ sym (covers_at (c.args.seq, c.args.origin) c.args.self.now c.numbers.ensures.origins.sorted)
