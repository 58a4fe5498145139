use Rattle.std.proofs.Common.{rules}
use Rattle.std.proofs.lemmas.Fn.{filter_same}
use Rattle.rep_log.specs.Mail.{is_uncovered}
use Rattle.rep_log.specs.Origins.{ranges_in}
use Rattle.rep_entry.proofs.settling.drop_any.Goals as goal

pub returns : goal.returns
returns c = filter_same _ (is_uncovered (ranges_in c.args.acks.now)) _ (λ put kept after called. search rules) _ _ c.retain.ensures.filtered
