use Rattle.std.proofs.Common.{sym, ◌∙◌}
use Rattle.std.specs.Option.{option_copied}
use Rattle.sn_tick.proofs.Resting.{at_rest, none_there}
use Rattle.sn_tick.proofs.due.is_at_rest.Goals as goal

pub returns : goal.returns
returns c =
    λ is. at_rest c.args.now c.args.pending.now (option_copied c.args.timer) (record { host = 0; port = 0 }) c.args.session.now
    (sym c.due_session.ensures ∙ none_there c.due_session.result c.is_none.result c.is_none.ensures is)
