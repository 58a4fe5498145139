use Rattle.std.proofs.Common.{rules}
use Rattle.std.proofs.lemmas.Fn.{filter_same}
use Rattle.sn_local.specs.Seen.{seen_of}
use Rattle.sn_local.specs.Timers.{times_owned}
use Rattle.sn_local.proofs.TimerPlaces.{some_timers}
use Rattle.sn_local.proofs.timers.keep_timers.Goals as goal

pub returns-clause-items : goal.returns-clause-items
returns-clause-items g c =
    filter_same _ (times_owned c.args.gateway (seen_of (g.R.Replica.kept c.args.replica.now))) _ (λ timer kept after called. search rules) _ _ c.retain.ensures.filtered

pub returns-clause-order : goal.returns-clause-order
returns-clause-order g c =
    some_timers (times_owned c.args.gateway (seen_of (g.R.Replica.kept c.args.replica.now))) _ _ (returns-clause-items g c) c.requires
