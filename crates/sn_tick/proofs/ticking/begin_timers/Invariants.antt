use Rattle.std.proofs.Common.{◌≡◌, length, drop}
use Rattle.rep_model.specs.Views.{clients}
use Rattle.sn_local.specs.Seen.{seen_of}
use Rattle.sn_tick.specs.Ticking.{timers_begun}
use Rattle.sn_tick.proofs.ticking.begin_timers.Given as goal

abbrev pub invariant-loop-behind : goal.invariant-loop-behind
invariant-loop-behind g l =
    let S = g.R.Replica.kept l.turn.replica.now in
    timers_begun l.turn.config.now.gateway (seen_of S) l.turn.dialogs.now.local.timers l.turn.moment (drop l.place (clients S)) l.draft
    ≡ timers_begun l.turn.config.now.gateway (seen_of S) l.turn.dialogs.now.local.timers l.turn.moment (clients S) l.fn.draft

abbrev pub decreases-loop-behind : goal.decreases-loop-behind
decreases-loop-behind g l = length (drop l.place (clients (g.R.Replica.kept l.turn.replica.now)))
