use Rattle.std.proofs.Common.{refl, arith}
use Rattle.sn_local.specs.Seen.{seen_of}
use Rattle.sn_tick.proofs.Idle.{idle_before}
use Rattle.gw_node.proofs.Resting.{remembered}
use Rattle.gw_node.proofs.handling.is_idle_at.Goals as goal

pub returns-then-now-until-clause-idle : goal.returns-then-now-until-clause-idle
returns-then-now-until-clause-idle g c = λ _.
    let node = c.args.node.now in
    remembered node.idle c.in-Some.until c.args.now node.config (g.R.Replica.kept node.replica) node.dialogs.local c.in-Some.is c.if-now-until.true node.is_idle_until

pub returns-clause-idle : goal.returns-clause-idle
returns-clause-idle g c = λ _.
    let node = c.args.node.now in
    idle_before c.args.now c.saturating_add-ahead.result (omega arith) node.config.gateway node.config.advertise node.config.field (seen_of (g.R.Replica.kept node.replica)) node.dialogs.local (c.if-not-is_idle.ensures refl)
