use Rattle.std.proofs.Common.{sym, ◌∙◌, arith}
use Rattle.rep_model.specs.Views.{clients}
use Rattle.sn_local.specs.Seen.{seen_of}
use Rattle.gw_glance.proofs.Showing.{goes_on}
use Rattle.gw_glance.proofs.glancing.glance.Goals as goal

pub loop-behind-preserved-in_ok-reserve : goal.loop-behind-preserved-in_ok-reserve
loop-behind-preserved-in_ok-reserve g c =
    goes_on _ (seen_of (g.R.Replica.kept c.args.replica.now)) c.args.dialogs.now.local _ _ _ _ _ _ _ _ _ _ _ (omega (arith, c.if-room-eq0.false)) (sym c.is_above.ensures ∙ c.if-is_above.true) c.in-Some.ensures.2 c.in_ok-glimpse.ensures c.in-Some.ensures.0 c.push_reserved.ensures.items c.reserve.ensures.items c.loop-behind.invariant
