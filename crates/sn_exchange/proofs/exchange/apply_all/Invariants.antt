use Rattle.std.proofs.Common.{◌≡◌, drop, fold}
use Rattle.sn_session.specs.Session.{applied}
use Rattle.sn_exchange.proofs.exchange.apply_all.Given as goal

abbrev pub invariant-loop-change : goal.invariant-loop-change
invariant-loop-change l = fold applied l.session (drop l.change-index l.changes) ≡ fold applied l.fn.session l.changes
