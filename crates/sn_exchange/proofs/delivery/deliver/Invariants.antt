-- What is left leads where all leads.
use Rattle.std.proofs.Common.{◌≡◌, drop}
use Rattle.sn_exchange.specs.Exchanges.{left}
use Rattle.sn_exchange.specs.Delivery.{deliver}
use Rattle.sn_exchange.proofs.delivery.deliver.Given as goal

abbrev pub invariant-loop-put : goal.invariant-loop-put
invariant-loop-put l =
    deliver l.visit.predefined.now l.visit.peer.now l.visit.session.now (left l.acks (drop l.put-index l.pending)) l.draft
    ≡ deliver l.visit.predefined.now l.visit.peer.now l.visit.session.now (left l.acks l.pending) l.fn.draft
