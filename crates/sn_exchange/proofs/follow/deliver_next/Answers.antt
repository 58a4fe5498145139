use Rattle.sn_exchange.proofs.follow.deliver_next.Goals as goal

pub returns : goal.returns
returns g c = rw c.in_ok-row.ensures at c.plan_of_row.ensures
