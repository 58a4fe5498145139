use Rattle.sn_tick.proofs.ticking.plan_due.Goals as goal

pub returns-in_ok-row-in-Delivery : goal.returns-in_ok-row-in-Delivery
returns-in_ok-row-in-Delivery g c = rw c.in-Delivery.is (rw c.in_ok-row-in-Delivery.ensures at c.plan_row_at.ensures)
