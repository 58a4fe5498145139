use Rattle.sn_tick.proofs.ticking.plan_retry.Goals as goal

pub returns : goal.returns
returns g c = rw c.in_ok-row.ensures at c.plan_row_at.ensures
