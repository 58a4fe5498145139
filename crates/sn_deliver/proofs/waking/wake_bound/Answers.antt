use Rattle.sn_deliver.proofs.waking.wake_bound.Goals as goal

pub returns : goal.returns
returns g c = rw c.in_ok-row.ensures at c.row_with_timer.ensures
