use Rattle.sn_deliver.proofs.waking.wake.Goals as goal

pub returns : goal.returns
returns g c = rw (c.in_ok-row.ensures, c.in_ok-client.ensures, c.client_at.ensures) at c.row_with_timer.ensures
