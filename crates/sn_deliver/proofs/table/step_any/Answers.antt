use Rattle.sn_deliver.proofs.table.step_any.Goals as goal

pub returns : goal.returns
returns g c = rw (c.lasting_row-lasting.ensures, c.expires_at-moment.ensures, c.in_ok-row.ensures) at c.deliver_next.ensures
