use Rattle.sn_flow.proofs.connection.disconnect.Goals as goal

pub returns : goal.returns
returns g c = rw (c.in_ok-row.ensures, c.in_ok-draft.ensures) at c.row_with_timer.ensures
