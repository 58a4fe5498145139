use Rattle.sn_flow.proofs.connection.connect.Goals as goal

pub returns : goal.returns
returns g c = rw (c.in_ok-row.ensures, c.in_ok-request.ensures, c.refusal_of-refusal.ensures, c.has_will.ensures, c.client_at-bound.ensures) at c.row_with_timer.ensures
