use Rattle.sn_subscribe.proofs.topic_rows.register.Goals as goal

pub returns : goal.returns
returns g c = rw c.in_ok-draft.ensures at c.bound_row.ensures
