use Rattle.sn_subscribe.proofs.topic_rows.subscribe.Goals as goal

pub returns : goal.returns
returns g c = rw (c.in_ok-draft.ensures, c.len-waiting.ensures) at c.bound_row.ensures
