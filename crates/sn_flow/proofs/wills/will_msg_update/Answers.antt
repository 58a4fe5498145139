use Rattle.sn_flow.proofs.wills.will_msg_update.Goals as goal

pub returns : goal.returns
returns g c = rw c.in_ok-draft.ensures at c.bound_row.ensures
