use Rattle.sn_deliver.proofs.serve.ack_in.Goals as goal

pub returns : goal.returns
returns c = rw c.in_ok-draft.ensures at c.bound_row.ensures
