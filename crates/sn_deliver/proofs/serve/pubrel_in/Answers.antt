use Rattle.sn_deliver.proofs.serve.pubrel_in.Goals as goal

pub returns : goal.returns
returns g c = rw c.in_ok-draft.ensures at c.bound_row.ensures
