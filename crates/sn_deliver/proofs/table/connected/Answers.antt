use Rattle.sn_deliver.proofs.table.connected.Goals as goal

pub returns : goal.returns
returns g c = rw c.in_ok-client.ensures at c.connect.ensures
