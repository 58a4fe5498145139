use Rattle.rep_retain.proofs.table.put.Goals as goal

pub put_at-requires-clause-place : goal.put_at-requires-clause-place
put_at-requires-clause-place c = rw c.as_slice.ensures.value at c.in-Ok.ensures.1

pub put_new-requires-clause-gap : goal.put_new-requires-clause-gap
put_new-requires-clause-gap c = rw c.as_slice.ensures.value at c.in-Err.ensures.1
