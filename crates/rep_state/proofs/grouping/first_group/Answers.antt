use Rattle.std.proofs.Common.{◌++◌, ◌∷◌, [], List, subst}
use Rattle.rep_op.specs.declared.op.Op.{Op}
use Rattle.rep_op.specs.Orders.{client_of}
use Rattle.rep_op.specs.Sets.{Same}
use Rattle.rep_model.specs.Keep.{keep}
use Rattle.rep_entry.specs.Entries.{fresh_row}
use Rattle.rep_state.proofs.Working.{names_client}
use Rattle.rep_state.proofs.grouping.first_group.Goals as goal

pub note-requires-clause-fresh : goal.note-requires-clause-fresh
note-requires-clause-fresh c = (client_of c.args.op.now, c.new-fresh.ensures.fresh (client_of c.args.op.now) c.args.entry.now c.requires.entry)

pub returns-in-Ok-clause-fresh : goal.returns-in-Ok-clause-fresh
returns-in-Ok-clause-fresh c =
    let op = c.args.op.now in
    let entry = c.args.entry.now in
    let client = client_of op in
    let step = c.in-Ok.ensures client (c.new-fresh.ensures.fresh client entry c.requires.entry) (names_client op c.requires.client c.requires.made) in
    (step.0, subst (λ (ops : List Op). Same (fresh_row client entry c.note.new.self) (keep (ops ++ op ∷ []))) (c.new-fresh.ensures.row client entry c.requires.entry) step.1)
