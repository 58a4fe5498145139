use Rattle.std.proofs.Common.{refl, sym, ◌∙◌}
use Rattle.rep_digest.proofs.Grouping.{unchanged}
use Rattle.rep_digest.proofs.groups.note.Goals as goal

pub returns-in-Session : goal.returns-in-Session
returns-in-Session c = λ W h. h ∙ sym (unchanged W c.args.op.now c.args.clients.now (λ d. rw c.in-Session.is refl))

pub returns-in-Put : goal.returns-in-Put
returns-in-Put c = λ W h. h ∙ sym (unchanged W c.args.op.now c.args.clients.now (λ d. rw c.in-Put.is refl))

pub returns-in-Retain : goal.returns-in-Retain
returns-in-Retain c = λ W h. h ∙ sym (unchanged W c.args.op.now c.args.clients.now (λ d. rw c.in-Retain.is refl))
