-- There is a digest, or it is too long, or memory ran out.
use Rattle.std.proofs.Common.{sym, subst, Err}
use Rattle.gw_answer.specs.declared.refusal.Refusal.{Refusal}
use Rattle.gw_node.specs.Calls.{DigestCall}
use Rattle.gw_node.specs.Parts.{state_of}
use Rattle.gw_world.specs.inner.Events.{AskKept}
use Rattle.gw_world.proofs.field.ask.Goals as goal

pub returns-in_ok-too_long-in-Err : goal.returns-in_ok-too_long-in-Err
returns-in_ok-too_long-in-Err g c =
    let asker = state_of g.R.Replica.kept c.args.asker.now in
    let peer = state_of g.R.Replica.kept c.args.peer.now in
    let full = c.in_ok-too_long-in-Err.ensures in
    subst (λ (r : Refusal). AskKept asker.kept peer.kept (Err r)) (sym full.1)
    (subst (λ (r : Refusal). DigestCall asker (Err r) asker) full.0 c.in-Err.ensures.call).0
