use Rattle.std.proofs.Common.{Some, None, true, IsTrue, refl, sym, ap, subst, ◌∙◌}
use Rattle.rep_log.specs.Mail.{put_by_name, Rising}
use Rattle.rep_state.proofs.Contradicting.{agrees_session, agrees_put}
use Rattle.rep_state.proofs.agreeing.agrees_with.Goals as goal

pub returns-in-Some : goal.returns-in-Some
returns-in-Some c = agrees_session c.args.entry.now c.in-Session.client c.in-Session.stamp c.in-Session.counter c.in-Session.change c.args.op.now (Some c.in-Some.kept.now) (IsTrue c.same_change.result) c.in-Session.is c.in-Some.ensures c.same_change.ensures

pub returns-in-None : goal.returns-in-None
returns-in-None c = agrees_session c.args.entry.now c.in-Session.client c.in-Session.stamp c.in-Session.counter c.in-Session.change c.args.op.now None (IsTrue true) c.in-Session.is c.in-None.ensures (λ _. tt, λ _. refl)

pub returns-in-Some-find_put : goal.returns-in-Some-find_put
returns-in-Some-find_put c =
    let p = c.in-Put.put in
    let found = c.in-Some-find_put.ensures (subst Rising (sym c.as_slice.ensures) c.requires.rising) ∙ ap (put_by_name (p.seq, p.origin)) c.as_slice.ensures in
    agrees_put c.args.entry.now c.in-Put.client p c.args.op.now (Some c.in-Some-find_put.kept.now) (IsTrue c.same_put.result) c.in-Put.is found c.same_put.ensures

pub returns-in-None-find_put : goal.returns-in-None-find_put
returns-in-None-find_put c =
    let p = c.in-Put.put in
    let found = c.in-None-find_put.ensures (subst Rising (sym c.as_slice.ensures) c.requires.rising) ∙ ap (put_by_name (p.seq, p.origin)) c.as_slice.ensures in
    agrees_put c.args.entry.now c.in-Put.client p c.args.op.now None (IsTrue true) c.in-Put.is found (λ _. tt, λ _. refl)
