use Rattle.std.proofs.Common.{IsTrue, OnOk, sym, subst}
use Rattle.rep_op.specs.declared.op.Op.{Op}
use Rattle.rep_op.specs.WellMade.{is_well_made}
use Rattle.rep_entry.specs.Entries.{IsFreshStep}
use Rattle.rep_entry.proofs.Owning.{session_op, put_op, ack_op, ack_made, no_own}
use Rattle.rep_entry.proofs.fresh.Fresh.note.Goals as goal

pub note_session-requires : goal.note_session-requires
note_session-requires c = c.requires.fresh

pub note_ack-requires : goal.note_ack-requires
note_ack-requires c = ack_made c.in-Ack.origin c.in-Ack.first c.in-Ack.last (subst (λ (o : Op). IsTrue (is_well_made o)) c.in-Ack.is c.requires.made)

pub returns-in-Session : goal.returns-in-Session
returns-in-Session c =
    λ client fresh own.
    let entry = c.args.entry.now in
    let old = c.args.self.now in
    let new = c.note_session.new.self in
    let is = session_op client _ _ _ _ c.args.op.now c.in-Session.is own.0 in
    subst (λ (o : Op). OnOk c.note_session.result (IsFreshStep client entry old new o)) is
    (c.note_session.ensures client fresh (subst (λ (o : Op). IsTrue (is_well_made o)) (sym is) own.1))

pub returns-in-Put : goal.returns-in-Put
returns-in-Put c =
    λ client fresh own.
    let entry = c.args.entry.now in
    let old = c.args.self.now in
    let new = c.note_put.new.self in
    let is = put_op client _ _ c.args.op.now c.in-Put.is own.0 in
    subst (λ (o : Op). OnOk c.note_put.result (IsFreshStep client entry old new o)) is
    (c.note_put.ensures client fresh (subst (λ (o : Op). IsTrue (is_well_made o)) (sym is) own.1))

pub returns-in-Ack : goal.returns-in-Ack
returns-in-Ack c =
    λ client fresh own.
    let entry = c.args.entry.now in
    let old = c.args.self.now in
    let new = c.note_ack.new.self in
    let is = ack_op client _ _ _ _ c.args.op.now c.in-Ack.is own.0 in
    subst (λ (o : Op). OnOk c.note_ack.result (IsFreshStep client entry old new o)) is
    (c.note_ack.ensures client fresh)

pub returns-in-Retain : goal.returns-in-Retain
returns-in-Retain c = λ client fresh own. no_own client c.in-Retain.topic c.in-Retain.retained c.args.op.now c.in-Retain.is own.0
