use Rattle.std.proofs.Common.{◌++◌, List, refl, sym, ap, subst}
use Rattle.std.proofs.lemmas.Result.{err_from_is_err_and}
use Rattle.rep_ops.specs.Making.{AreWellMade}
use Rattle.rep_model.specs.Keep.{IsKeptOf}
use Rattle.rep_model.specs.Taking.{Fits, IsFaultOf}
use Rattle.rep_model.proofs.Beside.{fault_front, fits_both, taken_both}
use Rattle.rep_retain.proofs.Refusing.{made_parts, refused_by_topics, refused_by_room}
use Rattle.rep_retain.specs.Tables.{ops_of}
use Rattle.rep_retain.specs.Staging.{topics_moved}
use Rattle.rep_retain.proofs.Found.{are_of_topics}
use Rattle.rep_op.specs.declared.op.Op.{Op}
use Rattle.rep_retain.specs.Asides.{topics_back}
use Rattle.rep_retain.proofs.whole.WholeReplica.prepare.Goals as goal

pub prepare-requires-clause-made : goal.prepare-requires-clause-made
prepare-requires-clause-made g c = (made_parts c.parts.result.0.now c.parts.result.1.now (subst AreWellMade c.parts.ensures.parts c.parts.ensures.made)).0

pub prepare-requires-2-clause-made : goal.prepare-requires-2-clause-made
prepare-requires-2-clause-made g c = (made_parts c.parts.result.0.now c.parts.result.1.now (subst AreWellMade c.parts.ensures.parts c.parts.ensures.made)).1

pub returns-in_err-check-clause-fault : goal.returns-in_err-check-clause-fault
returns-in_err-check-clause-fault g c =
    let w = c.args.self.now in
    let A = g.C.ClientSet.kept w.clients in
    let T = ops_of w.topics in
    let C = c.parts.result.0.now in
    let R = c.parts.result.1.now in
    let p = err_from_is_err_and c.from_residual.result c.from_residual.ensures.1 in
    rw (p.1, p.2) (subst (λ D. IsFaultOf (A ++ T) D c.in_err-check.field-0.0) (sym c.parts.ensures.parts)
    (refused_by_topics A T C R w.own (are_of_topics w.topics) c.parts.ensures.clients c.parts.ensures.topics c.in_err-check.field-0.0 c.in_err-check.ensures.fault))

pub returns-in_err-clients-clause-fault : goal.returns-in_err-clients-clause-fault
returns-in_err-clients-clause-fault g c =
    let w = c.args.self.now in
    let A = g.C.ClientSet.kept w.clients in
    let T = ops_of w.topics in
    let C = c.parts.result.0.now in
    let R = c.parts.result.1.now in
    let p = err_from_is_err_and c.from_residual-in_err-clients.result c.from_residual-in_err-clients.ensures.1 in
    rw (p.1, p.2) (subst (λ D. IsFaultOf (A ++ T) D c.in_err-clients.field-0.0) (sym c.parts.ensures.parts)
    (fault_front A T C R w.own (are_of_topics w.topics) c.parts.ensures.clients c.parts.ensures.topics c.in_ok-check.ensures.agree c.in_err-clients.field-0.0 c.in_err-clients.ensures.fault))

pub returns-in-Err-clause-fault : goal.returns-in-Err-clause-fault
returns-in-Err-clause-fault g c =
    let w = c.args.self.now in
    let A = g.C.ClientSet.kept w.clients in
    let T = ops_of w.topics in
    let C = c.parts.result.0.now in
    let R = c.parts.result.1.now in
    subst (λ D. IsFaultOf (A ++ T) D c.in-Err.fault) (sym c.parts.ensures.parts)
    (refused_by_room A T C R w.own (are_of_topics w.topics) c.parts.ensures.clients c.parts.ensures.topics c.in_ok-clients.ensures.fits c.in_ok-check.ensures.agree c.in-Err.fault c.in-Err.ensures.fault)

pub returns-in-Ok-clause-fits : goal.returns-in-Ok-clause-fits
returns-in-Ok-clause-fits g c =
    let w = c.args.self.now in
    let A = g.C.ClientSet.kept w.clients in
    let T = ops_of w.topics in
    let C = c.parts.result.0.now in
    let R = c.parts.result.1.now in
    subst (Fits (A ++ T)) (sym c.parts.ensures.parts)
    (fits_both A T C R w.own (are_of_topics w.topics) c.parts.ensures.clients c.parts.ensures.topics c.in_ok-clients.ensures.fits c.in_ok-check.ensures.agree c.in-Ok.ensures.few)

pub returns-in-Ok-clause-taken : goal.returns-in-Ok-clause-taken
returns-in-Ok-clause-taken g c =
    let w = c.args.self.now in
    let A = g.C.ClientSet.kept w.clients in
    let T = ops_of w.topics in
    let C = c.parts.result.0.now in
    let R = c.parts.result.1.now in
    let next = topics_moved w.topics c.in-Ok.topics in
    let B = g.C.ClientSet.after c.prepare.new.self c.in_ok-clients.clients in
    subst (λ D. IsKeptOf ((A ++ T) ++ D) (B ++ ops_of next)) (sym c.parts.ensures.parts)
    (taken_both A T C R w.own (are_of_topics w.topics) c.parts.ensures.clients c.parts.ensures.topics B (ops_of next) c.in_ok-clients.ensures.clients (are_of_topics next) c.in_ok-clients.ensures.taken c.in-Ok.ensures.kept)

pub returns-in-Ok-clause-ready : goal.returns-in-Ok-clause-ready
returns-in-Ok-clause-ready g c = (c.in_ok-clients.ensures.ready, c.in_ok-clients.ensures.clients, c.in-Ok.ensures.ready)

pub returns-in_err-check-clause-aside : goal.returns-in_err-check-clause-aside
returns-in_err-check-clause-aside g c = λ aside h. (h, refl)

pub returns-in_err-clients-clause-aside : goal.returns-in_err-clients-clause-aside
returns-in_err-clients-clause-aside g c = λ aside h.
    let w = c.args.self.now in
    let b = c.in_err-clients.ensures.aside aside.clients h in
    (b.0, ap (λ (S : List Op). S ++ ops_of (topics_back aside.has_topics aside.topics w.topics)) b.1)

pub returns-in-Err-clause-aside : goal.returns-in-Err-clause-aside
returns-in-Err-clause-aside g c = λ aside h.
    let w = c.args.self.now in
    let b = c.in_ok-clients.ensures.aside aside.clients h in
    (b.0, ap (λ (S : List Op). S ++ ops_of (topics_back aside.has_topics aside.topics w.topics)) b.1)

pub returns-in-Ok-clause-aside : goal.returns-in-Ok-clause-aside
returns-in-Ok-clause-aside g c = λ aside h.
    let w = c.args.self.now in
    let b = c.in_ok-clients.ensures.aside aside.clients h in
    (b.0, ap (λ (S : List Op). S ++ ops_of (topics_back aside.has_topics aside.topics w.topics)) b.1)
