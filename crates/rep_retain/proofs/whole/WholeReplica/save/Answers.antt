use Rattle.std.proofs.Common.{◌++◌, List, ap}
use Rattle.rep_op.specs.declared.op.Op.{Op}
use Rattle.rep_retain.specs.Tables.{ops_of}
use Rattle.rep_retain.specs.Asides.{topics_back}
use Rattle.rep_retain.proofs.whole.WholeReplica.save.Goals as goal

pub returns-in_err-save-clause-back : goal.returns-in_err-save-clause-back
returns-in_err-save-clause-back g c =
    let w = c.args.self.now in
    let aside = c.args.aside.now in
    ap (λ (S : List Op). S ++ ops_of (topics_back aside.has_topics aside.topics w.topics)) c.in_err-save.ensures.back

pub returns-in_err-save_topics-clause-back : goal.returns-in_err-save_topics-clause-back
returns-in_err-save_topics-clause-back g c =
    let topics = ap ops_of c.in_err-save_topics.ensures.back in
    λ i. c.in_ok-save.ensures.back i ++ topics i

pub returns-clause-back : goal.returns-clause-back
returns-clause-back g c =
    let topics = ap ops_of c.in_ok-save_topics.ensures.back in
    λ i. c.in_ok-save.ensures.back i ++ topics i

pub returns-clause-saved : goal.returns-clause-saved
returns-clause-saved g c = (c.in_ok-save.ensures.saved, c.in_ok-save_topics.ensures.saved)
