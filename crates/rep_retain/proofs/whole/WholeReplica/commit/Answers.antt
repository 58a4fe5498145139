use Rattle.std.proofs.Common.{◌++◌, ap, ◌∙◌}
use Rattle.rep_retain.specs.Tables.{ops_of}
use Rattle.rep_retain.specs.Asides.{topics_back}
use Rattle.rep_retain.proofs.Topical.{topics_still}
use Rattle.rep_retain.proofs.whole.WholeReplica.commit.Goals as goal

-- what lies aside of both is put back as before
pub returns-clause-aside : goal.returns-clause-aside
returns-clause-aside g c = λ aside saved h.
    let w = c.args.self.now in
    let b = c.commit.ensures.aside aside.clients saved.0 h in
    let topics = ap (λ now. ops_of (topics_back aside.has_topics aside.topics now)) c.commit-2.ensures
    ∙ ap ops_of (topics_still aside.has_topics aside.topics w.topics c.args.staged.topics saved.1) in
    (b.0, λ i. b.1 i ++ topics i)
