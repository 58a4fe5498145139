use Rattle.std.proofs.Common.{ap, ◌∙◌}
use Rattle.rep_model.specs.Views.{view}
use Rattle.rep_digest.specs.inner.Steps.{group, drafted_entry}
use Rattle.rep_digest.proofs.Worked.{entry_more}
use Rattle.rep_digest.proofs.working.entries_of.Goals as goal

pub loop-i-preserved : goal.loop-i-preserved
loop-i-preserved g c =
    λ W h.
    entry_more (group W) (λ d acks. drafted_entry d (view d (g.R.Replica.kept c.args.replica.now)) acks) c.args.clients.now c.args.groups.now c.loop-i.i c.index-clients-i.result c.index-groups-i.result
    c.loop-i.entries.items c.push.new.self.items c.in_ok-entry_in.field-0 c.loop-i-test.true h c.index-clients-i.is c.index-groups-i.is (c.loop-i.invariant W h)
    (c.in_ok-entry_in.ensures ∙ ap (drafted_entry c.index-clients-i.result (view c.index-clients-i.result (g.R.Replica.kept c.args.replica.now))) c.as_slice.ensures) c.in_ok-push.ensures.items
