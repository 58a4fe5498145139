use Rattle.std.proofs.Common.{◌≡◌, List, ◌++◌, take}
use Rattle.rep_op.specs.declared.op.Put.{Put}
use Rattle.rep_digest.specs.declared.groups.Acknowledged.{Acknowledged}
use Rattle.rep_digest.specs.inner.Steps.{drafted_origins, AreDrafted}
use Rattle.rep_digest.proofs.draft.note_waiting.Given as goal

abbrev pub invariant-loop-put : goal.invariant-loop-put
invariant-loop-put l = AreDrafted l.origins.items × ((A : List Acknowledged) (P : List Put) → l.fn.origins.items ≡ drafted_origins A P → l.origins.items ≡ drafted_origins A (P ++ take l.put-index l.pending))
