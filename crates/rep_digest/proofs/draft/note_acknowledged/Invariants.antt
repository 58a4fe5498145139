use Rattle.std.proofs.Common.{◌≡◌, List, ◌++◌, take}
use Rattle.rep_op.specs.declared.op.Put.{Put}
use Rattle.rep_digest.specs.declared.groups.Acknowledged.{Acknowledged}
use Rattle.rep_digest.specs.inner.Steps.{drafted_origins, AreDrafted}
use Rattle.rep_digest.proofs.draft.note_acknowledged.Given as goal

abbrev pub invariant-loop-range : goal.invariant-loop-range
invariant-loop-range l = AreDrafted l.origins.items × ((A : List Acknowledged) (P : List Put) → l.fn.origins.items ≡ drafted_origins A P → l.origins.items ≡ drafted_origins (A ++ take l.range-index l.acks) P)
