use Rattle.std.proofs.Common.{◌≡◌, ◌++◌, take, flat_map}
use Rattle.std.specs.List.{AllByRecursion}
use Rattle.jr_journal.specs.Records.{written}
use Rattle.jr_journal.specs.Readable.{IsReadable}
use Rattle.jr_journal.proofs.compacting.append_base.Given as goal

-- what was there, and a record for each so far
abbrev pub invariant-loop-delta : goal.invariant-loop-delta
invariant-loop-delta l =
    (l.out.items ≡ l.fn.out.items ++ flat_map written (take l.delta-index l.base)) × AllByRecursion IsReadable (take l.delta-index l.base)
