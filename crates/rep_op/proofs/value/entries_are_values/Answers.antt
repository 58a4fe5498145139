use Rattle.std.proofs.Common.{All, subst}
use Rattle.std.proofs.lemmas.List.Elements.{recursion_from_All, All-more}
use Rattle.std.proofs.lemmas.List.{take_all}
use Rattle.rep_op.specs.Values.{IsEntryValue}
use Rattle.rep_op.proofs.value.entries_are_values.Goals as goal

pub returns : goal.returns
returns c = recursion_from_All IsEntryValue c.args.entries.now (subst (All IsEntryValue) (take_all c.loop-entry.entry-index c.args.entries.now c.loop-entry-test.false) c.loop-entry.invariant)

pub loop-entry-preserved : goal.loop-entry-preserved
loop-entry-preserved c =
    All-more IsEntryValue c.args.entries.now c.loop-entry.entry-index c.entry-item.result c.loop-entry-test.true c.loop-entry.invariant (subst IsEntryValue c.entry-item.is c.entry_is_value.ensures)
