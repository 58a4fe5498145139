use Rattle.std.proofs.Common.{take}
use Rattle.std.specs.List.{flat_map}
use Rattle.std.proofs.lemmas.Result.{err_from_is_err_and}
use Rattle.rep_write.proofs.Writing.{keeps_through}
use Rattle.rep_digest.specs.Spelling.{entry_octets}
use Rattle.rep_digest.proofs.write.write_entries.Goals as goal

pub returns-in_err-write_entry : goal.returns-in_err-write_entry
returns-in_err-write_entry c =
    let p = err_from_is_err_and c.from_residual.result c.from_residual.ensures.1 in
    rw p.1 (keeps_through c.args.out.now.items (flat_map entry_octets (take c.loop-entry.entry-index c.args.entries.now)) c.loop-entry.out.items c.write_entry.new.out.items c.loop-entry.invariant c.in_err-write_entry.ensures)
