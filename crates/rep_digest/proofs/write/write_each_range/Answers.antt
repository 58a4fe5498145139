use Rattle.std.proofs.Common.{take}
use Rattle.std.specs.List.{flat_map}
use Rattle.std.proofs.lemmas.Result.{err_from_is_err_and}
use Rattle.rep_write.proofs.Writing.{keeps_through}
use Rattle.rep_digest.specs.Spelling.{range_octets}
use Rattle.rep_digest.proofs.write.write_each_range.Goals as goal

pub returns-in_err-write_range : goal.returns-in_err-write_range
returns-in_err-write_range c =
    let p = err_from_is_err_and c.from_residual.result c.from_residual.ensures.1 in
    rw p.1 (keeps_through c.args.out.now.items (flat_map range_octets (take c.loop-range.range-index c.args.ranges.now)) c.loop-range.out.items c.write_range.new.out.items c.loop-range.invariant c.in_err-write_range.ensures)
