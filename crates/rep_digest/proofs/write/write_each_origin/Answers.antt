use Rattle.std.proofs.Common.{take}
use Rattle.std.specs.List.{flat_map}
use Rattle.std.proofs.lemmas.Result.{err_from_is_err_and}
use Rattle.rep_write.proofs.Writing.{keeps_through}
use Rattle.rep_digest.specs.Spelling.{origin_octets}
use Rattle.rep_digest.proofs.write.write_each_origin.Goals as goal

pub returns-in_err-write_origin : goal.returns-in_err-write_origin
returns-in_err-write_origin c =
    let p = err_from_is_err_and c.from_residual.result c.from_residual.ensures.1 in
    rw p.1 (keeps_through c.args.out.now.items (flat_map origin_octets (take c.loop-origin.origin-index c.args.origins.now)) c.loop-origin.out.items c.write_origin.new.out.items c.loop-origin.invariant c.in_err-write_origin.ensures)
