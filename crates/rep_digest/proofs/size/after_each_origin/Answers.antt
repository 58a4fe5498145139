use Rattle.std.proofs.Common.{arith}
use Rattle.rep_digest.specs.Spelling.{origin_octets}
use Rattle.rep_digest.proofs.Format.{length_more}
use Rattle.rep_digest.proofs.size.after_each_origin.Goals as goal

pub returns-in-None : goal.returns-in-None
returns-in-None c =
    let more = length_more origin_octets c.args.origins.now c.loop-origin.origin-index c.origin-item.result c.loop-origin-test.true c.origin-item.is in
    omega (arith, c.loop-origin.invariant, c.in-None.ensures, more)
