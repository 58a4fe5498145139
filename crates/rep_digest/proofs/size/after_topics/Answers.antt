use Rattle.std.proofs.Common.{arith}
use Rattle.rep_digest.specs.Spelling.{retained_entry_octets}
use Rattle.rep_digest.proofs.Format.{length_more}
use Rattle.rep_digest.proofs.size.after_topics.Goals as goal

pub returns-in-None : goal.returns-in-None
returns-in-None c =
    let more = length_more retained_entry_octets c.args.topics.now c.loop-entry.entry-index c.entry-item.result c.loop-entry-test.true c.entry-item.is in
    omega (arith, c.loop-entry.invariant, c.in-None.ensures, more)
