use Rattle.std.proofs.Common.{arith}
use Rattle.rep_digest.proofs.Format.{topics_within, fits_topics}
use Rattle.rep_digest.proofs.write.write_digest.Goals as goal

pub write_both-requires-clause-few : goal.write_both-requires-clause-few
write_both-requires-clause-few c =
    let back = topics_within c.args.clients.now c.args.topics.now in
    (fits_topics c.args.topics.now c.requires.topics (omega (arith, back, c.requires.size))).few
