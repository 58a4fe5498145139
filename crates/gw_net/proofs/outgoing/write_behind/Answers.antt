use Rattle.std.proofs.Common.{ℕ, List, arith, subst, take}
use Rattle.std.specs.Io.KnownBytes.{Appends}
use Rattle.gw_net.proofs.Sending.{appends-more}
use Rattle.gw_net.proofs.outgoing.write_behind.Goals as goal

pub loop-written-preserved : goal.loop-written-preserved
loop-written-preserved g c =
    let K = g.W.Write.contents in
    let octets = c.args.octets.now in
    let n = c.loop-written.written in
    let m = c.write_some-taken.result in
    let old = K c.args.writer.now in
    let mid = K c.loop-written.writer in
    let new = K c.write_some-taken.new.writer in
    let out = subst (λ (t : List ℕ). Appends mid new (take m t)) c.split_at.ensures.back c.write_some-taken.ensures.out in
    (omega (arith, c.write_some-taken.ensures.bound, c.split_at.ensures.back_len, c.loop-written.invariant.0), appends-more old mid new n m octets c.loop-written.invariant.1 out)
