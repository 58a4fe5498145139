use Rattle.std.proofs.Common.{◌≡◌, arith, Ok, Some}
use Rattle.gw_net.specs.Streams.{front}
use Rattle.gw_net.proofs.Fronts.{rest_taken, shorter, one_more}
use Rattle.gw_net.proofs.stream.read_messages.Goals as goal

pub reading-smaller : goal.reading-smaller
reading-smaller c =
    let there : front c.reading.rest.now ≡ Ok (Some (c.in-Ok-Some.message, c.in-Ok-Some.after.now)) = rw c.in-Ok-Some.field-0-is at c.in-Ok-Some.ensures in
    let taken = rest_taken c.args.bytes.now c.reading.messages.items c.reading.rest.now c.in-Ok-Some.message c.in-Ok-Some.after.now (λ i. omega (arith, c.type_inv.bytes i)) c.reading.invariant.parts there in
    shorter c.reading.rest.now c.in-Ok-Some.message c.in-Ok-Some.after.now taken.parts

pub reading-preserved : goal.reading-preserved
reading-preserved c =
    let there : front c.reading.rest.now ≡ Ok (Some (c.in-Ok-Some.message, c.in-Ok-Some.after.now)) = rw c.in-Ok-Some.field-0-is at c.in-Ok-Some.ensures in
    let taken = rest_taken c.args.bytes.now c.reading.messages.items c.reading.rest.now c.in-Ok-Some.message c.in-Ok-Some.after.now (λ i. omega (arith, c.type_inv.bytes i)) c.reading.invariant.parts there in
    let more = one_more c.args.bytes.now c.reading.messages.items c.push.new.self.items c.reading.rest.now c.in-Ok-Some.message c.in-Ok-Some.after.now c.reading.invariant.all c.reading.invariant.parts taken c.in_ok-push-in-Ok-Some.ensures.items in
    record { all = more.all; parts = more.parts }
