use Rattle.std.proofs.Common.{◌≡◌, ◌∙◌, ◌-◌, ◌⊎◌, inl, inr, ℕ, List, MatchOption, length, drop, subst, sym}
use Rattle.std.specs.Prelude.{◌≢◌}
use Rattle.mq_packet.specs.declared.fault.PacketFault.{PacketFault}
use Rattle.mq_packet.specs.declared.fault.PacketFault.TheVariants as faults
use Rattle.mq_packet.specs.declared.packet.Packet.{Packet}
use Rattle.mq_stream.specs.Pieces.{IsFaulty, IsPiece, LacksPacket, ReadsPackets}
use Rattle.mq_stream.proofs.Joining.{IsEnd, dropped-end, end-dropped, end-length, end-of-end, piece-end, reads-more}
use Rattle.mq_stream.proofs.stream.read_packets.Goals as goal

pub reading-init : goal.reading-init
reading-init c = record {
  read = subst (λ (ps : List Packet). ReadsPackets c.args.over c.args.octets.now ps c.passed-left.result.0 c.passed-left.result.1.now) (sym c.new-packets.ensures.items) (c.passed-left.ensures.over, c.passed-left.ensures.rest);
  end = dropped-end c.args.octets.now c.passed-left.result.1.now c.args.over c.passed-left.ensures.rest;
}

pub reading-preserved : goal.reading-preserved
reading-preserved c =
    let found = c.in-Ok-Some.found in
    let old = c.reading.rest.now in
    let rest = c.passed-more.result.1.now in
    let piece : IsPiece old found.packet found.over found.rest.now = subst (λ o. MatchOption o (LacksPacket old) (λ f. IsPiece old f.packet f.over f.rest.now)) c.in-Ok-Some.field-0-is c.in-Ok-Some.ensures.ok in
    let read : ReadsPackets c.args.over c.args.octets.now c.push.new.self.items c.passed-more.result.0 rest =
    subst (λ (ps : List Packet). ReadsPackets c.args.over c.args.octets.now ps c.passed-more.result.0 rest) (sym c.in_ok-push-in-Ok-Some.ensures.items)
    (reads-more c.args.over c.args.octets.now c.reading.packets.items c.reading.left old found.packet found.over found.rest.now c.passed-more.result.0 rest c.reading.invariant.read piece c.passed-more.ensures.over c.passed-more.ensures.rest) in
    let behind = end-of-end c.args.octets.now old found.rest.now c.reading.invariant.end (piece-end old found.packet found.over found.rest.now piece) in
    record {
      read = read;
      end = end-of-end c.args.octets.now found.rest.now rest behind (dropped-end found.rest.now rest found.over c.passed-more.ensures.rest);
    }

-- a fault that is not want of memory is one of what is left
left-faulty : (octets rest : List ℕ) (fault kept : PacketFault) → IsEnd octets rest → kept ≡ fault → kept ≢ faults.Memory → (fault ≡ faults.Memory) ⊎ IsFaulty rest fault
    → IsFaulty (drop (length octets - length rest) octets) kept
left-faulty octets rest fault kept end same real (inl e) = absurd (real (same ∙ e))
left-faulty octets rest fault kept end same real (inr h) =
    let left : List ℕ = drop (length octets - length rest) octets in
    subst (λ f. IsFaulty left f) (sym same) (subst (λ zs. IsFaulty zs fault) (end-dropped octets rest end) h)

pub returns-in-Err : goal.returns-in-Err
returns-in-Err c =
    let octets = c.args.octets.now in
    let rest = c.reading.rest.now in
    let end = c.reading.invariant.end in
    let real = c.in_ok-real-in-Err.ensures.ok in (
      end-length octets rest end,
      subst (λ zs. ReadsPackets c.args.over octets c.reading.packets.items c.reading.left zs) (end-dropped octets rest end) c.reading.invariant.read,
      left-faulty octets rest c.in-Err.fault c.in_ok-real-in-Err.field-0 end real.0 real.1 c.in-Err.ensures.err,
    )
