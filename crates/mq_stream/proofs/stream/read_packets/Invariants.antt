use Rattle.std.proofs.Common.{length}
use Rattle.mq_stream.specs.Pieces.{ReadsPackets}
use Rattle.mq_stream.proofs.Joining.{IsEnd}
use Rattle.mq_stream.proofs.stream.read_packets.Given as goal

abbrev pub invariant-reading : goal.invariant-reading
invariant-reading l = record {
  read : ReadsPackets l.over l.octets l.packets.items l.left l.rest;
  end : IsEnd l.octets l.rest;
}

abbrev pub decreases-reading : goal.decreases-reading
decreases-reading l = length l.rest
