use Rattle.byteorder.specs.Endian.{big_bytes}
use Rattle.rep_op.specs.Sessions.{option_octets, exchange_octets}
use Rattle.rep_write.proofs.Writing.{writes_more}
use Rattle.rep_write.proofs.write_session.write_outbound.Goals as goal

pub returns : goal.returns
returns c =
    writes_more c.args.out.now.items (big_bytes 2 c.args.next_id) (option_octets exchange_octets c.args.exchange.now) c.write_id.new.out.items c.write_exchange.new.out.items c.write_exchange.result
    c.in_ok-write_id.ensures c.write_exchange.ensures
