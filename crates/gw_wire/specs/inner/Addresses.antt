-- Addresses as the system has them.
use Rattle.std.specs.Net.Addr.{ipv4_bits}
use Rattle.std.specs.Net.Socket.{v4_ip, v4_port}
use Rattle.std.specs.declared.net.socket_addr.SocketAddrV4.{SocketAddrV4}
use Rattle.sn_local.specs.declared.config.Addr.{Addr}

-- the host and the port of an address of IPv4
abbrev pub addr_of : SocketAddrV4 → Addr
addr_of at = record { host = ipv4_bits (v4_ip at); port = v4_port at }
