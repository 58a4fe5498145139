-- Addresses as the system has them.
use Rattle.std.specs.Prelude.{◌≡◌}
use Rattle.std.specs.Net.Addr.{IsIpv4OfBits}
use Rattle.std.specs.Net.Socket.{v4_ip, v4_port}
use Rattle.std.specs.declared.net.socket_addr.SocketAddr.{SocketAddr}
use Rattle.std.specs.declared.net.socket_addr.SocketAddr.TheVariants.{V4, V6}
use Rattle.sn_local.specs.declared.config.Addr.{Addr}

-- the system's address is one of IPv4, with this host and this port
abbrev pub IsAddress : Addr → SocketAddr → Type 0
IsAddress addr (V4 at) = IsIpv4OfBits (v4_ip at) addr.host × (v4_port at ≡ addr.port)
IsAddress addr (V6 at) = ⊥
