-- Addresses of this machine.
use Rattle.std.specs.Prelude.{◌≡◌, [], ◌∷◌}
use Rattle.std.specs.declared.net.ip_addr.IpAddr.{IpAddr}
use Rattle.std.specs.declared.net.ip_addr.IpAddr.TheVariants.{V4, V6}
use Rattle.std.specs.declared.net.socket_addr.SocketAddr.{SocketAddr}
use Rattle.std.specs.Net.Addr.{ipv4_octets}
use Rattle.std.specs.Net.Socket.{socket_ip}

-- the address is 127.0.0.1
abbrev pub IsLoopback : IpAddr → Type 0
IsLoopback (V4 address) = ipv4_octets address ≡ 127 ∷ 0 ∷ 0 ∷ 1 ∷ []
IsLoopback (V6 address) = ⊥

-- an address of a socket at 127.0.0.1
abbrev pub IsLocal : SocketAddr → Type 0
IsLocal socket = IsLoopback (socket_ip socket)
