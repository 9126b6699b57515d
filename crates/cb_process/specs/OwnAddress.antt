-- Which addresses lead back to the node itself.
use Rattle.std.specs.Prelude.{◌≡◌, ◌⊎◌}
use Rattle.std.specs.declared.net.ip_addr.IpAddr.{IpAddr}
use Rattle.std.specs.declared.net.ip_addr.IpAddr.TheVariants.{V4, V6}
use Rattle.std.specs.declared.net.ipv4_addr.Ipv4Addr.{Ipv4Addr}
use Rattle.std.specs.declared.net.ipv6_addr.Ipv6Addr.{Ipv6Addr}
use Rattle.std.specs.declared.net.socket_addr.SocketAddr.{SocketAddr}
use Rattle.std.specs.Net.Addr.{IsLoopbackV4, IsLoopbackV6, IsUnspecifiedV4, IsUnspecifiedV6}
use Rattle.std.specs.Net.Socket.{socket_ip, socket_port}

-- The host that is dialled is the one at which somebody listens. Who listens at all addresses is
-- reached at the loopback ones, and a dial of the address that stands for all goes to a loopback
-- one.
abbrev pub LeadsToV4 : Ipv4Addr → Ipv4Addr → Type 0
LeadsToV4 listens dialled =
    (listens ≡ dialled)
    ⊎ ((IsUnspecifiedV4 listens × IsLoopbackV4 dialled)
    ⊎ (IsLoopbackV4 listens × IsUnspecifiedV4 dialled))

abbrev pub LeadsToV6 : Ipv6Addr → Ipv6Addr → Type 0
LeadsToV6 listens dialled =
    (listens ≡ dialled)
    ⊎ ((IsUnspecifiedV6 listens × IsLoopbackV6 dialled)
    ⊎ (IsLoopbackV6 listens × IsUnspecifiedV6 dialled))

abbrev pub LeadsTo : IpAddr → IpAddr → Type 0
LeadsTo (V4 listens) (V4 dialled) = LeadsToV4 listens dialled
LeadsTo (V6 listens) (V6 dialled) = LeadsToV6 listens dialled
LeadsTo (V4 listens) (V6 dialled) = ⊥
LeadsTo (V6 listens) (V4 dialled) = ⊥

-- the same with the port
abbrev pub IsOwn : SocketAddr → SocketAddr → Type 0
IsOwn listens address =
    (socket_port listens ≡ socket_port address) × LeadsTo (socket_ip listens) (socket_ip address)
