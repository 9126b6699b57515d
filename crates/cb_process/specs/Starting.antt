-- A node that can't be started.
use Rattle.std.specs.Prelude.{◌≡◌, ℕ, ◌⊎◌, List, ◌++◌, codes, Option, Some}
use Rattle.std.specs.Io.KnownBytes.{Appends}
use Rattle.std.specs.declared.net.socket_addr.SocketAddr.{SocketAddr}
use Rattle.std.specs.Net.Text.{socket_text}
use Rattle.cb_rpc_serve.specs.Starting.{cause_text}
use Rattle.cb_rpc_serve.specs.declared.settings.RpcSettings.{RpcSettings}
use Rattle.cb_rpc_serve.specs.declared.start_fault.StartFault.{StartFault}
use Rattle.cb_process.specs.declared.orders.NodeOrders.{NodeOrders}

-- what standard error is told if the node can't listen at this address
abbrev pub deaf_text : SocketAddr → StartFault → List ℕ
deaf_text address fault =
    codes "error: can't listen at "
    ++ (socket_text address ++ (codes ": " ++ (cause_text fault ++ codes "\n")))

-- where a node with these orders listens: for peers, or for requests of JSON-RPC
abbrev pub IsPlace : NodeOrders → SocketAddr → Type 0
IsPlace orders address =
    (address ≡ orders.listen)
    ⊎ ((rpc : RpcSettings) × (orders.rpc ≡ Some rpc) × (address ≡ rpc.address))

-- standard error was told at which of these places the node can't listen, and why
abbrev pub IsDeaf : NodeOrders → Option (List ℕ) → Option (List ℕ) → Type 0
IsDeaf orders told tells =
    (address : SocketAddr) × (fault : StartFault) × IsPlace orders address
    × Appends told tells (deaf_text address fault)
