-- What contracts see of a node's process.
use Rattle.std.specs.Prelude.{ℕ}
use Rattle.std.specs.declared.net.socket_addr.SocketAddr.{SocketAddr}
use Rattle.cb_node.specs.Node.{NodeState}

-- its node, where it listens, and how many connections last
pub record ProcessState : Type 0 where
  pub node : NodeState
  pub address : SocketAddr
  pub lasting : ℕ
