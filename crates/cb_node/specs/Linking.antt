-- One number leads from a connection through its link to its work.
use Rattle.std.specs.Prelude.{◌≡◌, ℕ}
use Rattle.cb_state.specs.declared.connection.Connection.{Connection}
use Rattle.cb_work.specs.PeerWork.{label_of}
use Rattle.cb_peers.specs.declared.link.Link.{Link}

-- the link is of this connection
abbrev pub IsLinkOf : Connection → Link → Type 0
IsLinkOf connection link =
    (link.peer ≡ connection.peer) × (link.generation ≡ connection.generation)

-- the connection of a link, as a number: the label of its work
abbrev pub link_label : Link → ℕ
link_label link = label_of (record { peer = link.peer; generation = link.generation })
