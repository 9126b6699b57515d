use Rattle.std.proofs.Common.{◌≡◌, ◌++◌, take}
use Rattle.std.specs.List.{flat_map}
use Rattle.cb_rpc.specs.Peers.{peer_tokens}
use Rattle.cb_rpc.proofs.peer.put_each.Given as goal

-- the connections so far
abbrev pub invariant-loop-peer : goal.invariant-loop-peer
invariant-loop-peer l =
    (l.writer.tokens ≡ l.fn.writer.tokens ++ flat_map peer_tokens (take l.peer-index l.peers))
    × (l.writer.before ≡ l.fn.writer.before)
