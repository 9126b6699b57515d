use Rattle.std.proofs.Common.{◌≡◌, ◌++◌, string_bytes, take}
use Rattle.std.specs.List.{flat_map}
use Rattle.cb_control.specs.ReplyText.{peer_text}
use Rattle.cb_control.proofs.operator_text.print_peers.Given as goal

-- the lines so far
abbrev pub invariant-loop-peer : goal.invariant-loop-peer
invariant-loop-peer l = string_bytes l.out ≡ string_bytes l.fn.out ++ flat_map peer_text (take l.peer-index l.peers)
