use Rattle.std.proofs.Common.{◌≡◌, string_bytes, take}
use Rattle.std.specs.List.{flat_map}
use Rattle.cb_control.specs.PeerText.{agent_byte}
use Rattle.cb_rpc.proofs.agent.agent_text.Given as goal

-- what is told of the bytes so far
abbrev pub invariant-loop-byte : goal.invariant-loop-byte
invariant-loop-byte l = string_bytes l.text ≡ flat_map agent_byte (take l.byte-index l.agent)
