use Rattle.std.proofs.Common.{◌≡◌, ◌++◌, string_bytes}
use Rattle.std.specs.List.{flat_map, range_with_len}
use Rattle.cb_commands.specs.SimReport.{peer_text}
use Rattle.cb_commands.proofs.sim.report.peers.Given as goal

abbrev pub invariant-loop-peer : goal.invariant-loop-peer
invariant-loop-peer l = string_bytes l.out ≡ string_bytes l.fn.out ++ flat_map (peer_text l.system.crew) (range_with_len 0 l.peer)
