use Rattle.std.proofs.Common.{◌≡◌, drop}
use Rattle.cb_peer_state.specs.Fetching.{leaves_out}
use Rattle.cb_peer_state.proofs.fetch.Fetch.leaves_out.Given as goal

abbrev pub invariant-loop-missing : goal.invariant-loop-missing
invariant-loop-missing l = leaves_out l.self (drop l.missing-index l.hashes) ≡ leaves_out l.self l.hashes
