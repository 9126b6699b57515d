use Rattle.std.proofs.Common.{◌≡◌, take}
use Rattle.std.specs.Prelude.{fold}
use Rattle.cb_peer_state.specs.Fetching.{wanting}
use Rattle.cb_peer_state.proofs.fetch.Fetch.want_each.Given as goal

abbrev pub invariant-loop-hash : goal.invariant-loop-hash
invariant-loop-hash l = l.self ≡ fold wanting l.fn.self (take l.hash-index l.hashes)
