use Rattle.std.proofs.Common.{◌≡◌, take}
use Rattle.cb_peer_state.specs.Fetching.{blocks_in, taken_on}
use Rattle.cb_peer_state.proofs.fetch.Fetch.take_on.Given as goal

abbrev pub invariant-loop-entry : goal.invariant-loop-entry
invariant-loop-entry l = l.next ≡ taken_on (blocks_in (take l.entry-index l.needed))
