use Rattle.std.proofs.Common.{◌≡◌, take}
use Rattle.cb_peer_state.specs.Receiving.{given_up}
use Rattle.cb_peer.proofs.receiving.give_up.Given as goal

abbrev pub invariant-loop-entry : goal.invariant-loop-entry
invariant-loop-entry l = l.fetch ≡ given_up (take l.entry-index l.entries) l.fn.fetch
