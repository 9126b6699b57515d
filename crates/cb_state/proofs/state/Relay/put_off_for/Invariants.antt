use Rattle.std.proofs.Common.{◌≡◌, map, take}
use Rattle.cb_chain.specs.Entries.{block_hash}
use Rattle.cb_state.specs.Accepting.{txs_in}
use Rattle.cb_state.proofs.state.Relay.put_off_for.Given as goal

abbrev pub invariant-loop-header : goal.invariant-loop-header
invariant-loop-header l = l.first.items ≡ txs_in l.self.tree (map block_hash (take l.header-index l.header-items))
