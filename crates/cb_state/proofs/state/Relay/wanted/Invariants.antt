use Rattle.std.proofs.Common.{◌≡◌, ◌≤◌, length, take}
use Rattle.std.specs.HashSet.{contains}
use Rattle.cb_chain.specs.Entries.{same}
use Rattle.cb_state.specs.Wanting.{AreNoted, wanted_of}
use Rattle.cb_state.proofs.state.Relay.wanted.Given as goal

abbrev pub invariant-loop-entry : goal.invariant-loop-entry
invariant-loop-entry l = record {
  noted : AreNoted (contains same l.wanted.txs) (contains same l.wanted.blocks) l.wanted.list.items;
  listed : l.wanted.list.items ≡ wanted_of l.self (take l.entry-index l.entries);
  few : length l.wanted.list.items ≤ l.entry-index;
}
