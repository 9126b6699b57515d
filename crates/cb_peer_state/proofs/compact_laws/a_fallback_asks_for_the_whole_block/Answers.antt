use Rattle.cb_peer_state.proofs.CompactTold.{useless_whole, wrong_whole}
use Rattle.cb_peer_state.proofs.compact_laws.a_fallback_asks_for_the_whole_block.Goals as goal

pub returns-clause-useless : goal.returns-clause-useless
returns-clause-useless c = useless_whole

pub returns-clause-wrong : goal.returns-clause-wrong
returns-clause-wrong c = wrong_whole
