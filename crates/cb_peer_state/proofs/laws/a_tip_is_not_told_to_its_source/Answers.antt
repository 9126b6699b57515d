use Rattle.cb_peer_state.proofs.LawLemmas.{source_not_told}
use Rattle.cb_peer_state.proofs.laws.a_tip_is_not_told_to_its_source.Goals as goal

pub returns : goal.returns
returns c = source_not_told
