use Rattle.cb_peer_state.proofs.LawLemmas.{given_sound}
use Rattle.cb_peer_state.proofs.laws.sound_blocks_are_given.Goals as goal

pub returns : goal.returns
returns c = given_sound
