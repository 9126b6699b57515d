use Rattle.cb_base.specs.SipHash.{with_word}
use Rattle.cb_base.proofs.sip_hash.SipState.absorb.Goals as goal

pub returns : goal.returns
unfolding with_word
returns c = simp (c.round-2.ensures, c.round.ensures)
