use Rattle.cb_base.specs.SipHash.{sip_round}
use Rattle.cb_base.proofs.sip_hash.SipState.round.Goals as goal

pub returns : goal.returns
unfolding sip_round
returns c = simp (c.rotate_left.ensures, c.rotate_left-2.ensures, c.rotate_left-3.ensures, c.rotate_left-4.ensures, c.rotate_left-self.ensures, c.rotate_left-self-2.ensures)
