use Rattle.cb_base.specs.SipHash.{sip_end}
use Rattle.cb_base.proofs.sip_hash.SipState.finish.Goals as goal

pub returns : goal.returns
unfolding sip_end
returns c = simp (c.round-4.ensures, c.round-3.ensures, c.round-2.ensures, c.round.ensures)
