use Rattle.std.proofs.Common.{refl}
use Rattle.cb_base.specs.SipHash.{sip_start}
use Rattle.cb_base.proofs.sip_hash.SipState.new.Goals as goal

pub returns : goal.returns
unfolding sip_start
returns c = refl
