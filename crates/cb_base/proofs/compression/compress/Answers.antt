use Rattle.std.proofs.Common.{ap, ◌∙◌}
use Rattle.sha2.specs.Sha256.{add_state, compress}
use Rattle.cb_base.specs.Lanes.{lane}
use Rattle.cb_base.proofs.compression.compress.Goals as goal

pub returns : goal.returns
unfolding compress
returns c k lt b window = c.add_states.ensures k lt ∙ ap (add_state (lane k c.args.state)) (c.all_rounds-v.ensures k lt b window)
