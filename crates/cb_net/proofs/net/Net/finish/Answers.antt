use Rattle.cb_net.proofs.Moments.{ages_last}
use Rattle.cb_net.proofs.net.Net.finish.Goals as goal

pub returns-clause-settles : goal.returns-clause-settles
returns-clause-settles c = record {
  before = c.heal_at_last.new.self;
  begins = ages_last _ _ c.heal_at_last.ensures.ages;
  settles = c.settle.ensures;
}
