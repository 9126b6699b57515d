use Rattle.cb_chain.proofs.LawLemmas.{comes_after, highest}
use Rattle.cb_chain.proofs.laws.none_higher.Goals as goal

pub returns-clause-highest : goal.returns-clause-highest
returns-clause-highest c = λ hash ok. highest c.args.chain.now hash c.has_history.ensures ok

pub returns-clause-first : goal.returns-clause-first
returns-clause-first c = λ newer older entry is ok. comes_after c.args.chain.now newer entry older c.has_history.ensures is ok
