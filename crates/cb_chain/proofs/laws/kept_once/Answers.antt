use Rattle.cb_chain.proofs.LawLemmas.{planted_in}
use Rattle.cb_chain.proofs.laws.kept_once.Goals as goal

pub returns-clause-once : goal.returns-clause-once
returns-clause-once c = λ newer older entry is. (planted_in c.args.chain.now newer entry older c.has_history.ensures is).once

pub returns-clause-header : goal.returns-clause-header
returns-clause-header c = λ newer older entry is. (planted_in c.args.chain.now newer entry older c.has_history.ensures is).own
