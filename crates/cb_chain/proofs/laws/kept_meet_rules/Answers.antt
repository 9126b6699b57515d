use Rattle.cb_chain.proofs.LawLemmas.{all_good, all_sound}
use Rattle.cb_chain.proofs.laws.kept_meet_rules.Goals as goal

pub returns-clause-rules : goal.returns-clause-rules
returns-clause-rules c = all_good c.args.chain.now c.has_history.ensures

pub returns-clause-sound : goal.returns-clause-sound
returns-clause-sound c = all_sound c.args.chain.now c.has_history.ensures
