use Rattle.cb_chain.proofs.LawLemmas.{marked_for}
use Rattle.cb_chain.proofs.Reasons.{were_refused}
use Rattle.cb_chain.proofs.laws.marked_for_a_reason.Goals as goal

pub returns-clause-alone : goal.returns-clause-alone
returns-clause-alone c = λ calls hash past unkept marked. were_refused calls c.args.chain.now past hash marked unkept

pub returns-clause-kept : goal.returns-clause-kept
returns-clause-kept c = λ hash kept marked. marked_for c.args.chain.now hash c.has_history.ensures kept marked
