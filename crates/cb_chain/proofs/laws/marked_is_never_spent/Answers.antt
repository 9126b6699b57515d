use Rattle.cb_chain.proofs.Reached.{marked_err, marked_stop, nothing_missing, unkept_err}
use Rattle.cb_chain.proofs.laws.marked_is_never_spent.Goals as goal

pub returns-clause-marked : goal.returns-clause-marked
returns-clause-marked c = λ hash marked. marked_err c.args.chain.now hash c.has_history.ensures marked

pub returns-clause-unkept : goal.returns-clause-unkept
returns-clause-unkept c = λ hash unkept. unkept_err c.args.chain.now hash unkept

pub returns-clause-stop : goal.returns-clause-stop
returns-clause-stop c = λ hash first fault kept e. marked_stop c.args.chain.now hash first fault c.has_history.ensures kept e

pub returns-clause-whole : goal.returns-clause-whole
returns-clause-whole c = λ hash lacking kept e. nothing_missing c.args.chain.now hash lacking c.has_history.ensures kept e
