use Rattle.cb_trace.specs.Trace.{asked_from, base_account}
use Rattle.cb_audit.specs.Turns.{answers_in}
use Rattle.cb_audit.proofs.Pairing.{as_many, paired_length}
use Rattle.cb_audit.proofs.laws.each_answer_has_its_question.Goals as goal

pub returns-clause-asked : goal.returns-clause-asked
returns-clause-asked c = λ trace. as_many (base_account trace) trace.entries

pub returns-clause-turns : goal.returns-clause-turns
returns-clause-turns c = λ trace. paired_length (asked_from (base_account trace) trace.entries) (answers_in trace.entries) (as_many (base_account trace) trace.entries)
