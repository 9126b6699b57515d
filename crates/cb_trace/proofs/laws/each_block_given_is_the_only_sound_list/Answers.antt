use Rattle.cb_trace.proofs.Handed.{each_given, pending_given}
use Rattle.cb_trace.proofs.laws.each_block_given_is_the_only_sound_list.Goals as goal

pub returns-clause-given : goal.returns-clause-given
returns-clause-given c = λ settings entries. each_given settings entries

pub returns-clause-pending : goal.returns-clause-pending
returns-clause-pending c = λ settings entries given e. pending_given settings entries given e
