use Rattle.cb_relay.proofs.Sounding.{completed_block, known_block, rebuilt_block}
use Rattle.cb_relay.proofs.message_laws.what_is_rebuilt_is_the_block.Goals as goal

pub returns-clause-rebuilt : goal.returns-clause-rebuilt
returns-clause-rebuilt c = rebuilt_block

pub returns-clause-known : goal.returns-clause-known
returns-clause-known c = known_block

pub returns-clause-completed : goal.returns-clause-completed
returns-clause-completed c = completed_block
