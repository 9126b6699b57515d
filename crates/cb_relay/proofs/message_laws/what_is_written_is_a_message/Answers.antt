use Rattle.cb_relay.proofs.Writing.{written_again}
use Rattle.cb_relay.proofs.message_laws.what_is_written_is_a_message.Goals as goal

pub returns : goal.returns
returns c = written_again
