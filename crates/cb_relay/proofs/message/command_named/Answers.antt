use Rattle.cb_relay.proofs.Judging.{no_text}
use Rattle.cb_relay.proofs.message.command_named.Goals as goal

pub returns-in_default : goal.returns-in_default
returns-in_default c = no_text c.args.name.now c.in_default.ensures.cases.0
