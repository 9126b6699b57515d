use Rattle.std.proofs.Common.{sym, ◌∙◌}
use Rattle.cb_wire.proofs.Messages.{Gives-is, message_at-known, message_at-unknown}
use Rattle.cb_wire.proofs.codec.message_under.Goals as goal

pub returns-in-Some-clause-exact : goal.returns-in-Some-clause-exact
returns-in-Some-clause-exact c = Gives-is _ _ _ (message_at-known _ _ _ (sym c.named.ensures ∙ c.in-Some.is)) c.read_payload.ensures.exact

pub returns-in_ok-bytes-in-None-clause-exact : goal.returns-in_ok-bytes-in-None-clause-exact
returns-in_ok-bytes-in-None-clause-exact c = message_at-unknown _ _ (sym c.named.ensures ∙ c.in-None.is) ∙ cc (c.in_ok-name-in-None.ensures.name, c.in_ok-bytes-in-None.ensures.items)
