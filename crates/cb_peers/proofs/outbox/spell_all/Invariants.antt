use Rattle.std.proofs.Common.{◌≡◌, take}
use Rattle.cb_wire.specs.Stream.{texts}
use Rattle.cb_peers.proofs.outbox.spell_all.Given as goal

-- the messages so far are spelled
abbrev pub invariant-loop-message : goal.invariant-loop-message
invariant-loop-message l = l.spelled.items ≡ texts (take l.message-index l.messages)
