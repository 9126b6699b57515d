use Rattle.std.proofs.Common.{arith}
use Rattle.cb_wire.proofs.Messages.{found_lem, kept_lem, only_lem}
use Rattle.cb_wire.proofs.codec.decode.Goals as goal

pub returns-clause-found : goal.returns-clause-found
returns-clause-found c = found_lem _ _ _ (λ i. omega (arith, c.type_inv.payload i)) c.message_under.ensures.exact

pub returns-clause-kept : goal.returns-clause-kept
returns-clause-kept c = kept_lem _ _ _ c.requires (λ i. omega (arith, c.type_inv.payload i)) c.message_under.ensures.exact

pub returns-clause-only : goal.returns-clause-only
returns-clause-only c = λ message h s. only_lem _ _ _ message c.message_under.ensures.exact h s
