use Rattle.std.proofs.Common.{ap, ◌∙◌}
use Rattle.cb_wire.specs.Envelope.{front_at}
use Rattle.cb_wire.proofs.Streams.{front_at-nil}
use Rattle.cb_wire.proofs.assembler.Assembler.new.Goals as goal

pub invariant_of-result : goal.invariant_of-result
invariant_of-result c = ap front_at c.new.ensures.items ∙ front_at-nil
