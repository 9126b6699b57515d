use Rattle.std.proofs.Common.{sym, ◌∙◌}
use Rattle.std.proofs.Math.Seq.{drop-length}
use Rattle.cb_wire.proofs.Streams.{cut-partial, cut-broken}
use Rattle.cb_wire.proofs.assembler.cut_items.Goals as goal

pub returns-in-Partial-clause-stream : goal.returns-in-Partial-clause-stream
returns-in-Partial-clause-stream c =
    cut-partial _ _ c.loop-size.rest.now _ c.loop-size.invariant.spells (sym c.front_of.ensures.front ∙ c.in-Partial.is) c.loop-size.invariant.left

pub returns-in-Broken-clause-stream : goal.returns-in-Broken-clause-stream
returns-in-Broken-clause-stream c =
    cut-broken _ _ c.loop-size.rest.now _ _ c.loop-size.invariant.spells (sym c.front_of.ensures.front ∙ c.in-Broken.is) (drop-length c.args.bytes.now)
