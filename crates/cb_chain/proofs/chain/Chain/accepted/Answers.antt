use Rattle.std.proofs.Common.{arith, ap, sym, ◌∙◌, inl, inr}
use Rattle.std.specs.Prelude.{option_map}
use Rattle.cb_chain.specs.Marking.{BlockIndex}
use Rattle.cb_chain.proofs.Reading.{accepted_past, accepted_slot}
use Rattle.cb_chain.proofs.chain.Chain.accepted.Goals as goal

pub returns : goal.returns
returns c =
    let block_indexes = c.self.inside.tree.block_indexes in
    sym (ap (option_map (λ (n : BlockIndex). n.header)) c.block_index.ensures.block_index) ∙ accepted_slot block_indexes c.args.self.now c.args.place c.self.view_is
