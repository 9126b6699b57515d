use Rattle.std.proofs.Common.{◌≡◌, sym, subst, ap, ◌∙◌, inl, inr, rules}
use Rattle.cb_base.specs.declared.fault.Fault.TheVariants.{Memory}
use Rattle.cb_block.specs.Blocks.{IsSoundBlock}
use Rattle.cb_block.specs.declared.block.Block.{Block}
use Rattle.cb_compact.proofs.Slotting.{not_sound}
use Rattle.cb_compact.proofs.partial.judge.Goals as goal

pub returns-else-eq-clause-filled : goal.returns-else-eq-clause-filled
returns-else-eq-clause-filled c sound =
    let block : Block = c.in_ok-block.block in
    let named : block ≡ record { header = c.args.header; txs = c.args.listed.txs.items } = c.in_ok-block.ensures.same ∙ ap (λ txs. record { header = c.args.header; txs = txs }) c.new-txs.ensures in
    let whole : IsSoundBlock block = subst IsSoundBlock (sym named) sound in
    elim c.in-Err.ensures.err.1 [
      | inl e ↦ let same : c.in-Err.fault ≡ Memory = e in first_of (search rules, cc)
      | inr reason ↦ not_sound block c.in-Err.fault reason whole
    ]
