use Rattle.std.proofs.Common.{◌≡◌, ◌∙◌, [], ap, sym}
use Rattle.cb_block.specs.declared.block.Block.{Block}
use Rattle.cb_chain.proofs.BlockIndexes.{same-true}
use Rattle.cb_chain.specs.Best.{best}
use Rattle.cb_state.specs.Accepting.{txs_above}
use Rattle.cb_state.specs.State.{RelayState}
use Rattle.cb_state.proofs.Takings.{nothing_on}
use Rattle.cb_state.proofs.state.Relay.outlook_on.Goals as goal

pub outlook_on_tip-requires : goal.outlook_on_tip-requires
outlook_on_tip-requires c =
    let block = c.args.block.now in
    let shown : c.block.result.now ≡ block = c.block.ensures.same in
    let parent : c.block.result.now.header.prev ≡ block.header.prev = ap (λ (b : Block). b.header.prev) shown in
    let tip : c.block.result.now.header.prev ≡ c.tip.result = same-true c.block.result.now.header.prev c.tip.result (sym c.eq.ensures ∙ c.if-eq.true) in
    let none : c.in_ok-first.first.items ≡ [] = sym c.as_slice.ensures.value ∙ nothing_on c.as_slice.result.now (sym c.is_empty.ensures ∙ c.if-is_empty.true) in
    let first : c.in_ok-first.first.items ≡ txs_above c.args.self.now.tree c.block.result.now.header.prev = c.in_ok-first.ensures.first in
    record {
      on = sym parent ∙ tip ∙ c.tip.ensures ∙ ap (λ (s : RelayState). best s.tree) c.self.view_is;
      above = ap (txs_above c.args.self.now.tree) (sym parent) ∙ sym first ∙ none;
    }
