use Rattle.std.proofs.Common.{◌≢◌, ◌≤◌, ◌∙◌, ap, arith, inl, inr, length, rules, subst, sym}
use Rattle.cb_base.specs.declared.fault.Fault.TheVariants.{BadIndex}
use Rattle.cb_block.specs.Blocks.{MeetsBlockRules}
use Rattle.cb_block.specs.BlockText.{block_text, header_text}
use Rattle.cb_state.specs.declared.serving_places.Excerpt.TheVariants.{Part, Whole}
use Rattle.cb_state.specs.Parts.{IsCarried, txs_at}
use Rattle.cb_state.proofs.Parted.{carried, never_below, part_there, whole_there}
use Rattle.cb_state.proofs.serving_places.excerpt_at.Goals as goal

pub returns-in-Err-2-clause-refused : goal.returns-in-Err-2-clause-refused
returns-in-Err-2-clause-refused c =
    let total = ap length (c.as_slice-total.ensures ∙ ap (λ b. b.txs) c.block.ensures.same) in
    elim c.in-Err-2.ensures.refused [
      | inl short ↦ never_below _ _ c.args.block.now.txs total short.1
      | inr bad ↦ let other : c.in-Err.fault ≢ BadIndex = search rules in λ outside. absurd (other (c.in-Err-2.fault-is ∙ bad.0))
    ]

pub returns-in_err-copy-clause-refused : goal.returns-in_err-copy-clause-refused
returns-in_err-copy-clause-refused c =
    let total = ap length (c.as_slice-total.ensures ∙ ap (λ b. b.txs) c.block.ensures.same) in
    never_below _ _ c.args.block.now.txs total c.in-Ok.ensures.found.1

pub returns-in_err-list-clause-refused : goal.returns-in_err-list-clause-refused
returns-in_err-list-clause-refused c =
    let total = ap length (c.as_slice-total.ensures ∙ ap (λ b. b.txs) c.block.ensures.same) in
    never_below _ _ c.args.block.now.txs total c.in-Ok.ensures.found.1

pub new-requires : goal.new-requires
new-requires c = subst MeetsBlockRules (sym c.in_ok-copy.ensures.same) c.requires

pub returns-then-not-near-clause-exact : goal.returns-then-not-near-clause-exact
returns-then-not-near-clause-exact c =
    let total = ap length (c.as_slice-total.ensures ∙ ap (λ b. b.txs) c.block.ensures.same) in
    ap Whole (c.new.ensures ∙ c.in_ok-copy.ensures.same) ∙ whole_there c.args.near c.args.hash _ c.args.block.now _ total c.in-Ok.ensures.found.1 c.if-not-near.true

pub new-requires-3 : goal.new-requires-3
new-requires-3 c =
    let txs = c.as_slice.ensures ∙ ap (λ b. b.txs) c.block-3.ensures.same in
    let list = c.new-2.ensures ∙ c.in_ok-list.ensures.exact ∙ ap (λ l. txs_at l c.as_slice-2.result.now) txs ∙ ap (txs_at c.args.block.now.txs) c.as_slice-2.ensures.value in
    let eighty = sym (c.header_size.ensures.text ∙ ap (λ b. length (header_text b.header)) c.block-2.ensures.same) ∙ c.header_size.ensures.size in
    let few : length (block_text c.args.block.now) ≤ 4000000 = omega (arith, c.requires.size) in
    subst IsCarried (sym list) (carried c.args.block.now c.in-Ok.places.items c.args.differences.now eighty few c.in-Ok.ensures.found.0)

pub returns-clause-exact : goal.returns-clause-exact
returns-clause-exact c =
    let total = ap length (c.as_slice-total.ensures ∙ ap (λ b. b.txs) c.block.ensures.same) in
    let txs = c.as_slice.ensures ∙ ap (λ b. b.txs) c.block-3.ensures.same in
    let list = c.new-2.ensures ∙ c.in_ok-list.ensures.exact ∙ ap (λ l. txs_at l c.as_slice-2.result.now) txs
    ∙ ap (txs_at c.args.block.now.txs) (c.as_slice-2.ensures.value ∙ c.in-Ok.ensures.found.0) in
    ap Part (c.new-3.ensures ∙ ap (λ l. record { hash = c.args.hash; txs = l }) list)
    ∙ part_there c.args.near c.args.hash _ c.args.block.now _ total c.in-Ok.ensures.found.1 c.if-not-near.false
