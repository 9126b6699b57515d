-- Why a block isn't sound, or that it is.
use Rattle.std.proofs.Common.{◌∙◌, refl, inr}
use Rattle.cb_block.proofs.Verdicts.{is_mutated, not_mutated, not_root, is_sound}
use Rattle.cb_block.proofs.soundness.tree_txids.Goals as goal

pub returns-then-mutated-clause-err : goal.returns-then-mutated-clause-err
returns-then-mutated-clause-err c =
    let b = c.args.block.now in
    let leaves = c.in_ok-from_slice.field-0.items in
    let from = c.in_ok-from_slice.ensures.items ∙ c.as_slice.ensures.value ∙ c.requires.named in
    inr (c.requires.some, c.requires.sizes, is_mutated b b.txs refl leaves from c.tree-mutated.result.1 c.if-mutated.true c.tree-mutated.ensures.mutated)

pub returns-then-ne-clause-err : goal.returns-then-ne-clause-err
returns-then-ne-clause-err c =
    let b = c.args.block.now in
    let leaves = c.in_ok-from_slice.field-0.items in
    let from = c.in_ok-from_slice.ensures.items ∙ c.as_slice.ensures.value ∙ c.requires.named in
    inr (
      c.requires.some,
      c.requires.sizes,
      not_mutated b b.txs refl leaves from c.tree-mutated.result.1 c.if-mutated.false c.tree-mutated.ensures.mutated,
      not_root b b.txs refl leaves from c.tree-mutated.result.0 c.tree-mutated.ensures.root c.if-ne.ensures,
    )

pub returns-clause-sound : goal.returns-clause-sound
returns-clause-sound c =
    let b = c.args.block.now in
    let from = c.in_ok-from_slice.ensures.items ∙ c.as_slice.ensures.value ∙ c.requires.named in
    is_sound b b.txs refl c.in_ok-from_slice.field-0.items from c.tree-mutated.result.0 c.tree-mutated.result.1 c.requires.some c.requires.sizes c.if-mutated.false c.tree-mutated.ensures.mutated c.tree-mutated.ensures.root c.if-ne.ensures
