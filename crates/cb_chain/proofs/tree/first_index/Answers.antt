use Rattle.std.proofs.Common.{◌≡◌, refl, ◌∙◌, ap, Some}
use Rattle.cb_block.specs.declared.block.Block.{Block}
use Rattle.cb_block.specs.Genesis.{genesis_header}
use Rattle.cb_chain.specs.Entries.{block_hash, genesis_hash}
use Rattle.cb_chain.proofs.tree.first_index.Goals as goal

pub returns-clause-first : goal.returns-clause-first
unfolding genesis_hash
returns-clause-first c =
    let header : c.block.result.now.header ≡ genesis_header = ap (λ (b : Block). b.header) (c.block.ensures.same ∙ c.in_ok-block.ensures.same) in
    record {
      header = header;
      hash = c.hash.ensures ∙ ap block_hash header;
      height = refl;
      block = ap Some (c.new.ensures ∙ c.in_ok-block.ensures.same);
      marked = refl;
    }
