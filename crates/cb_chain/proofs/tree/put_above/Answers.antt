use Rattle.std.proofs.Common.{◌≡◌, ◌∷◌, ◌++◌, [], get_or, true, false, sym, subst, ℕ}
use Rattle.std.specs.Prelude.{is_some}
use Rattle.std.proofs.Math.ListN.{set}
use Rattle.cb_chain.specs.Keeping.{AreLinks}
use Rattle.cb_chain.specs.Marking.{index_of}
use Rattle.cb_chain.proofs.Links.{links_block, links_header}
use Rattle.cb_chain.proofs.tree.put_above.Goals as goal

pub returns-then-is_none-clause-links : goal.returns-then-is_none-clause-links
returns-then-is_none-clause-links c = λ block_indexes elder marked at is one are.
    let unkept : is_some c.args.block_index.now.kept ≡ false = c.if-is_none.ensures in
    links_header block_indexes c.args.newest.now elder (index_of c.args.block_index.now marked) is are unkept

pub returns-clause-links : goal.returns-clause-links
returns-clause-links c = λ block_indexes elder marked at is one are.
    let kept : is_some c.args.block_index.now.kept ≡ true = c.if-is_none.ensures in
    let q = c.args.block_index.now.parent in
    let block_index = index_of c.args.block_index.now marked in
    subst (λ (n : ℕ). AreLinks (block_indexes ++ block_index ∷ []) (set c.args.newest.now q n ++ 0 ∷ []) (elder ++ get_or c.args.newest.now q 0 ∷ [])) (sym at)
    (links_block block_indexes c.args.newest.now elder block_index is are kept c.requires)
