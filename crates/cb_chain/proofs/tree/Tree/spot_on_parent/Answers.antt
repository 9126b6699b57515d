use Rattle.std.proofs.Common.{◌+◌, ◌≡◌, ◌∙◌, arith, ap, refl, sym, inl, inr, false}
use Rattle.std.specs.Prelude.{is_some, not, ◌&&◌}
use Rattle.cb_chain.specs.Keeping.{tree_of}
use Rattle.cb_chain.specs.Marking.{mark_at, index_of}
use Rattle.cb_chain.proofs.SideBranchIndexes.{fault_bare, fault_high, fault_marked, fault_none, has_asked, known_at, parent_known, parent_unknown, spot_at}
use Rattle.cb_chain.proofs.tree.Tree.spot_on_parent.Goals as goal
use Rattle.cb_chain.proofs.tree.Tree.spot_on_parent.Goals.{else-block-via-then-block+else-is_none, else-block-via-else-block}

-- src/accepting.rt:48:13
pub returns-in_default-clause-err : goal.returns-in_default-clause-err
returns-in_default-clause-err c =
    parent_unknown c.args.self.now.block_indexes (tree_of c.args.self.now.block_indexes) c.args.header.prev c.args.block refl (sym c.place.ensures.place ∙ c.in_default.is)

-- src/accepting.rt:52:13
pub returns-then-is_bad-clause-err : goal.returns-then-is_bad-clause-err
returns-then-is_bad-clause-err c =
    parent_known (tree_of c.args.self.now.block_indexes) c.args.header.prev (index_of c.block_index-block_index.result.now (mark_at c.args.self.now.block_indexes c.in-Some.parent)) c.args.block
    (known_at c.args.self.now.block_indexes (tree_of c.args.self.now.block_indexes) c.args.header.prev c.in-Some.parent (index_of c.block_index-block_index.result.now (mark_at c.args.self.now.block_indexes c.in-Some.parent)) c.block_index-block_index.ensures.tree refl (sym c.place.ensures.place ∙ c.in-Some.is) c.block_index-block_index.ensures.block_index)
    ∙ fault_marked (index_of c.block_index-block_index.result.now (mark_at c.args.self.now.block_indexes c.in-Some.parent)) c.args.block (sym c.is_bad.ensures ∙ c.if-is_bad.true)

-- src/accepting.rt:55:13
pub returns-then-is_none-clause-err : goal.returns-then-is_none-clause-err
returns-then-is_none-clause-err c =
    parent_known (tree_of c.args.self.now.block_indexes) c.args.header.prev (index_of c.block_index-block_index.result.now (mark_at c.args.self.now.block_indexes c.in-Some.parent)) c.args.block
    (known_at c.args.self.now.block_indexes (tree_of c.args.self.now.block_indexes) c.args.header.prev c.in-Some.parent (index_of c.block_index-block_index.result.now (mark_at c.args.self.now.block_indexes c.in-Some.parent)) c.block_index-block_index.ensures.tree refl (sym c.place.ensures.place ∙ c.in-Some.is) c.block_index-block_index.ensures.block_index)
    ∙ fault_bare (index_of c.block_index-block_index.result.now (mark_at c.args.self.now.block_indexes c.in-Some.parent)) c.args.block (sym c.is_bad.ensures ∙ c.if-is_bad.false) c.if-block.true (c.is_none.ensures ∙ ap not c.if-is_none.true)

-- src/accepting.rt:58:13
pub returns-then-block_index-ge-MOST_HEIGHT-clause-err : goal.returns-then-block_index-ge-MOST_HEIGHT-clause-err
returns-then-block_index-ge-MOST_HEIGHT-clause-err c =
    let asked : (c.args.block && not (is_some c.block_index-block_index.result.now.kept)) ≡ false =
    elim c.else-block.branch [
      | else-block-via-then-block+else-is_none w ↦ has_asked c.args.block (index_of c.block_index-block_index.result.now (mark_at c.args.self.now.block_indexes c.in-Some.parent)) (inr (w.is_none.ensures ∙ ap not w.if-is_none.false))
      | else-block-via-else-block w ↦ has_asked c.args.block (index_of c.block_index-block_index.result.now (mark_at c.args.self.now.block_indexes c.in-Some.parent)) (inl w.if-block.false)
    ]
    in
    parent_known (tree_of c.args.self.now.block_indexes) c.args.header.prev (index_of c.block_index-block_index.result.now (mark_at c.args.self.now.block_indexes c.in-Some.parent)) c.args.block
    (known_at c.args.self.now.block_indexes (tree_of c.args.self.now.block_indexes) c.args.header.prev c.in-Some.parent (index_of c.block_index-block_index.result.now (mark_at c.args.self.now.block_indexes c.in-Some.parent)) c.block_index-block_index.ensures.tree refl (sym c.place.ensures.place ∙ c.in-Some.is) c.block_index-block_index.ensures.block_index)
    ∙ fault_high (index_of c.block_index-block_index.result.now (mark_at c.args.self.now.block_indexes c.in-Some.parent)) c.args.block (sym c.is_bad.ensures ∙ c.if-is_bad.false) asked (omega arith)

-- src/accepting.rt:41:5
pub returns-clause-ok : goal.returns-clause-ok
returns-clause-ok c =
    spot_at c.args.self.now.block_indexes (tree_of c.args.self.now.block_indexes) c.args.header (record { header = c.args.header; hash = c.args.hash; parent = c.in-Some.parent; height = c.block_index-block_index.result.now.height + 1 }) (index_of c.block_index-block_index.result.now (mark_at c.args.self.now.block_indexes c.in-Some.parent))
    refl (sym c.place.ensures.place ∙ c.in-Some.is)
    (known_at c.args.self.now.block_indexes (tree_of c.args.self.now.block_indexes) c.args.header.prev c.in-Some.parent (index_of c.block_index-block_index.result.now (mark_at c.args.self.now.block_indexes c.in-Some.parent)) c.block_index-block_index.ensures.tree refl (sym c.place.ensures.place ∙ c.in-Some.is) c.block_index-block_index.ensures.block_index)
    refl c.requires refl c.if-block_index-ge-MOST_HEIGHT.false

-- src/accepting.rt:41:5
pub returns-clause-none : goal.returns-clause-none
returns-clause-none c =
    let asked : (c.args.block && not (is_some c.block_index-block_index.result.now.kept)) ≡ false =
    elim c.else-block.branch [
      | else-block-via-then-block+else-is_none w ↦ has_asked c.args.block (index_of c.block_index-block_index.result.now (mark_at c.args.self.now.block_indexes c.in-Some.parent)) (inr (w.is_none.ensures ∙ ap not w.if-is_none.false))
      | else-block-via-else-block w ↦ has_asked c.args.block (index_of c.block_index-block_index.result.now (mark_at c.args.self.now.block_indexes c.in-Some.parent)) (inl w.if-block.false)
    ]
    in
    parent_known (tree_of c.args.self.now.block_indexes) c.args.header.prev (index_of c.block_index-block_index.result.now (mark_at c.args.self.now.block_indexes c.in-Some.parent)) c.args.block
    (known_at c.args.self.now.block_indexes (tree_of c.args.self.now.block_indexes) c.args.header.prev c.in-Some.parent (index_of c.block_index-block_index.result.now (mark_at c.args.self.now.block_indexes c.in-Some.parent)) c.block_index-block_index.ensures.tree refl (sym c.place.ensures.place ∙ c.in-Some.is) c.block_index-block_index.ensures.block_index)
    ∙ fault_none (index_of c.block_index-block_index.result.now (mark_at c.args.self.now.block_indexes c.in-Some.parent)) c.args.block (sym c.is_bad.ensures ∙ c.if-is_bad.false) asked c.if-block_index-ge-MOST_HEIGHT.false
