use Rattle.std.proofs.Common.{◌≡◌, ◌∷◌, ◌∙◌, Ok, ap, refl, sym, subst, false}
use Rattle.cb_chain.specs.declared.block_index.BareIndex.{BareIndex}
use Rattle.cb_chain.specs.Marking.{BlockIndex, index_of}
use Rattle.cb_chain.specs.Best.{best}
use Rattle.cb_chain.specs.Calls.{block_entry, no_change}
use Rattle.cb_chain.specs.Entries.{Entry}
use Rattle.cb_chain.specs.Keeping.{IsIndex, entry_from, tree_of}
use Rattle.cb_chain.proofs.SideBranchIndexes.{Grows, Joins, index_of_block, entry_on, grows_tree, joined_aside, joins_aside, joins_higher, low_best, over_aside}
use Rattle.cb_chain.proofs.Histories.{historic_after}
use Rattle.cb_chain.proofs.Undos.{grows_chain}
use Rattle.cb_chain.proofs.chain.Chain.join.Goals as goal

pub lead-requires-clause-higher : goal.lead-requires-clause-higher
lead-requires-clause-higher c =
    let joins : Joins c.args.self.now c.args.kept c.args.spot c.tip_height.result = record { spot_is = c.requires.spot; none = c.requires.none; kept = c.requires.tip; height = c.tip_height.ensures } in
    joins_higher c.args.self.now c.args.kept c.args.spot c.tip_height.result joins c.if-spot-tip_height.true

pub invariant_of-self-2 : goal.invariant_of-self-2
invariant_of-self-2 c =
    let joins : Joins c.args.self.now c.args.kept c.args.spot c.tip_height.result = record { spot_is = c.requires.spot; none = c.requires.none; kept = c.requires.tip; height = c.tip_height.ensures } in
    let one : IsIndex (index_of c.block_index.result false) c.args.self.now = subst (λ (n : BlockIndex). IsIndex n c.args.self.now) (sym (ap (λ (b : BareIndex). index_of b false) c.block_index.ensures)) (index_of_block c.args.spot c.args.kept c.args.self.now c.requires.spot c.requires.none) in
    let grows : Grows c.self.inside.tree.block_indexes c.reserve.new.self.block_indexes c.args.self.now (index_of c.block_index.result false) =
    record { is = c.in_ok-reserve.ensures.tree; same = c.in_ok-reserve.ensures.same; view = c.self.view_is; one = one }
    in
    let entry : block_entry c.args.kept ≡ entry_from (index_of c.block_index.result false) = sym (ap entry_from (ap (λ (b : BareIndex). index_of b false) c.block_index.ensures) ∙ entry_on c.args.spot c.args.kept c.requires.spot.header) in
    let low = joins_aside c.args.self.now c.args.kept c.args.spot c.tip_height.result joins c.if-spot-tip_height.false in
    let stays = subst (λ (e : Entry). best (e ∷ c.args.self.now) ≡ best c.args.self.now) entry (low_best (block_entry c.args.kept) c.args.self.now low) in
    let grown : tree_of c.add.new.self.block_indexes ≡ block_entry c.args.kept ∷ c.args.self.now =
    grows_tree c.self.inside.tree.block_indexes c.reserve.new.self.block_indexes c.add.new.self.block_indexes c.args.self.now (index_of c.block_index.result false) grows c.add.ensures.block_indexes ∙ ap (λ (e : Entry). e ∷ c.args.self.now) (sym entry)
    in (
      grows_chain c.self.inside.tree.block_indexes c.reserve.new.self.block_indexes c.add.new.self.block_indexes c.args.self.now (index_of c.block_index.result false) c.self.inside.active.items c.self.inside.tree.undos c.reserve.new.self.undos c.add.new.self.undos
          c.self.inside.ledger.unspent c.self.inside.side_branch grows c.add.ensures.block_indexes c.in_ok-reserve.ensures.undos c.add.ensures.undos stays c.self.invariant.0,
      historic_after c.args.self.now (tree_of c.add.new.self.block_indexes) c.args.kept (Ok no_change) c.requires.calls
          (sym (joined_aside c.args.self.now (tree_of c.add.new.self.block_indexes) c.args.kept no_change low grown refl)),
    )

pub returns-clause-ok : goal.returns-clause-ok
returns-clause-ok c =
    let joins : Joins c.args.self.now c.args.kept c.args.spot c.tip_height.result = record { spot_is = c.requires.spot; none = c.requires.none; kept = c.requires.tip; height = c.tip_height.ensures } in
    let one : IsIndex (index_of c.block_index.result false) c.args.self.now = subst (λ (n : BlockIndex). IsIndex n c.args.self.now) (sym (ap (λ (b : BareIndex). index_of b false) c.block_index.ensures)) (index_of_block c.args.spot c.args.kept c.args.self.now c.requires.spot c.requires.none) in
    let grows : Grows c.self.inside.tree.block_indexes c.reserve.new.self.block_indexes c.args.self.now (index_of c.block_index.result false) =
    record { is = c.in_ok-reserve.ensures.tree; same = c.in_ok-reserve.ensures.same; view = c.self.view_is; one = one }
    in
    let entry : entry_from (index_of c.block_index.result false) ≡ block_entry c.args.kept = ap entry_from (ap (λ (b : BareIndex). index_of b false) c.block_index.ensures) ∙ entry_on c.args.spot c.args.kept c.requires.spot.header in
    let low = joins_aside c.args.self.now c.args.kept c.args.spot c.tip_height.result joins c.if-spot-tip_height.false in
    sym (joined_aside c.args.self.now (tree_of c.add.new.self.block_indexes) c.args.kept (record { off = c.new-2.result; on = c.new-4.result }) low
    (grows_tree c.self.inside.tree.block_indexes c.reserve.new.self.block_indexes c.add.new.self.block_indexes c.args.self.now (index_of c.block_index.result false) grows c.add.ensures.block_indexes ∙ ap (λ (e : Entry). e ∷ c.args.self.now) entry)
    (rw (c.new-2.ensures, c.new.ensures.items, c.new-4.ensures, c.new-3.ensures.items) refl))

pub returns-clause-moves : goal.returns-clause-moves
returns-clause-moves c =
    let joins : Joins c.args.self.now c.args.kept c.args.spot c.tip_height.result = record { spot_is = c.requires.spot; none = c.requires.none; kept = c.requires.tip; height = c.tip_height.ensures } in
    let one : IsIndex (index_of c.block_index.result false) c.args.self.now = subst (λ (n : BlockIndex). IsIndex n c.args.self.now) (sym (ap (λ (b : BareIndex). index_of b false) c.block_index.ensures)) (index_of_block c.args.spot c.args.kept c.args.self.now c.requires.spot c.requires.none) in
    let grows : Grows c.self.inside.tree.block_indexes c.reserve.new.self.block_indexes c.args.self.now (index_of c.block_index.result false) =
    record { is = c.in_ok-reserve.ensures.tree; same = c.in_ok-reserve.ensures.same; view = c.self.view_is; one = one }
    in
    let entry : entry_from (index_of c.block_index.result false) ≡ block_entry c.args.kept = ap entry_from (ap (λ (b : BareIndex). index_of b false) c.block_index.ensures) ∙ entry_on c.args.spot c.args.kept c.requires.spot.header in
    over_aside c.args.self.now (tree_of c.add.new.self.block_indexes) c.args.kept c.args.spot c.tip_height.result (record { off = c.new-2.result; on = c.new-4.result }) joins c.if-spot-tip_height.false
    (grows_tree c.self.inside.tree.block_indexes c.reserve.new.self.block_indexes c.add.new.self.block_indexes c.args.self.now (index_of c.block_index.result false) grows c.add.ensures.block_indexes ∙ ap (λ (e : Entry). e ∷ c.args.self.now) entry)
    (rw (c.new-2.ensures, c.new.ensures.items, c.new-4.ensures, c.new-3.ensures.items) refl)
