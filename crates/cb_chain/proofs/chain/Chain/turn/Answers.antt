use Rattle.std.proofs.Common.{◌≡◌, ◌-◌, ◌<◌, ◌⊎◌, ◌++◌, ◌∷◌, [], length, List, Some, inl, inr, refl, ap, sym, subst, ◌∙◌, arith, false}
use Rattle.std.proofs.lemmas.Result.{err_from_is_err_and}
use Rattle.std.specs.Prelude.{IsSome}
use Rattle.cb_base.specs.declared.fault.Fault.TheVariants.{Memory}
use Rattle.cb_chain.specs.declared.block_index.BareIndex.{BareIndex}
use Rattle.cb_chain.specs.Marking.{BlockIndex, index_of}
use Rattle.cb_chain.specs.Best.{best}
use Rattle.cb_chain.specs.Entries.{Tree}
use Rattle.cb_chain.specs.History.{IsHistoric}
use Rattle.cb_chain.specs.Keeping.{IsTree, active_places, block_at, place_of, tree_of}
use Rattle.cb_chain.specs.Plans.{Moved}
use Rattle.cb_chain.specs.SideBranches.{Tops}
use Rattle.cb_chain.proofs.Outcomes.{IsEnd, IsStopped, MarkedFrom, moves, ready, stop_place, stops, why}
use Rattle.cb_chain.proofs.Planning.{place_low}
use Rattle.cb_chain.proofs.Starts.{chain_as, kept_chain, side_branches_low, starts, tip_at, tried_chain}
use Rattle.cb_chain.proofs.chain.Chain.turn.Goals as goal

-- memory is wanting before it is tried
pub invariant_of-self : goal.invariant_of-self
invariant_of-self c =
    let was = c.self.inside in
    let path = was.active.items in
    let unspent = was.ledger.unspent in (
      chain_as c.reserve.new.self.block_indexes was.tree.block_indexes path path was.tree.undos c.reserve.new.self.undos unspent unspent was.side_branch was.side_branch c.reserve.ensures.same refl c.reserve.ensures.undos refl refl c.self.invariant.0,
      subst IsHistoric (sym (ap tree_of c.reserve.ensures.same)) c.self.invariant.1,
    )

pub returns-in_err-reserve-clause-err : goal.returns-in_err-reserve-clause-err
returns-in_err-reserve-clause-err c =
    let p = err_from_is_err_and c.from_residual.result c.from_residual.ensures.1 in rw (p.1, p.2) (inl (c.in_err-reserve.ensures.memory, ap tree_of c.reserve.ensures.same ∙ c.self.view_is))

pub returns-in_err-reserve-clause-unchanged : goal.returns-in_err-reserve-clause-unchanged
returns-in_err-reserve-clause-unchanged c = λ _. ap tree_of c.reserve.ensures.same ∙ c.self.view_is

pub starts_from-side_branch-requires-clause-tip : goal.starts_from-side_branch-requires-clause-tip
starts_from-side_branch-requires-clause-tip c =
    let was = c.self.inside in
    let block_indexes = c.reserve.new.self.block_indexes in
    let undos = c.reserve.new.self.undos in
    let path = was.active.items in
    let unspent = was.ledger.unspent in
    let chain = chain_as block_indexes was.tree.block_indexes path path was.tree.undos undos unspent unspent was.side_branch was.side_branch c.reserve.ensures.same refl c.reserve.ensures.undos refl refl c.self.invariant.0 in
    let tip = tip_at (tree_of block_indexes) path (c.len.result - 1) c.index-tip.result.now chain.places (omega (arith, c.len.ensures, was.active.ok.0)) c.index-tip.ensures in
    place_low block_indexes (best (tree_of block_indexes)) c.index-tip.result.now c.reserve.ensures.tree tip

pub starts_from-side_branch-requires-clause-parent : goal.starts_from-side_branch-requires-clause-parent
starts_from-side_branch-requires-clause-parent c =
    let prev = c.args.kept.header.prev in
    let view : c.args.self.now ≡ tree_of c.reserve.new.self.block_indexes = sym c.self.view_is ∙ ap tree_of (sym c.reserve.ensures.same) in
    place_low c.reserve.new.self.block_indexes prev c.args.spot.parent c.reserve.ensures.tree (subst (λ (t : Tree). place_of t prev ≡ Some c.args.spot.parent) view c.requires.spot.parent)

pub starts_from-side_branch-requires-clause-side_branch : goal.starts_from-side_branch-requires-clause-side_branch
starts_from-side_branch-requires-clause-side_branch c =
    let was = c.self.inside in
    let block_indexes = c.reserve.new.self.block_indexes in
    let undos = c.reserve.new.self.undos in
    let path = was.active.items in
    let unspent = was.ledger.unspent in
    let chain = chain_as block_indexes was.tree.block_indexes path path was.tree.undos undos unspent unspent was.side_branch was.side_branch c.reserve.ensures.same refl c.reserve.ensures.undos refl refl c.self.invariant.0 in
    side_branches_low block_indexes undos unspent was.side_branch c.reserve.ensures.tree chain.side_branch_is

pub try_on-tried-requires-clause-side_branch : goal.try_on-tried-requires-clause-side_branch
try_on-tried-requires-clause-side_branch c =
    let was = c.self.inside in
    let block_indexes = c.reserve.new.self.block_indexes in
    let undos = c.reserve.new.self.undos in
    let path = was.active.items in
    let unspent = was.ledger.unspent in
    let chain = chain_as block_indexes was.tree.block_indexes path path was.tree.undos undos unspent unspent was.side_branch was.side_branch c.reserve.ensures.same refl c.reserve.ensures.undos refl refl c.self.invariant.0 in
    let tip = tip_at (tree_of block_indexes) path (c.len.result - 1) c.index-tip.result.now chain.places (omega (arith, c.len.ensures, was.active.ok.0)) c.index-tip.ensures in
    starts (tree_of block_indexes) path undos unspent was.side_branch c.starts_from-side_branch.result c.index-tip.result.now chain tip c.starts_from-side_branch.ensures.from

pub mark_stop-requires-clause-place : goal.mark_stop-requires-clause-place
mark_stop-requires-clause-place c =
    let was = c.self.inside in
    let block_indexes = c.reserve.new.self.block_indexes in
    let undos = c.reserve.new.self.undos in
    let path = was.active.items in
    let unspent = was.ledger.unspent in
    let block_index = index_of c.block_index.result false in
    let is =
    ready c.args.self.now was.tree.block_indexes block_indexes c.args.spot c.args.kept block_index path path was.tree.undos undos unspent was.side_branch c.self.view_is c.reserve.ensures.same c.reserve.ensures.tree c.self.invariant.0 refl c.reserve.ensures.undos
    c.requires.spot c.requires.none c.requires.higher (ap (λ (b : BareIndex). index_of b false) c.block_index.ensures) in
    let place = c.in-Err.stop.place in
    let fault = c.in-Err.stop.fault in
    subst (λ (ns : List BlockIndex). (fault ≡ Memory) ⊎ ((0 < place) × IsSome (block_at (ns ++ block_index ∷ []) place))) (sym c.try_on-tried.ensures.block_indexes)
    (stop_place block_indexes c.args.kept block_index place fault (why c.args.self.now block_indexes c.args.spot c.args.kept block_index path undos unspent was.side_branch place fault is c.in-Err.ensures.err))

-- its path stops
stopped : (c : goal.After-mark_stop) → IsStopped c.args.self.now (tree_of c.mark_stop.new.tree.block_indexes) c.args.kept c.in-Err.stop.fault c.self.inside.active.items c.mark_stop.new.tree.undos c.self.inside.ledger.unspent c.keep_side_branch.new.side_branch
stopped c =
    let was = c.self.inside in
    let block_indexes = c.reserve.new.self.block_indexes in
    let undos = c.reserve.new.self.undos in
    let path = was.active.items in
    let unspent = was.ledger.unspent in
    let chain = chain_as block_indexes was.tree.block_indexes path path was.tree.undos undos unspent unspent was.side_branch was.side_branch c.reserve.ensures.same refl c.reserve.ensures.undos refl refl c.self.invariant.0 in
    let block_index = index_of c.block_index.result false in
    let is =
    ready c.args.self.now was.tree.block_indexes block_indexes c.args.spot c.args.kept block_index path path was.tree.undos undos unspent was.side_branch c.self.view_is c.reserve.ensures.same c.reserve.ensures.tree c.self.invariant.0 refl c.reserve.ensures.undos
    c.requires.spot c.requires.none c.requires.higher (ap (λ (b : BareIndex). index_of b false) c.block_index.ensures) in
    let tried = c.try_on-tried.new.tree.undos in
    let last = c.starts_from-side_branch.new.side_branch in
    let same : c.try_on-tried.new.tree.block_indexes ≡ block_indexes = c.try_on-tried.ensures.block_indexes in
    let more = tried_chain block_indexes c.try_on-tried.new.tree.block_indexes path undos tried unspent was.side_branch last chain same c.try_on-tried.ensures.undos c.try_on-tried.ensures.records c.starts_from-side_branch.ensures.side_branch in
    let place = c.in-Err.stop.place in
    let fault = c.in-Err.stop.fault in
    let kept = c.keep_side_branch.new.side_branch in
    let with_it = kept_chain block_indexes c.try_on-tried.new.tree.block_indexes path tried unspent last kept c.try_on-tried.new.self more same c.in-Err.ensures.side_branch c.keep_side_branch.ensures in
    let marks = subst (λ (ns : List BlockIndex). MarkedFrom ns block_index tried place fault c.mark_stop.new.tree.block_indexes c.mark_stop.new.tree.undos) same c.mark_stop.ensures in
    stops c.args.self.now block_indexes c.mark_stop.new.tree.block_indexes c.args.spot c.args.kept block_index path undos tried c.mark_stop.new.tree.undos unspent was.side_branch kept place fault is with_it (subst IsHistoric c.self.view_is c.self.invariant.1) c.requires.calls
    c.in-Err.ensures.err marks

pub invariant_of-self-in-Err : goal.invariant_of-self-in-Err
invariant_of-self-in-Err c = let end = stopped c in (end.chain, end.historic)

pub returns-in-Err-clause-err : goal.returns-in-Err-clause-err
returns-in-Err-clause-err c = (stopped c).answer

pub returns-in-Err-clause-unchanged : goal.returns-in-Err-clause-unchanged
returns-in-Err-clause-unchanged c = λ e.
    let memory : c.in-Err.stop.fault ≡ Memory = cc in
    elim c.mark_stop.ensures [
      | inl same ↦ ap tree_of (same.1 ∙ c.try_on-tried.ensures.block_indexes ∙ c.reserve.ensures.same) ∙ c.self.view_is
      | inr marked ↦ absurd (marked.0 memory)
    ]

pub switch-requires-clause-tree : goal.switch-requires-clause-tree
switch-requires-clause-tree c = subst IsTree (sym c.try_on-tried.ensures.block_indexes) c.reserve.ensures.tree

pub switch-requires-clause-active : goal.switch-requires-clause-active
switch-requires-clause-active c = c.self.invariant.0.places ∙ ap (λ (ns : List BlockIndex). active_places (tree_of ns)) (sym (c.try_on-tried.ensures.block_indexes ∙ c.reserve.ensures.same))

-- memory is wanting once it was tried
pub invariant_of-self-in_err-change : goal.invariant_of-self-in_err-change
invariant_of-self-in_err-change c =
    let was = c.self.inside in
    let block_indexes = c.reserve.new.self.block_indexes in
    let undos = c.reserve.new.self.undos in
    let path = was.active.items in
    let unspent = was.ledger.unspent in
    let chain = chain_as block_indexes was.tree.block_indexes path path was.tree.undos undos unspent unspent was.side_branch was.side_branch c.reserve.ensures.same refl c.reserve.ensures.undos refl refl c.self.invariant.0 in
    let tried = c.try_on-tried.new.tree.undos in
    let last = c.starts_from-side_branch.new.side_branch in
    let same : c.try_on-tried.new.tree.block_indexes ≡ block_indexes = c.try_on-tried.ensures.block_indexes in
    let more = tried_chain block_indexes c.try_on-tried.new.tree.block_indexes path undos tried unspent was.side_branch last chain same c.try_on-tried.ensures.undos c.try_on-tried.ensures.records c.starts_from-side_branch.ensures.side_branch in
    let kept = c.in_err-change.ensures.same in (
      chain_as c.try_on-tried.new.tree.block_indexes block_indexes path c.switch.new.active.items tried tried unspent c.switch.new.ledger.unspent last c.switch.new.side_branch same kept.0 refl kept.1 kept.2 more,
      subst IsHistoric (sym (ap tree_of (same ∙ c.reserve.ensures.same))) c.self.invariant.1,
    )

pub returns-in_err-change-clause-err : goal.returns-in_err-change-clause-err
returns-in_err-change-clause-err c =
    let p = err_from_is_err_and c.from_residual-in_err-change.result c.from_residual-in_err-change.ensures.1 in
    rw (p.1, p.2) (inl (c.in_err-change.ensures.memory, ap tree_of (c.try_on-tried.ensures.block_indexes ∙ c.reserve.ensures.same) ∙ c.self.view_is))

pub returns-in_err-change-clause-unchanged : goal.returns-in_err-change-clause-unchanged
returns-in_err-change-clause-unchanged c = λ _. ap tree_of (c.try_on-tried.ensures.block_indexes ∙ c.reserve.ensures.same) ∙ c.self.view_is

-- the chain moves
ended : (c : goal.After-add) → IsEnd c.args.self.now (tree_of c.add.new.self.block_indexes) c.args.kept c.in_ok-change.change c.switch.new.active.items c.add.new.self.undos c.switch.new.ledger.unspent c.switch.new.side_branch
ended c =
    let was = c.self.inside in
    let block_indexes = c.reserve.new.self.block_indexes in
    let undos = c.reserve.new.self.undos in
    let path = was.active.items in
    let unspent = was.ledger.unspent in
    let chain = chain_as block_indexes was.tree.block_indexes path path was.tree.undos undos unspent unspent was.side_branch was.side_branch c.reserve.ensures.same refl c.reserve.ensures.undos refl refl c.self.invariant.0 in
    let block_index = index_of c.block_index-2.result false in
    let is =
    ready c.args.self.now was.tree.block_indexes block_indexes c.args.spot c.args.kept block_index path path was.tree.undos undos unspent was.side_branch c.self.view_is c.reserve.ensures.same c.reserve.ensures.tree c.self.invariant.0 refl c.reserve.ensures.undos
    c.requires.spot c.requires.none c.requires.higher (ap (λ (b : BareIndex). index_of b false) c.block_index-2.ensures) in
    let tried = c.try_on-tried.new.tree.undos in
    let last = c.starts_from-side_branch.new.side_branch in
    let same : c.try_on-tried.new.tree.block_indexes ≡ block_indexes = c.try_on-tried.ensures.block_indexes in
    let more = tried_chain block_indexes c.try_on-tried.new.tree.block_indexes path undos tried unspent was.side_branch last chain same c.try_on-tried.ensures.undos c.try_on-tried.ensures.records c.starts_from-side_branch.ensures.side_branch in
    let now = c.switch.new.active.items in
    let after = c.switch.new.ledger.unspent in
    let change = c.in_ok-change.change in
    let tops = subst (Tops (tree_of block_indexes) tried c.args.kept c.in-Ok.undo) (sym c.in_ok-change.ensures.ledger) c.in-Ok.ensures.ok in
    let moved = subst (λ (ns : List BlockIndex). Moved (tree_of ns) c.args.spot.header path (length ns) now change) same c.in_ok-change.ensures.moved in
    moves c.args.self.now block_indexes c.add.new.self.block_indexes c.args.spot c.args.kept block_index path now undos tried c.add.new.self.undos unspent after was.side_branch last c.switch.new.side_branch c.in-Ok.undo change is more c.requires.calls
    tops moved c.in_ok-change.ensures.side_branch (c.add.ensures.block_indexes ∙ ap (λ (ns : List BlockIndex). ns ++ block_index ∷ []) same) c.add.ensures.undos

pub invariant_of-self-2 : goal.invariant_of-self-2
invariant_of-self-2 c = let end = ended c in (end.chain, end.historic)

pub returns-clause-ok : goal.returns-clause-ok
returns-clause-ok c = (ended c).answer

pub returns-clause-moves : goal.returns-clause-moves
returns-clause-moves c = (ended c).over
