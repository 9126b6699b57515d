use Rattle.std.proofs.Common.{◌≡◌, ℕ, ◌+◌, take, drop, map, Err, ◌⊎◌, ◌++◌, ◌∷◌, [], length, List, Option, ap, sym, subst, ◌∙◌, None, inl, inr, refl, ◌<◌, false}
use Rattle.std.proofs.lemmas.Result.{err_from_is_err_and}
use Rattle.std.specs.Prelude.{IfSome}
use Rattle.cb_base.specs.declared.fault.Fault.TheVariants.{Memory}
use Rattle.cb_block.specs.declared.block.Block.{Block}
use Rattle.cb_ledger.specs.Spend.{spend}
use Rattle.cb_ledger.specs.Undo.{LeadsBack}
use Rattle.cb_ledger.specs.Unspent.{Unspent}
use Rattle.cb_chain.specs.History.{IsHistoric}
use Rattle.cb_chain.specs.Keeping.{climb, tree_of}
use Rattle.cb_chain.specs.Plans.{Moved}
use Rattle.cb_chain.specs.SideBranches.{IsChain}
use Rattle.cb_chain.specs.declared.block_index.BareIndex.{BareIndex}
use Rattle.cb_chain.specs.Marking.{index_of}
use Rattle.cb_chain.specs.declared.side_branch.SideBranch.{SideBranch}
use Rattle.cb_chain.proofs.Ledgers.{rests_let_go, rests_still}
use Rattle.cb_chain.proofs.Outcomes.{IsEnd, IsStopped, moves, ready, stop_place, stop_tip, stops, tops_tip, why}
use Rattle.cb_chain.proofs.Starts.{chain_as, side_branches_low}
use Rattle.cb_chain.proofs.chain.Chain.extend.Goals as goal
use Rattle.cb_chain.proofs.chain.Chain.extend.Goals.{After-add, After-drop-branch}

-- memory is wanting
pub invariant_of-self : goal.invariant_of-self
invariant_of-self c =
    let was = c.self.inside in
    let unspent = was.ledger.unspent in (
      chain_as c.planned.new.tree.block_indexes was.tree.block_indexes was.active.items c.planned.new.active.items was.tree.undos c.planned.new.tree.undos unspent unspent was.side_branch was.side_branch c.planned.ensures.same c.planned.ensures.items c.planned.ensures.undos refl refl
          c.self.invariant.0,
      subst IsHistoric (sym (ap tree_of c.planned.ensures.same)) c.self.invariant.1,
    )

pub returns-in_err-fork-clause-err : goal.returns-in_err-fork-clause-err
returns-in_err-fork-clause-err c =
    let p = err_from_is_err_and c.from_residual.result c.from_residual.ensures.1 in
    rw (p.1, p.2) (inl (c.in_err-fork.ensures.memory, ap tree_of c.planned.ensures.same ∙ c.self.view_is))

pub returns-in_err-fork-clause-unchanged : goal.returns-in_err-fork-clause-unchanged
returns-in_err-fork-clause-unchanged c = λ _. ap tree_of c.planned.ensures.same ∙ c.self.view_is

-- the block is the tip
ended : (c : After-add) → IsEnd c.args.self.now (tree_of c.add.new.self.block_indexes) c.args.kept c.in_ok-fork.field-0.change c.put_on.new.active.items c.add.new.self.undos c.connect.new.self.unspent c.rest_on.result
ended c =
    let was = c.self.inside in
    let block_indexes = c.planned.new.tree.block_indexes in
    let undos = c.planned.new.tree.undos in
    let path = c.planned.new.active.items in
    let unspent = was.ledger.unspent in
    let block_index = index_of c.block_index-2.result false in
    let is =
    ready c.args.self.now was.tree.block_indexes block_indexes c.args.spot c.args.kept block_index was.active.items path was.tree.undos undos unspent was.side_branch c.self.view_is c.planned.ensures.same c.planned.ensures.tree c.self.invariant.0
    c.planned.ensures.items c.planned.ensures.undos c.requires.spot c.requires.none c.requires.higher (ap (λ (b : BareIndex). index_of b false) c.block_index-2.ensures) in
    let plan = c.in_ok-fork.field-0 in
    let after = c.connect.new.self.unspent in
    let leads : LeadsBack c.in-Ok.undo c.args.kept.txs unspent after = subst (λ (b : Block). LeadsBack c.in-Ok.undo b.txs unspent after) c.block.ensures.same c.in-Ok.ensures.undo in
    let tops = tops_tip c.args.self.now block_indexes c.args.spot c.args.kept block_index path undos unspent was.side_branch c.in-Ok.undo after is c.requires.tip leads in
    let moved : Moved (tree_of block_indexes) c.args.spot.header path (length block_indexes) c.put_on.new.active.items plan.change =
    record {
      fork = plan.fork;
      fork_is = c.in_ok-fork.ensures.fork;
      now_is = c.put_on.ensures ∙ ap (λ (ps : List ℕ). take (plan.fork + 1) path ++ ps ++ c.len-last.result ∷ []) c.in_ok-fork.ensures.branch ∙ ap (λ (n : ℕ). take (plan.fork + 1) path ++ map (λ step. step.place) (drop plan.fork (climb (tree_of block_indexes) c.args.spot.header.prev)) ++ n ∷ []) c.len-last.ensures.len;
      change_is = c.in_ok-fork.ensures.change;
    }
    in
    let kept = c.not_far_below-side_branch.result in
    let why_kept : (kept ≡ None) ⊎ (kept ≡ was.side_branch) = elim c.not_far_below-side_branch.ensures [ inl none ↦ inl none | inr same ↦ inr (same ∙ c.take.ensures.value) ] in
    let rest = rests_let_go path unspent after was.side_branch kept c.rest_on.result why_kept (rests_still path unspent after c.in-Ok.undo kept c.rest_on.result leads.back c.rest_on.ensures) in
    moves c.args.self.now block_indexes c.add.new.self.block_indexes c.args.spot c.args.kept block_index path c.put_on.new.active.items undos undos c.add.new.self.undos unspent after was.side_branch was.side_branch c.rest_on.result c.in-Ok.undo plan.change is is.chain c.requires.calls
    tops moved rest c.add.ensures.block_indexes c.add.ensures.undos

pub invariant_of-self-2 : goal.invariant_of-self-2
invariant_of-self-2 c = let end = ended c in (end.chain, end.historic)

pub returns-clause-ok : goal.returns-clause-ok
returns-clause-ok c = (ended c).answer

pub returns-clause-moves : goal.returns-clause-moves
returns-clause-moves c = (ended c).over

pub not_far_below-side_branch-requires-clause-side_branch : goal.not_far_below-side_branch-requires-clause-side_branch
not_far_below-side_branch-requires-clause-side_branch c =
    let was = c.self.inside in
    let block_indexes = c.planned.new.tree.block_indexes in
    let undos = c.planned.new.tree.undos in
    let chain =
    chain_as block_indexes was.tree.block_indexes was.active.items was.active.items was.tree.undos undos was.ledger.unspent was.ledger.unspent was.side_branch was.side_branch c.planned.ensures.same refl c.planned.ensures.undos refl refl c.self.invariant.0 in
    subst (λ (o : Option SideBranch). IfSome o (λ (side_branch : SideBranch). side_branch.end < length block_indexes)) (sym c.take.ensures.value) (side_branches_low block_indexes undos was.ledger.unspent was.side_branch c.planned.ensures.tree chain.side_branch_is)

pub mark_stop-requires-clause-place : goal.mark_stop-requires-clause-place
mark_stop-requires-clause-place c =
    let was = c.self.inside in
    let block_indexes = c.planned.new.tree.block_indexes in
    let undos = c.planned.new.tree.undos in
    let path = c.planned.new.active.items in
    let unspent = was.ledger.unspent in
    let block_index = index_of c.block_index.result false in
    let is =
    ready c.args.self.now was.tree.block_indexes block_indexes c.args.spot c.args.kept block_index was.active.items path was.tree.undos undos unspent was.side_branch c.self.view_is c.planned.ensures.same c.planned.ensures.tree c.self.invariant.0
    c.planned.ensures.items c.planned.ensures.undos c.requires.spot c.requires.none c.requires.higher (ap (λ (b : BareIndex). index_of b false) c.block_index.ensures) in
    let fault = c.in-Err.fault in
    let last = c.len-last.result in
    let told : (fault ≡ Memory) ⊎ (spend unspent c.args.kept.txs ≡ Err fault) = subst (λ (b : Block). (fault ≡ Memory) ⊎ (spend unspent b.txs ≡ Err fault)) c.block.ensures.same c.in-Err.ensures.exact in
    let stop = stop_tip c.args.self.now block_indexes c.args.spot c.args.kept block_index path undos unspent was.side_branch last fault is c.requires.tip told c.len-last.ensures.len in
    stop_place block_indexes c.args.kept block_index last fault (why c.args.self.now block_indexes c.args.spot c.args.kept block_index path undos unspent was.side_branch last fault is stop)

-- it can't be spent
stopped : (c : After-drop-branch) → IsStopped c.args.self.now (tree_of c.mark_stop.new.tree.block_indexes) c.args.kept c.in-Err.fault c.planned.new.active.items c.mark_stop.new.tree.undos c.self.inside.ledger.unspent c.self.inside.side_branch
stopped c =
    let was = c.self.inside in
    let block_indexes = c.planned.new.tree.block_indexes in
    let undos = c.planned.new.tree.undos in
    let path = c.planned.new.active.items in
    let unspent = was.ledger.unspent in
    let block_index = index_of c.block_index.result false in
    let is =
    ready c.args.self.now was.tree.block_indexes block_indexes c.args.spot c.args.kept block_index was.active.items path was.tree.undos undos unspent was.side_branch c.self.view_is c.planned.ensures.same c.planned.ensures.tree c.self.invariant.0
    c.planned.ensures.items c.planned.ensures.undos c.requires.spot c.requires.none c.requires.higher (ap (λ (b : BareIndex). index_of b false) c.block_index.ensures) in
    let fault = c.in-Err.fault in
    let last = c.len-last.result in
    let told : (fault ≡ Memory) ⊎ (spend unspent c.args.kept.txs ≡ Err fault) = subst (λ (b : Block). (fault ≡ Memory) ⊎ (spend unspent b.txs ≡ Err fault)) c.block.ensures.same c.in-Err.ensures.exact in
    let stop = stop_tip c.args.self.now block_indexes c.args.spot c.args.kept block_index path undos unspent was.side_branch last fault is c.requires.tip told c.len-last.ensures.len in
    stops c.args.self.now block_indexes c.mark_stop.new.tree.block_indexes c.args.spot c.args.kept block_index path undos undos c.mark_stop.new.tree.undos unspent was.side_branch was.side_branch last fault is is.chain (subst IsHistoric c.self.view_is c.self.invariant.1) c.requires.calls stop c.mark_stop.ensures

pub invariant_of-self-in-Err : goal.invariant_of-self-in-Err
invariant_of-self-in-Err c =
    let end = stopped c in
    (subst (λ (u : Unspent). IsChain (tree_of c.mark_stop.new.tree.block_indexes) c.planned.new.active.items c.mark_stop.new.tree.undos u c.self.inside.side_branch) (sym c.in-Err.ensures.err) end.chain, end.historic)

pub returns-in-Err-clause-err : goal.returns-in-Err-clause-err
returns-in-Err-clause-err c = (stopped c).answer

pub returns-in-Err-clause-unchanged : goal.returns-in-Err-clause-unchanged
returns-in-Err-clause-unchanged c = λ e.
    let memory : c.in-Err.fault ≡ Memory = cc in
    elim c.mark_stop.ensures [
      | inl same ↦ ap tree_of (same.1 ∙ c.planned.ensures.same) ∙ c.self.view_is
      | inr marked ↦ absurd (marked.0 memory)
    ]
