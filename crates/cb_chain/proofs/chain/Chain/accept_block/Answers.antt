use Rattle.std.proofs.Common.{rules, ◌≡◌, ◌∷◌, ◌++◌, [], ◌∙◌, IfErr, IfOk, Ok, Err, Result, ap, inl, inr, refl, sym, subst, None, Some, Bool, true, false, cond, not, ◌≢◌}
use Rattle.std.proofs.lemmas.Result.{err_from_is_err_and}
use Rattle.std.specs.Prelude.{◌⊎◌, slice_index_or}
use Rattle.cb_base.specs.declared.fault.Fault.{Fault}
use Rattle.cb_base.specs.declared.fault.Fault.TheVariants.{BadParent, BadWork, Known, Memory, NoParent, TooMany}
use Rattle.cb_block.specs.declared.block.Block.{Block}
use Rattle.cb_block.specs.declared.header.Header.{Header}
use Rattle.cb_block.specs.Blocks.{MeetsBlockRules}
use Rattle.cb_block.specs.Work.{HasWork}
use Rattle.cb_ledger.proofs.Lengths.{few_outputs}
use Rattle.cb_chain.specs.declared.change.Change.{Change}
use Rattle.cb_chain.specs.declared.block_index.BareIndex.{BareIndex}
use Rattle.cb_chain.specs.Marking.{BlockIndex, index_of}
use Rattle.cb_chain.specs.Calls.AcceptsBlock.{meets_rules, refused, without_work}
use Rattle.cb_chain.specs.Calls.{AcceptsBlock, bad_entry, block_fault, is_full_under, joined}
use Rattle.cb_chain.specs.Entries.{Entry, Tree, block_hash, is_kept, is_marked}
use Rattle.cb_chain.specs.History.{IsHistoric, IsHistory}
use Rattle.cb_chain.specs.SideBranches.{IsChain}
use Rattle.cb_chain.specs.Laws.{Stays}
use Rattle.cb_chain.specs.Keeping.{IsIndex, IsSpot, entry_from, tree_of}
use Rattle.cb_chain.proofs.SideBranchIndexes.{Grows, bad_on, bare_best, bare_index, block_free, grows_tree, told_broken, told_refused}
use Rattle.cb_chain.proofs.Histories.{historic_block, historic_joined, history_block, history_joined}
use Rattle.cb_chain.proofs.Reached.{planted_after}
use Rattle.cb_chain.proofs.Starts.{chain_as}
use Rattle.cb_chain.proofs.Stays.{block_stays, join_leads, join_stays}
use Rattle.cb_chain.proofs.Undos.{grows_chain}
use Rattle.cb_chain.proofs.chain.Chain.accept_block.Goals as goal
use Rattle.cb_chain.proofs.chain.Chain.accept_block.Goals.{After-mark_header}

-- its header has no work
pub returns-in_err-hash-clause-err : goal.returns-in_err-hash-clause-err
returns-in_err-hash-clause-err c =
    let header : c.block-2.result.now.header ≡ c.args.block.header = ap (λ (b : Block). b.header) c.block-2.ensures.same in
    let p = err_from_is_err_and c.from_residual.result c.from_residual.ensures.1 in
    let w = c.in_err-hash.ensures in
    rw (p.1, p.2) (inr (without_work (λ has. w.1 (subst HasWork (sym header) has)) (ap Err w.0) refl))

pub returns-in_err-hash-clause-history : goal.returns-in_err-hash-clause-history
returns-in_err-hash-clause-history c =
    let header : c.block-2.result.now.header ≡ c.args.block.header = ap (λ (b : Block). b.header) c.block-2.ensures.same in
    let p = err_from_is_err_and c.from_residual.result c.from_residual.ensures.1 in
    let w = c.in_err-hash.ensures in
    history_block c.args.self.now c.args.block c.from_residual.result c.in_err-hash.field-0.0 (p.1 ∙ ap Err p.2) c.block-2.ensures.sound (without_work (λ has. w.1 (subst HasWork (sym header) has)) (ap Err w.0) refl)

pub returns-in_err-hash-clause-unchanged : goal.returns-in_err-hash-clause-unchanged
returns-in_err-hash-clause-unchanged c = λ _. refl

pub returns-in_err-hash-clause-unpaid : goal.returns-in_err-hash-clause-unpaid
returns-in_err-hash-clause-unpaid c = λ memory.
    let p = err_from_is_err_and c.from_residual.result c.from_residual.ensures.1 in
    absurd (let clash : BadWork ≡ Memory = cc (p.1, p.2, c.in_err-hash.ensures.0) in cc)

-- something speaks against it, which isn't want of memory
never_memory : (marked kept on_bad orphan full : Bool) → cond marked (Some BadParent) (cond kept (Some Known) (cond on_bad (Some BadParent) (cond orphan (Some NoParent) (cond full (Some TooMany) None)))) ≢ Some Memory
never_memory true kept on_bad orphan full is = let clash : Some BadParent ≡ Some Memory = is in cc
never_memory false true on_bad orphan full is = let clash : Some Known ≡ Some Memory = is in cc
never_memory false false true orphan full is = let clash : Some BadParent ≡ Some Memory = is in cc
never_memory false false false true full is = let clash : Some NoParent ≡ Some Memory = is in cc
never_memory false false false false true is = let clash : Some TooMany ≡ Some Memory = is in cc
never_memory false false false false false is = let clash : Some Memory ≡ None = sym is in cc

pub returns-in_err-spot-clause-err : goal.returns-in_err-spot-clause-err
returns-in_err-spot-clause-err c =
    let header : c.block-2.result.now.header ≡ c.args.block.header = ap (λ (b : Block). b.header) c.block-2.ensures.same in
    let has : HasWork c.block-2.result.now.header = c.in_ok-hash.ensures.1 in
    let none : block_fault c.args.self.now c.block-2.result.now.header ≡ Some c.in_err-spot.field-0.0 = c.in_err-spot.ensures.err in
    let p = err_from_is_err_and c.from_residual-in_err-spot.result c.from_residual-in_err-spot.ensures.1 in
    told_refused c.args.self.now c.args.block c.from_residual-in_err-spot.result c.in_err-spot.field-0.0 (p.1 ∙ ap Err p.2) (subst HasWork header has)
    (subst (λ (h : Header). block_fault c.args.self.now h ≡ Some c.in_err-spot.field-0.0) header none)

pub returns-in_err-spot-clause-history : goal.returns-in_err-spot-clause-history
returns-in_err-spot-clause-history c =
    let header : c.block-2.result.now.header ≡ c.args.block.header = ap (λ (b : Block). b.header) c.block-2.ensures.same in
    let has : HasWork c.block-2.result.now.header = c.in_ok-hash.ensures.1 in
    let none : block_fault c.args.self.now c.block-2.result.now.header ≡ Some c.in_err-spot.field-0.0 = c.in_err-spot.ensures.err in
    let p = err_from_is_err_and c.from_residual-in_err-spot.result c.from_residual-in_err-spot.ensures.1 in
    history_block c.args.self.now c.args.block c.from_residual-in_err-spot.result c.in_err-spot.field-0.0 (p.1 ∙ ap Err p.2) c.block-2.ensures.sound
    (refused (subst HasWork header has) c.in_err-spot.field-0.0 (subst (λ (h : Header). block_fault c.args.self.now h ≡ Some c.in_err-spot.field-0.0) header none) refl refl)

pub returns-in_err-spot-clause-unchanged : goal.returns-in_err-spot-clause-unchanged
returns-in_err-spot-clause-unchanged c = λ _. refl

pub returns-in_err-spot-clause-unpaid : goal.returns-in_err-spot-clause-unpaid
returns-in_err-spot-clause-unpaid c = λ memory.
    let p = err_from_is_err_and c.from_residual-in_err-spot.result c.from_residual-in_err-spot.ensures.1 in
    let same : c.in_err-spot.field-0.0 ≡ Memory = cc (p.1, p.2) in
    let tree = c.args.self.now in
    let header = c.block-2.result.now.header in
    let hash = block_hash header in
    absurd (never_memory (is_marked tree hash) (is_kept tree hash) (is_marked tree header.prev) (not (is_kept tree header.prev)) (is_full_under tree header.prev) (c.in_err-spot.ensures.err ∙ ap Some same))

pub new-requires : goal.new-requires
new-requires c = λ k d lt. few_outputs (slice_index_or c.args.block.txs k d) (c.in-Ok.ensures.exact.txs k d lt)

pub join-requires-clause-calls : goal.join-requires-clause-calls
join-requires-clause-calls c =
    let header : c.block-2.result.now.header ≡ c.args.block.header = ap (λ (b : Block). b.header) c.block-2.ensures.same in
    let has : HasWork c.block-2.result.now.header = c.in_ok-hash.ensures.1 in
    let none : block_fault c.args.self.now c.block-2.result.now.header ≡ None = c.in_ok-spot.ensures.none in
    subst (λ (b : Block). IsHistoric (joined c.args.self.now b).1) (sym c.new.ensures)
    (historic_joined c.args.self.now c.args.block c.block-2.ensures.sound (subst HasWork header has) (subst (λ (h : Header). block_fault c.args.self.now h ≡ None) header none) c.in-Ok.ensures.exact
    (subst IsHistoric c.self.view_is c.self.invariant.1))

-- what a block that joins is told
joined_ok : (old new : Tree) (block : Block) (result : Result Change Fault) → HasWork block.header → block_fault old block.header ≡ None → MeetsBlockRules block → IfOk result (λ change. (Ok change, new) ≡ joined old block)
    → IfOk result (λ change. AcceptsBlock old block (Ok change) new)
joined_ok old new block (Ok change) work none rules ok = meets_rules work none rules ok
joined_ok old new block (Err fault) work none rules ok = tt

joined_err : (old new : Tree) (block : Block) (result : Result Change Fault) → HasWork block.header → block_fault old block.header ≡ None → MeetsBlockRules block
    → IfErr result (λ fault. ((fault ≡ Memory) × (new ≡ old)) ⊎ ((Err fault, new) ≡ joined old block)) → IfErr result (λ fault. ((fault ≡ Memory) × (new ≡ old)) ⊎ AcceptsBlock old block (Err fault) new)
joined_err old new block (Ok change) work none rules err = tt
joined_err old new block (Err fault) work none rules (inl same) = inl same
joined_err old new block (Err fault) work none rules (inr e) = inr (meets_rules work none rules e)

pub returns-in-Ok-clause-ok : goal.returns-in-Ok-clause-ok
returns-in-Ok-clause-ok c =
    let header : c.block-2.result.now.header ≡ c.args.block.header = ap (λ (b : Block). b.header) c.block-2.ensures.same in
    let has : HasWork c.block-2.result.now.header = c.in_ok-hash.ensures.1 in
    let none : block_fault c.args.self.now c.block-2.result.now.header ≡ None = c.in_ok-spot.ensures.none in
    joined_ok c.args.self.now c.join.new.self c.args.block c.join.result (subst HasWork header has) (subst (λ (h : Header). block_fault c.args.self.now h ≡ None) header none) c.in-Ok.ensures.exact
    (subst (λ (b : Block). IfOk c.join.result (λ change. (Ok change, c.join.new.self) ≡ joined c.args.self.now b)) c.new.ensures c.join.ensures.ok)

pub returns-in-Ok-clause-moves : goal.returns-in-Ok-clause-moves
returns-in-Ok-clause-moves c = c.join.ensures.moves

pub returns-in-Ok-clause-err : goal.returns-in-Ok-clause-err
returns-in-Ok-clause-err c =
    let header : c.block-2.result.now.header ≡ c.args.block.header = ap (λ (b : Block). b.header) c.block-2.ensures.same in
    let has : HasWork c.block-2.result.now.header = c.in_ok-hash.ensures.1 in
    let none : block_fault c.args.self.now c.block-2.result.now.header ≡ None = c.in_ok-spot.ensures.none in
    joined_err c.args.self.now c.join.new.self c.args.block c.join.result (subst HasWork header has) (subst (λ (h : Header). block_fault c.args.self.now h ≡ None) header none) c.in-Ok.ensures.exact
    (subst (λ (b : Block). IfErr c.join.result (λ fault. ((fault ≡ Memory) × (c.join.new.self ≡ c.args.self.now)) ⊎ ((Err fault, c.join.new.self) ≡ joined c.args.self.now b))) c.new.ensures c.join.ensures.err)

pub returns-in-Ok-clause-unchanged : goal.returns-in-Ok-clause-unchanged
returns-in-Ok-clause-unchanged c = c.join.ensures.unchanged

pub returns-in-Ok-clause-unpaid : goal.returns-in-Ok-clause-unpaid
returns-in-Ok-clause-unpaid c = λ _.
    let header : c.block-2.result.now.header ≡ c.args.block.header = ap (λ (b : Block). b.header) c.block-2.ensures.same in
    let has : HasWork c.block-2.result.now.header = c.in_ok-hash.ensures.1 in
    let none : block_fault c.args.self.now c.block-2.result.now.header ≡ None = c.in_ok-spot.ensures.none in
    (subst HasWork header has, subst (λ (h : Header). block_fault c.args.self.now h ≡ None) header none)

pub returns-in-Ok-clause-history : goal.returns-in-Ok-clause-history
returns-in-Ok-clause-history c =
    let header : c.block-2.result.now.header ≡ c.args.block.header = ap (λ (b : Block). b.header) c.block-2.ensures.same in
    let has : HasWork c.block-2.result.now.header = c.in_ok-hash.ensures.1 in
    let none : block_fault c.args.self.now c.block-2.result.now.header ≡ None = c.in_ok-spot.ensures.none in
    history_joined c.args.self.now c.join.new.self c.args.block c.join.result c.block-2.ensures.sound (subst HasWork header has) (subst (λ (h : Header). block_fault c.args.self.now h ≡ None) header none) c.in-Ok.ensures.exact
    (subst (λ (b : Block). IfOk c.join.result (λ change. (Ok change, c.join.new.self) ≡ joined c.args.self.now b)) c.new.ensures c.join.ensures.ok)
    (subst (λ (b : Block). IfErr c.join.result (λ fault. ((fault ≡ Memory) × (c.join.new.self ≡ c.args.self.now)) ⊎ ((Err fault, c.join.new.self) ≡ joined c.args.self.now b))) c.new.ensures c.join.ensures.err)

pub returns-in-Ok-clause-leads : goal.returns-in-Ok-clause-leads
returns-in-Ok-clause-leads c =
    let header : c.block-2.result.now.header ≡ c.args.block.header = ap (λ (b : Block). b.header) c.block-2.ensures.same in
    let has : HasWork c.block-2.result.now.header = c.in_ok-hash.ensures.1 in
    let none : block_fault c.args.self.now c.block-2.result.now.header ≡ None = c.in_ok-spot.ensures.none in
    let are = planted_after c.args.self.now (subst IsHistoric c.self.view_is c.self.invariant.1) in
    let ok = subst (λ (b : Block). IfOk c.join.result (λ change. (Ok change, c.join.new.self) ≡ joined c.args.self.now b)) c.new.ensures c.join.ensures.ok in
    join_leads c.args.self.now c.join.new.self c.args.block c.join.result are (subst HasWork header has) (subst (λ (h : Header). block_fault c.args.self.now h ≡ None) header none) c.in-Ok.ensures.exact ok

pub returns-in-Ok-clause-stays : goal.returns-in-Ok-clause-stays
returns-in-Ok-clause-stays c =
    let header : c.block-2.result.now.header ≡ c.args.block.header = ap (λ (b : Block). b.header) c.block-2.ensures.same in
    let has : HasWork c.block-2.result.now.header = c.in_ok-hash.ensures.1 in
    let none : block_fault c.args.self.now c.block-2.result.now.header ≡ None = c.in_ok-spot.ensures.none in
    let are = planted_after c.args.self.now (subst IsHistoric c.self.view_is c.self.invariant.1) in
    let ok = subst (λ (b : Block). IfOk c.join.result (λ change. (Ok change, c.join.new.self) ≡ joined c.args.self.now b)) c.new.ensures c.join.ensures.ok in
    join_stays c.args.self.now c.join.new.self c.args.block c.join.result are (subst HasWork header has) (subst (λ (h : Header). block_fault c.args.self.now h ≡ None) header none) c.in-Ok.ensures.exact ok
    (subst (λ (b : Block). IfErr c.join.result (λ fault. ((fault ≡ Memory) × (c.join.new.self ≡ c.args.self.now)) ⊎ ((Err fault, c.join.new.self) ≡ joined c.args.self.now b))) c.new.ensures c.join.ensures.err) c.join.ensures.moves

-- it breaks a rule, or memory is wanting
pub mark_header-requires : goal.mark_header-requires
mark_header-requires c =
    let spot : IsSpot c.in_ok-spot.spot c.block-2.result.now.header c.args.self.now = c.in_ok-spot.ensures.ok in
    let none : block_fault c.args.self.now c.block-2.result.now.header ≡ None = c.in_ok-spot.ensures.none in
    let one : IsIndex (index_of c.block_index.result true) c.args.self.now =
    subst (λ (n : BlockIndex). IsIndex n c.args.self.now) (sym (ap (λ (b : BareIndex). index_of b true) c.block_index.ensures)) (bare_index c.in_ok-spot.spot c.block-2.result.now.header c.args.self.now true spot (block_free c.args.self.now c.block-2.result.now.header none).once)
    in
    subst (IsIndex (index_of c.block_index.result true)) (sym c.self.view_is) one

-- the header is in the tree, marked bad
record IsMarkedBad (c : After-mark_header) : Type 0 where
  told : AcceptsBlock c.args.self.now c.args.block (Err c.mark_header.result) (tree_of c.mark_header.new.tree.block_indexes)
  chain : IsChain (tree_of c.mark_header.new.tree.block_indexes) c.self.inside.active.items c.mark_header.new.tree.undos c.self.inside.ledger.unspent c.self.inside.side_branch

marked_bad : (c : After-mark_header) → c.mark_header.result ≡ c.in-Err.fault → c.in-Err.fault ≢ Memory → c.mark_header.new.tree.block_indexes ≡ c.self.inside.tree.block_indexes ++ index_of c.block_index.result true ∷ []
    → c.mark_header.new.tree.undos ≡ c.self.inside.tree.undos ++ None ∷ [] → IsMarkedBad c
marked_bad c is other block_indexes undos =
    let spot : IsSpot c.in_ok-spot.spot c.block-2.result.now.header c.args.self.now = c.in_ok-spot.ensures.ok in
    let none : block_fault c.args.self.now c.block-2.result.now.header ≡ None = c.in_ok-spot.ensures.none in
    let one : IsIndex (index_of c.block_index.result true) c.args.self.now =
    subst (λ (n : BlockIndex). IsIndex n c.args.self.now) (sym (ap (λ (b : BareIndex). index_of b true) c.block_index.ensures)) (bare_index c.in_ok-spot.spot c.block-2.result.now.header c.args.self.now true spot (block_free c.args.self.now c.block-2.result.now.header none).once)
    in
    let was = c.self.inside.tree in
    let grows : Grows was.block_indexes was.block_indexes c.args.self.now (index_of c.block_index.result true) = record { is = c.mark_header.ensures.tree; same = refl; view = c.self.view_is; one = one } in
    let header : c.block-2.result.now.header ≡ c.args.block.header = ap (λ (b : Block). b.header) c.block-2.ensures.same in
    let has : HasWork c.block-2.result.now.header = c.in_ok-hash.ensures.1 in
    let entry : entry_from (index_of c.block_index.result true) ≡ bad_entry c.args.block.header = ap entry_from (ap (λ (b : BareIndex). index_of b true) c.block_index.ensures) ∙ bad_on c.in_ok-spot.spot c.args.block.header (spot.header ∙ header) in
    let grown : tree_of c.mark_header.new.tree.block_indexes ≡ bad_entry c.args.block.header ∷ c.args.self.now =
    grows_tree was.block_indexes was.block_indexes c.mark_header.new.tree.block_indexes c.args.self.now (index_of c.block_index.result true) grows block_indexes ∙ ap (λ (e : Entry). e ∷ c.args.self.now) entry
    in
    let told : AcceptsBlock c.args.self.now c.args.block (Err c.in-Err.fault) (tree_of c.mark_header.new.tree.block_indexes) =
    told_broken c.args.self.now (tree_of c.mark_header.new.tree.block_indexes) c.args.block c.in-Err.fault (subst HasWork header has) (subst (λ (h : Header). block_fault c.args.self.now h ≡ None) header none) other c.in-Err.ensures.exact
    grown
    in
    record {
      told = subst (λ (f : Fault). AcceptsBlock c.args.self.now c.args.block (Err f) (tree_of c.mark_header.new.tree.block_indexes)) (sym is) told;
      chain =
          grows_chain was.block_indexes was.block_indexes c.mark_header.new.tree.block_indexes c.args.self.now (index_of c.block_index.result true) c.self.inside.active.items was.undos was.undos c.mark_header.new.tree.undos
          c.self.inside.ledger.unspent c.self.inside.side_branch grows block_indexes refl undos (bare_best (entry_from (index_of c.block_index.result true)) c.args.self.now (ap (λ (n : BlockIndex). n.kept) (ap (λ (b : BareIndex). index_of b true) c.block_index.ensures))) c.self.invariant.0;
    }

pub invariant_of-self : goal.invariant_of-self
invariant_of-self c =
    let was = c.self.inside in
    elim c.mark_header.ensures.added [
      | inl same ↦ (
        chain_as c.mark_header.new.tree.block_indexes was.tree.block_indexes was.active.items was.active.items was.tree.undos c.mark_header.new.tree.undos was.ledger.unspent was.ledger.unspent was.side_branch was.side_branch same.1 refl same.2 refl refl c.self.invariant.0,
        subst IsHistoric (sym (ap tree_of same.1)) c.self.invariant.1,
      )
      | inr marked ↦
          let bad = marked_bad c marked.0 marked.1 marked.2 marked.3 in
          (bad.chain, historic_block c.args.self.now (tree_of c.mark_header.new.tree.block_indexes) c.args.block (Err c.mark_header.result) c.block-2.ensures.sound (subst IsHistoric c.self.view_is c.self.invariant.1) bad.told)
    ]

pub returns-in-Err-clause-err : goal.returns-in-Err-clause-err
returns-in-Err-clause-err c =
    elim c.mark_header.ensures.added [
      | inl same ↦ inl (same.0, ap tree_of same.1 ∙ c.self.view_is)
      | inr marked ↦ inr (marked_bad c marked.0 marked.1 marked.2 marked.3).told
    ]

pub returns-in-Err-clause-history : goal.returns-in-Err-clause-history
returns-in-Err-clause-history c = λ calls past.
    elim c.mark_header.ensures.added [
      | inl same ↦ inl (same.0, subst (IsHistory calls) (sym (ap tree_of same.1 ∙ c.self.view_is)) past)
      | inr marked ↦ inr (c.args.self.now, past, (c.block-2.ensures.sound, Err c.mark_header.result, (marked_bad c marked.0 marked.1 marked.2 marked.3).told))
    ]

pub returns-in-Err-clause-stays : goal.returns-in-Err-clause-stays
returns-in-Err-clause-stays c = λ _.
    elim c.mark_header.ensures.added [
      | inl same ↦ subst (Stays c.args.self.now) (sym (ap tree_of same.1 ∙ c.self.view_is)) (refl, refl)
      | inr marked ↦ block_stays c.args.self.now (tree_of c.mark_header.new.tree.block_indexes) c.args.block (Err c.mark_header.result) (planted_after c.args.self.now (subst IsHistoric c.self.view_is c.self.invariant.1)) (marked_bad c marked.0 marked.1 marked.2 marked.3).told tt tt
    ]
