-- A block that is higher than the tip and whose path stops: where, and the chain with it, marked from there on.
use Rattle.std.proofs.Common.{◌≡◌, ℕ, ◌<◌, ◌⊎◌, true, false, List, [], ◌∷◌, ◌++◌, length, Some, None, Option, Result, Err, sym, ap, subst, ◌∙◌, arith, inl, inr}
use Rattle.std.specs.Prelude.{◌≢◌, is_some, option_and_then, slice_get, IsSome}
use Rattle.cb_base.specs.declared.fault.Fault.{Fault}
use Rattle.cb_base.specs.declared.fault.Fault.TheVariants.{Memory}
use Rattle.cb_base.specs.declared.hash.Hash256.{Hash256}
use Rattle.cb_block.specs.declared.block.Block.{Block}
use Rattle.cb_ledger.specs.declared.undo.CoinChange.{CoinChange}
use Rattle.cb_ledger.specs.Unspent.{Unspent}
use Rattle.cb_chain.specs.Marking.{BlockIndex}
use Rattle.cb_chain.specs.declared.side_branch.SideBranch.{SideBranch}
use Rattle.cb_chain.specs.Best.{Stop, best, faulty, is_higher, stopped_at, then_spend, unspent_after}
use Rattle.cb_chain.specs.Calls.{block_entry, joined, marked_above}
use Rattle.cb_chain.specs.Entries.{Entry, Tree, block_hash, is_kept}
use Rattle.cb_chain.specs.Keeping.{IsTree, block_at, entry_from, tree_of}
use Rattle.cb_chain.specs.SideBranches.{IsChain, Stops, below, here}
use Rattle.cb_chain.proofs.SideBranchIndexes.{unspent_own}
use Rattle.cb_chain.proofs.NewTip.{best_other, joined_err}
use Rattle.cb_chain.proofs.BlockIndexes.{found, get_front, get_last, tree_grown}
use Rattle.cb_chain.proofs.Planning.{Answer}
use Rattle.cb_chain.proofs.Undos.{chain_aside, chain_marked}

-- the first block of the path that can't be spent, among the block indexes with the new one
pub record IsHalted (block_indexes : List BlockIndex) (block : Block) (block_index : BlockIndex) (place : ℕ) (fault : Fault) : Type 0 where
  pub first : BlockIndex
  pub at : slice_get (block_indexes ++ block_index ∷ []) place ≡ Some first
  pub above : 0 < place
  pub kept : IsSome (block_at (block_indexes ++ block_index ∷ []) place)
  pub stops : unspent_after (block_entry block ∷ tree_of block_indexes) (block_hash block.header) ≡ Err (faulty first.hash fault)

kept_block : (block_indexes : List BlockIndex) (place : ℕ) (block_index : BlockIndex) → slice_get block_indexes place ≡ Some block_index → is_some block_index.kept ≡ true → IsSome (block_at block_indexes place)
kept_block block_indexes place block_index at kept = ap (λ (o : Option BlockIndex). is_some (option_and_then (λ (n : BlockIndex). n.kept) o)) at ∙ kept

some_indexes : (block_indexes : List BlockIndex) → IsTree block_indexes → 0 < length block_indexes
some_indexes [] is = absurd is
some_indexes (first ∷ others) is = omega arith

abbrev stop_at : Fault → Hash256 → Result Unspent Stop
stop_at fault hash = Err (faulty hash fault)

pub halted : (block_indexes : List BlockIndex) (block : Block) (block_index : BlockIndex) (place : ℕ) (fault : Fault) → IsTree block_indexes → entry_from block_index ≡ block_entry block → block_index.hash ≡ block_hash block.header → Stops block_indexes block place fault → IsHalted block_indexes block block_index place fault
halted block_indexes block block_index place fault is entry name (below target known stop) =
    let tree = tree_of block_indexes in
    let entry_is = block_entry block in
    let parent = found block_indexes block.header.prev target is known in
    let failed : unspent_after tree block.header.prev ≡ Err (faulty stop.first.hash fault) = ap (unspent_after tree) (sym parent.name) ∙ stop.stops parent.block_index parent.at in
    let at : slice_get (block_indexes ++ block_index ∷ []) place ≡ Some stop.first = get_front block_indexes (block_index ∷ []) place stop.first stop.at in
    record {
      first = stop.first;
      at = at;
      above = stop.above;
      kept = kept_block (block_indexes ++ block_index ∷ []) place stop.first at stop.kept;
      stops = unspent_own entry_is tree ∙ ap (then_spend entry_is) failed;
    }
halted block_indexes block block_index place fault is entry name (here before spent failed at_end) =
    let tree = tree_of block_indexes in
    let entry_is = block_entry block in
    let at : slice_get (block_indexes ++ block_index ∷ []) place ≡ Some block_index = ap (slice_get (block_indexes ++ block_index ∷ [])) at_end ∙ get_last block_indexes block_index in
    let some : 0 < length block_indexes = some_indexes block_indexes is in
    record {
      first = block_index;
      at = at;
      above = omega (arith, some, at_end);
      kept = kept_block (block_indexes ++ block_index ∷ []) place block_index at (ap (λ (e : Entry). is_some e.block) entry);
      stops = unspent_own entry_is tree ∙ ap (then_spend entry_is) spent ∙ ap (stopped_at (block_hash block.header)) failed ∙ ap (stop_at fault) (sym name);
    }

abbrev kept_err : Fault → Tree → Result Answer Fault × Tree
kept_err fault tree = (Err fault, tree)

-- what the code leaves, and answers
pub record IsLeft (old new : Tree) (block : Block) (fault : Fault) (path : List ℕ) (undos : List (Option (List CoinChange))) (unspent : Unspent) (side_branch : Option SideBranch) : Type 0 where
  pub chain : IsChain new path undos unspent side_branch
  pub answer : ((fault ≡ Memory) × (new ≡ old)) ⊎ ((Err fault, new) ≡ joined old block)

pub left : (block_indexes now_indexes : List BlockIndex) (block : Block) (block_index : BlockIndex) (path : List ℕ) (undos now_undos : List (Option (List CoinChange))) (unspent : Unspent) (side_branch : Option SideBranch) (place : ℕ) (fault : Fault) → IsTree block_indexes
    → entry_from block_index ≡ block_entry block → is_kept (tree_of block_indexes) (block_hash block.header) ≡ false → is_higher (block_entry block ∷ tree_of block_indexes) (block_hash block.header) (best (tree_of block_indexes)) ≡ true
    → IsChain (tree_of block_indexes) path undos unspent side_branch → (fault ≡ Memory) ⊎ IsHalted block_indexes block block_index place fault
    → ((fault ≡ Memory) × (now_indexes ≡ block_indexes) × (now_undos ≡ undos)) ⊎ ((fault ≢ Memory) × (now_undos ≡ undos ++ None ∷ [])
    × ((first : BlockIndex) → slice_get (block_indexes ++ block_index ∷ []) place ≡ Some first → tree_of now_indexes ≡ marked_above first.hash (tree_of (block_indexes ++ block_index ∷ []))))
    → IsLeft (tree_of block_indexes) (tree_of now_indexes) block fault path now_undos unspent side_branch
left block_indexes now_indexes block block_index path undos now_undos unspent side_branch place fault is entry once higher chain why (inl w) =
    let same_undos : IsChain (tree_of block_indexes) path now_undos unspent side_branch = subst (λ (us : List (Option (List CoinChange))). IsChain (tree_of block_indexes) path us unspent side_branch) (sym w.2) chain in
    record {
      chain = subst (λ (ns : List BlockIndex). IsChain (tree_of ns) path now_undos unspent side_branch) (sym w.1) same_undos;
      answer = inl (w.0, ap tree_of w.1);
    }
left block_indexes now_indexes block block_index path undos now_undos unspent side_branch place fault is entry once higher chain (inl memory) (inr w) = absurd (w.0 memory)
left block_indexes now_indexes block block_index path undos now_undos unspent side_branch place fault is entry once higher chain (inr halt) (inr w) =
    let tree = tree_of block_indexes in
    let new = block_entry block ∷ tree in
    let first = halt.first.hash in
    let grown : tree_of (block_indexes ++ block_index ∷ []) ≡ new = tree_grown block_indexes block_index is ∙ ap (λ (e : Entry). e ∷ tree) entry in
    let marked : tree_of now_indexes ≡ marked_above first new = w.2 halt.first halt.at ∙ ap (marked_above first) grown in
    let stays : best new ≡ best tree = best_other (block_entry block) tree (faulty first fault) halt.stops in
    let with_it : IsChain new path (undos ++ None ∷ []) unspent side_branch = chain_aside (block_entry block) tree path undos unspent side_branch once stays chain in
    let marked_chain : IsChain (marked_above first new) path (undos ++ None ∷ []) unspent side_branch = chain_marked first new path (undos ++ None ∷ []) unspent side_branch with_it in
    let same_undos : IsChain (marked_above first new) path now_undos unspent side_branch = subst (λ (us : List (Option (List CoinChange))). IsChain (marked_above first new) path us unspent side_branch) (sym w.1) marked_chain in
    record {
      chain = subst (λ (t : Tree). IsChain t path now_undos unspent side_branch) (sym marked) same_undos;
      answer = inr (ap (kept_err fault) marked ∙ sym (joined_err tree block first fault higher halt.stops));
    }
