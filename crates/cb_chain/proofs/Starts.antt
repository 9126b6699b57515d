-- From where a block is tried, and the chain once it was.
use Rattle.std.proofs.Common.{◌≡◌, ℕ, ◌-◌, ◌<◌, ◌⊎◌, List, [], length, get_or, Some, None, Option, sym, ap, subst, ◌∙◌, inl, inr, arith}
use Rattle.std.specs.Prelude.{IfSome, Ok}
use Rattle.std.proofs.lemmas.Option.{same_Some}
use Rattle.cb_base.specs.declared.hash.Hash256.{Hash256}
use Rattle.cb_ledger.specs.declared.undo.CoinChange.{CoinChange}
use Rattle.cb_ledger.specs.Unspent.{Unspent}
use Rattle.cb_chain.specs.Marking.{BlockIndex}
use Rattle.cb_chain.specs.declared.side_branch.SideBranch.{SideBranch}
use Rattle.cb_chain.specs.Best.{best}
use Rattle.cb_chain.specs.Entries.{Tree}
use Rattle.cb_chain.specs.Keeping.{IsTree, active_places, place_of, tree_of}
use Rattle.cb_chain.specs.SideBranches.{AreUndos, IsChain, IsSideBranch, KeepRecords, WasConnected}
use Rattle.cb_chain.proofs.Ledgers.{nothing_over}
use Rattle.cb_chain.proofs.BlockIndexes.{length_tree}
use Rattle.cb_chain.proofs.Tips.{tip_last}
use Rattle.cb_chain.proofs.Tries.{side_branch_low}

-- ---- the tip's place

pub tip_at : (tree : Tree) (path : List ℕ) (i p : ℕ) → path ≡ active_places tree → i ≡ length path - 1 → p ≡ get_or path i p → place_of tree (best tree) ≡ Some p
tip_at tree path i p places last at =
    let tip = tip_last tree path places in
    tip.known ∙ ap Some (sym (at ∙ ap (λ (j : ℕ). get_or path j p) last ∙ tip.last p))

-- ---- where it starts

at_tip : (tree : Tree) (path : List ℕ) (undos : List (Option (List CoinChange))) (unspent : Unspent) (old : Option SideBranch) (side_branch : SideBranch) (tip : ℕ) → IsChain tree path undos unspent old → place_of tree (best tree) ≡ Some tip
    → side_branch ≡ record { end = tip; overlay = [] } → IsSideBranch tree undos unspent side_branch
at_tip tree path undos unspent old side_branch tip is there side_branch_is =
    record {
      hash = best tree;
      connected = is.tip;
      end = same_Some is.tip.place tip (sym is.tip.at ∙ there) ∙ sym (ap (λ (s : SideBranch). s.end) side_branch_is);
      after = is.ledger ∙ ap Ok (sym (nothing_over unspent side_branch.overlay (ap (λ (s : SideBranch). s.overlay) side_branch_is)));
    }

pub starts : (tree : Tree) (path : List ℕ) (undos : List (Option (List CoinChange))) (unspent : Unspent) (old : Option SideBranch) (side_branch : SideBranch) (tip : ℕ) → IsChain tree path undos unspent old → place_of tree (best tree) ≡ Some tip
    → (side_branch ≡ record { end = tip; overlay = [] }) ⊎ (old ≡ Some side_branch) → IsSideBranch tree undos unspent side_branch
starts tree path undos unspent old side_branch tip is there (inl fresh) = at_tip tree path undos unspent old side_branch tip is there fresh
starts tree path undos unspent old side_branch tip is there (inr last) = subst (λ (o : Option SideBranch). IfSome o (IsSideBranch tree undos unspent)) last is.side_branch_is

pub side_branches_low : (block_indexes : List BlockIndex) (undos : List (Option (List CoinChange))) (unspent : Unspent) (side_branch : Option SideBranch) → IsTree block_indexes → IfSome side_branch (IsSideBranch (tree_of block_indexes) undos unspent) → IfSome side_branch (λ (s : SideBranch). s.end < length block_indexes)
side_branches_low block_indexes undos unspent None tree is = tt
side_branches_low block_indexes undos unspent (Some side_branch) tree is = let low = side_branch_low (tree_of block_indexes) undos unspent side_branch is in omega (arith, low, length_tree block_indexes tree)

-- ---- once it was tried

connected_keeps : (tree : Tree) (undos tried : List (Option (List CoinChange))) (hash : Hash256) → KeepRecords undos tried → WasConnected tree undos hash → WasConnected tree tried hash
connected_keeps tree undos tried hash keep is =
    record { place = is.place; at = is.at; kept = is.kept; has = elim is.has [ inl first ↦ inl first | inr has ↦ inr (keep is.place has) ] }

side_branch_keeps : (tree : Tree) (undos tried : List (Option (List CoinChange))) (unspent : Unspent) (side_branch : SideBranch) → KeepRecords undos tried → IsSideBranch tree undos unspent side_branch → IsSideBranch tree tried unspent side_branch
unfolding connected_keeps
side_branch_keeps tree undos tried unspent side_branch keep is = record { hash = is.hash; connected = connected_keeps tree undos tried is.hash keep is.connected; end = is.end; after = is.after }

-- the branch that was left aside
pub side_branches_keep : (tree : Tree) (undos tried : List (Option (List CoinChange))) (unspent : Unspent) (old last : Option SideBranch) → KeepRecords undos tried → IfSome old (IsSideBranch tree undos unspent) → (last ≡ None) ⊎ (last ≡ old)
    → IfSome last (IsSideBranch tree tried unspent)
side_branches_keep tree undos tried unspent old None keep is same = tt
side_branches_keep tree undos tried unspent old (Some side_branch) keep is (inl none) = absurd (let clash : Some side_branch ≡ None = none in cc)
side_branches_keep tree undos tried unspent old (Some side_branch) keep is (inr same) = side_branch_keeps tree undos tried unspent side_branch keep (subst (λ (o : Option SideBranch). IfSome o (IsSideBranch tree undos unspent)) (sym same) is)

-- the one that is kept
pub side_branches_kept : (tree : Tree) (tried : List (Option (List CoinChange))) (unspent : Unspent) (last now : Option SideBranch) (side_branch : SideBranch) → IfSome last (IsSideBranch tree tried unspent) → IsSideBranch tree tried unspent side_branch → (now ≡ Some side_branch) ⊎ (now ≡ last)
    → IfSome now (IsSideBranch tree tried unspent)
side_branches_kept tree tried unspent last now side_branch before is (inl this) = subst (λ (o : Option SideBranch). IfSome o (IsSideBranch tree tried unspent)) (sym this) is
side_branches_kept tree tried unspent last now side_branch before is (inr stays) = subst (λ (o : Option SideBranch). IfSome o (IsSideBranch tree tried unspent)) (sym stays) before

-- the chain is the same, with more records
pub chain_tried : (tree : Tree) (path : List ℕ) (undos tried : List (Option (List CoinChange))) (unspent : Unspent) (old last : Option SideBranch) → IsChain tree path undos unspent old → AreUndos tree tried → KeepRecords undos tried
    → IfSome last (IsSideBranch tree tried unspent) → IsChain tree path tried unspent last
chain_tried tree path undos tried unspent old last is are keep side_branch =
    record { places = is.places; ledger = is.ledger; undos_are = are; tip = connected_keeps tree undos tried (best tree) keep is.tip; side_branch_is = side_branch }

-- the same of what the code has in hand: the block indexes are as they were, and a branch was tried
pub tried_chain : (block_indexes now_indexes : List BlockIndex) (path : List ℕ) (undos tried : List (Option (List CoinChange))) (unspent : Unspent) (old last : Option SideBranch) → IsChain (tree_of block_indexes) path undos unspent old → now_indexes ≡ block_indexes
    → AreUndos (tree_of now_indexes) tried → KeepRecords undos tried → (last ≡ None) ⊎ (last ≡ old) → IsChain (tree_of block_indexes) path tried unspent last
tried_chain block_indexes now_indexes path undos tried unspent old last is same are keep aside =
    let undos_are : AreUndos (tree_of block_indexes) tried = subst (λ (ns : List BlockIndex). AreUndos (tree_of ns) tried) same are in
    chain_tried (tree_of block_indexes) path undos tried unspent old last is undos_are keep (side_branches_keep (tree_of block_indexes) undos tried unspent old last keep is.side_branch_is aside)

-- and the one that was tried is kept
pub kept_chain : (block_indexes now_indexes : List BlockIndex) (path : List ℕ) (tried : List (Option (List CoinChange))) (unspent : Unspent) (last now : Option SideBranch) (side_branch : SideBranch) → IsChain (tree_of block_indexes) path tried unspent last → now_indexes ≡ block_indexes
    → IsSideBranch (tree_of now_indexes) tried unspent side_branch → (now ≡ Some side_branch) ⊎ (now ≡ last) → IsChain (tree_of block_indexes) path tried unspent now
kept_chain block_indexes now_indexes path tried unspent last now side_branch is same side_branch_is kept =
    let there : IsSideBranch (tree_of block_indexes) tried unspent side_branch = subst (λ (ns : List BlockIndex). IsSideBranch (tree_of ns) tried unspent side_branch) same side_branch_is in
    record { places = is.places; ledger = is.ledger; undos_are = is.undos_are; tip = is.tip; side_branch_is = side_branches_kept (tree_of block_indexes) tried unspent last now side_branch is.side_branch_is there kept }

-- a chain by equal parts
pub chain_as : (block_indexes before : List BlockIndex) (path now_path : List ℕ) (undos now_undos : List (Option (List CoinChange))) (unspent now_unspent : Unspent) (side_branch now_side_branch : Option SideBranch) → block_indexes ≡ before → now_path ≡ path → now_undos ≡ undos
    → now_unspent ≡ unspent → now_side_branch ≡ side_branch → IsChain (tree_of before) path undos unspent side_branch → IsChain (tree_of block_indexes) now_path now_undos now_unspent now_side_branch
chain_as block_indexes before path now_path undos now_undos unspent now_unspent side_branch now_side_branch same path_is undos_are unspent_is side_branch_is is = rw (same, path_is, undos_are, unspent_is, side_branch_is) is
