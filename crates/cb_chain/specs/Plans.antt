-- How a block on top of a branch changes the active chain.
use Rattle.std.specs.Prelude.{◌≡◌, ◌+◌, take, ℕ, suc, List, [], ◌∷◌, ◌++◌, map, drop, reverse, unwrap_or, option_map, slice_get}
use Rattle.cb_base.specs.declared.hash.Hash256.{Hash256}
use Rattle.cb_block.specs.declared.header.Header.{Header}
use Rattle.cb_chain.specs.declared.change.Change.{Change}
use Rattle.cb_chain.specs.Marking.{BlockIndex}
use Rattle.cb_chain.specs.Entries.{Tree, block_hash, genesis_hash}
use Rattle.cb_chain.specs.Best.{active}
use Rattle.cb_chain.specs.Keeping.{IsFork, climb}

-- the hash of the block index at a place
abbrev pub hash_at : List BlockIndex → ℕ → Hash256
hash_at block_indexes place =
    unwrap_or (option_map (λ block_index. block_index.hash) (slice_get block_indexes place))
    genesis_hash

-- The change if the active chain drops all above the height `fork` for the branch of a header's
-- parent and the header.
abbrev pub change_at : Tree → Header → ℕ → Change
change_at tree header fork = record {
  off = reverse (map block_hash (drop (suc fork) (active tree)));
  on = map (λ step. block_hash step.entry.header) (drop fork (climb tree header.prev))
      ++ block_hash header ∷ [];
}

-- The places of the active chain after that change: those up to the fork, those of the branch, and
-- the header's own.
pub record Moved (tree : Tree) (header : Header) (path : List ℕ) (last : ℕ) (now : List ℕ)
    (change : Change) : Type 0 where
  pub fork : ℕ
  pub fork_is : IsFork tree header.prev fork
  pub now_is : now
      ≡ take (fork + 1) path ++ map (λ step. step.place) (drop fork (climb tree header.prev))
      ++ last ∷ []
  pub change_is : change ≡ change_at tree header fork
