-- How the block indexes of a tree are stored: in full chunks, which copies share, and in the last
-- one.
use Rattle.std.specs.Prelude.{ℕ, List, [], ◌∷◌, ◌++◌}
use Rattle.cb_chain.specs.declared.block_index.BareIndex.{BareIndex}
use Rattle.cb_chain.specs.declared.chunk.Held.{Held}
use Rattle.cb_chain.specs.declared.chunk.Held.TheVariants.{Own, Shared}

-- What contracts see of the list: its block indexes, and for how many more there is room.
pub record Listed : Type 0 where
  pub block_indexes : List BareIndex
  pub room : ℕ

abbrev pub held_indexes : Held → List BareIndex
held_indexes (Own block_indexes) = block_indexes.items
held_indexes (Shared block_indexes) = block_indexes.items

-- the block indexes of the full chunks, and those after them
abbrev pub listed : List (List BareIndex) → List BareIndex → List BareIndex
listed [] last = last
listed (chunk ∷ chunks) last = chunk ++ listed chunks last
