-- A block index of the tree with its mark, which is all of it that ever changes. Marks are stored
-- beside the other parts.
use Rattle.std.specs.Prelude.{ℕ, Bool, false, List, [], ◌∷◌, map, Option, None, Some, slice_get}
use Rattle.cb_base.specs.declared.hash.Hash256.{Hash256}
use Rattle.cb_block.specs.declared.block.Block.{Block}
use Rattle.cb_block.specs.declared.header.Header.{Header}
use Rattle.cb_chain.specs.declared.block_index.BareIndex.{BareIndex}

pub record BlockIndex : Type 0 where
  pub header : Header
  pub hash : Hash256
  pub height : ℕ
  pub parent : ℕ
  pub kept : Option Block
  pub marked : Bool

abbrev pub index_of : BareIndex → Bool → BlockIndex
index_of bare marked = record {
  header = bare.header;
  hash = bare.hash;
  height = bare.height;
  parent = bare.parent;
  kept = bare.kept;
  marked = marked;
}

-- block indexes, each with its mark
abbrev pub with_marks : List BareIndex → List Bool → List BlockIndex
with_marks [] marks = []
with_marks (bare ∷ bares) [] = []
with_marks (bare ∷ bares) (marked ∷ marks) = index_of bare marked ∷ with_marks bares marks

abbrev pub marks_of : List BlockIndex → List Bool
marks_of block_indexes = map (λ block_index. block_index.marked) block_indexes

abbrev pub mark_of : Option BlockIndex → Bool
mark_of None = false
mark_of (Some block_index) = block_index.marked

-- the mark of the block index at a place
abbrev pub mark_at : List BlockIndex → ℕ → Bool
mark_at block_indexes place = mark_of (slice_get block_indexes place)
