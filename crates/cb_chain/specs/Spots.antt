-- The block index of a header that goes to a spot, without its mark.
use Rattle.std.specs.Prelude.{Option}
use Rattle.cb_block.specs.declared.block.Block.{Block}
use Rattle.cb_chain.specs.declared.accepting.Spot.{Spot}
use Rattle.cb_chain.specs.declared.block_index.BareIndex.{BareIndex}

abbrev pub placed_on : Spot → Option Block → BareIndex
placed_on spot kept = record {
  header = spot.header;
  hash = spot.hash;
  height = spot.height;
  parent = spot.parent;
  kept = kept;
}
