-- What happened while a block was relayed.
use Rattle.std.specs.Prelude.{◌≡◌, ℕ, ◌≤◌, true, List, Option, length}
use Rattle.cb_base.specs.declared.hash.Hash256.{Hash256}
use Rattle.cb_base.specs.DoubleHash.{double_hash}
use Rattle.cb_block.specs.Blocks.{texts}
use Rattle.cb_block.specs.Soundness.{names}
use Rattle.cb_block.specs.BlockText.{header_text}
use Rattle.cb_block.specs.declared.block.Block.{Block}
use Rattle.cb_net_node.specs.Arrivals.{AreArrivals, part_of, time_by}
use Rattle.cb_net_node.specs.declared.results.Arrivals.{Arrivals}
use Rattle.cb_net_node.specs.declared.results.BlockResult.{BlockResult}
use Rattle.cb_net.specs.Counting.{is_honest_at}
use Rattle.cb_net.specs.Moments.{roles_in}
use Rattle.cb_net.specs.declared.world.World.{World}

-- the hash of a block, and the txids of its transactions
abbrev pub hash_of : Block → Hash256
hash_of block = double_hash (header_text block.header)

abbrev pub txids_of : Block → List Hash256
txids_of block = names (texts block.txs)

-- when so many of a hundred honest nodes had the block
abbrev pub had_by : ℕ → Arrivals → Option ℕ
had_by percent arrivals = time_by (part_of arrivals.honest percent) arrivals.times.items

-- What is told of a block that a node mined at a time: when the honest nodes had it, how they came
-- to it, and what was sent since the block before.
pub record IsTold (world : World) (number miner mined : ℕ) (block : Block) (told : BlockResult)
    : Type 0 where
  pub number_is : told.number ≡ number
  pub miner_is : told.miner ≡ miner
  pub transactions : told.transactions ≡ length (txids_of block)
  pub arrivals : Arrivals
  pub are : AreArrivals mined world.nodes.items arrivals
  pub half : told.half ≡ had_by 50 arrivals
  pub most : told.most ≡ had_by 90 arrivals
  pub all : told.all ≡ had_by 100 arrivals
  pub reached : told.reached ≡ length arrivals.times.items
  pub once : told.once ≡ arrivals.once
  pub asked : told.asked ≡ arrivals.asked
  pub whole : told.whole ≡ arrivals.whole
  pub traffic : told.traffic ≡ world.traffic

-- An honest node mined a block meanwhile, and it is the one that is being relayed.
pub record IsResult (old new : World) (told : BlockResult) : Type 0 where
  pub honest : is_honest_at (roles_in new.nodes.items) told.miner ≡ true
  pub block : Block
  pub relayed : new.block ≡ hash_of block
  pub mined : ℕ
  pub later : old.queue.time ≤ mined
  pub before : mined ≤ new.queue.time
  pub tells : IsTold new told.number told.miner mined block told
