-- The block that a node mines from its mempool, on regtest (Bitcoin's protocol).
use Rattle.std.specs.Prelude.{◌≡◌, ℕ, ◌+◌, ◌<◌, ◌≤◌, pos, List, [], ◌∷◌, ◌++◌, length, replicate, take}
use Rattle.std.specs.Int.{w32, to_le_bytes}
use Rattle.cb_base.specs.declared.fault.Fault.{Fault}
use Rattle.cb_base.specs.declared.fault.Fault.TheVariants.{BadWork, Mutated}
use Rattle.cb_block.specs.declared.tx.TxIn.{TxIn}
use Rattle.cb_block.specs.declared.tx.TxOut.{TxOut}
use Rattle.cb_block.specs.declared.tx.Tx.{Tx}
use Rattle.cb_block.specs.TxText.{list_text, tx_text}
use Rattle.cb_block.specs.declared.block.Block.{Block}
use Rattle.cb_block.specs.declared.header.Header.{Header}
use Rattle.cb_block.specs.Blocks.{texts}
use Rattle.cb_block.specs.MerkleTree.{IsMutated, IsRoot}
use Rattle.cb_block.specs.Soundness.{names}
use Rattle.cb_block.specs.Work.{HasWork}
use Rattle.cb_chain.specs.Best.{best}
use Rattle.cb_chain.specs.Entries.{Tree}
use Rattle.cb_chain.specs.Laws.{height_in}
use Rattle.cb_pool.specs.Listing.{txs_of}
use Rattle.cb_state.specs.State.{RelayState}

-- ---- the coinbase

-- The coinbase's input spends no output. Its script is the block's height, lowest byte first, and
-- then the mark. The mark makes two blocks of one height differ.
abbrev pub coinbase_input : ℕ → ℕ → TxIn
coinbase_input height mark =
    record {
      prev = record { txid = record { 0 = replicate 32 0 }; index = 4294967295 };
      script = to_le_bytes w32 height ++ mark ∷ [];
      sequence = 4294967295;
    }

-- 50 BTC that anyone may spend: the script is OP_1.
abbrev pub subsidy : TxOut
subsidy = record { value = pos 5000000000; script = 81 ∷ [] }

abbrev pub coinbase_of : ℕ → ℕ → Tx
coinbase_of height mark = record {
  version = pos 1;
  inputs = coinbase_input height mark ∷ [];
  outputs = subsidy ∷ [];
  lock_time = 0;
}

-- ---- the transactions

-- A block of these transactions has at most 1,000,000 bytes: 80 of the header, then the count and
-- the transactions.
abbrev pub FitInBlock : List Tx → Type 0
FitInBlock txs = 80 + length (list_text tx_text txs) ≤ 1000000

-- `count` is the greatest number of the mempool's first transactions that fit after the coinbase.
pub record IsMostFitting (coinbase : Tx) (waiting : List Tx) (count : ℕ) : Type 0 where
  pub within : count ≤ length waiting
  pub fit : FitInBlock (coinbase ∷ take count waiting)
  pub most : (more : ℕ) → count < more → more ≤ length waiting
      → ¬ FitInBlock (coinbase ∷ take more waiting)

-- The height of a block whose parent is the tip.
abbrev pub next_height : Tree → ℕ
next_height tree = height_in tree (best tree) + 1

-- The coinbase, and after it as many of the mempool's first transactions as fit.
abbrev pub AreMined : RelayState → ℕ → List Tx → Type 0
AreMined state mark txs =
    let coinbase = coinbase_of (next_height state.tree) mark in
    let waiting = txs_of state.pool.list in
    (count : ℕ) × IsMostFitting coinbase waiting count × (txs ≡ coinbase ∷ take count waiting)

-- ---- the header

-- The header's parent is the tip, and its Merkle root is that of the transactions. Its time is that
-- of the genesis block plus its height in seconds.
pub record IsHeaderOver (tree : Tree) (txs : List Tx) (header : Header) : Type 0 where
  pub version : header.version ≡ pos 1
  pub prev : header.prev ≡ best tree
  pub root : IsRoot (names (texts txs)) header.root
  pub time : header.time ≡ 1296688602 + next_height tree
  pub bits : header.bits ≡ 545259519

abbrev pub with_nonce : Header → ℕ → Header
with_nonce header nonce = record header { nonce = nonce }

-- The header meets its target, and would not with any smaller nonce.
pub record HasLeastNonce (header : Header) : Type 0 where
  pub work : HasWork header
  pub least : (nonce : ℕ) → nonce < header.nonce → ¬ HasWork (with_nonce header nonce)

-- The header doesn't meet its target with any nonce of 32 bits.
abbrev pub HasNoNonce : Header → Type 0
HasNoNonce header = (nonce : ℕ) → nonce < 4294967296 → ¬ HasWork (with_nonce header nonce)

-- ---- the block

pub record IsMined (state : RelayState) (mark : ℕ) (block : Block) : Type 0 where
  pub txs : AreMined state mark block.txs
  pub header : IsHeaderOver state.tree block.txs block.header
  pub nonce : HasLeastNonce block.header

-- Why no block can be mined: two neighbours in the Merkle tree are equal (CVE-2012-2459), or no
-- nonce meets the target.
abbrev pub CannotMine : RelayState → ℕ → Fault → Type 0
CannotMine state mark Mutated =
    (txs : List Tx) × AreMined state mark txs × IsMutated (names (texts txs))
CannotMine state mark BadWork =
    (txs : List Tx) × (header : Header) × AreMined state mark txs
    × IsHeaderOver state.tree txs header × HasNoNonce header
CannotMine state mark other = ⊥
