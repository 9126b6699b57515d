-- What happens to a mined block that is submitted to its node at once (Bitcoin's consensus rules,
-- as far as this node checks them).
use Rattle.std.specs.Prelude.{◌≡◌, ◌≢◌, ◌⊎◌, ◌+◌, true, List, [], ◌∷◌, ◌++◌, Any, None, Some, Err}
use Rattle.std.specs.FinMap as finite
use Rattle.cb_base.specs.declared.fault.Fault.TheVariants.{BadParent, Known, Remade, TooMany}
use Rattle.cb_block.specs.declared.tx.OutPoint.{OutPoint}
use Rattle.cb_block.specs.declared.tx.Tx.{Tx}
use Rattle.cb_block.specs.TxRules.{IsCoinbase}
use Rattle.cb_block.specs.declared.block.Block.{Block}
use Rattle.cb_block.specs.declared.header.Header.{Header}
use Rattle.cb_block.specs.BlockText.{header_text}
use Rattle.cb_ledger.specs.Spend.{spend}
use Rattle.cb_ledger.specs.Unspent.{Unspent}
use Rattle.cb_chain.specs.Best.{active, best}
use Rattle.cb_chain.specs.Entries.{Entry, Tree, block_hash, block_of, entry_of, is_marked}
use Rattle.cb_chain.specs.Laws.{height_in}
use Rattle.cb_block.specs.Txid.{txid_of}
use Rattle.cb_state.specs.declared.accepting.Taken.{Taken}
use Rattle.cb_state.specs.State.{IsUnspent, RelayState}

-- The block is kept and is the tip, and the active chain grew by its header alone.
pub record IsNextTip (old : Tree) (block : Block) (new : Tree) : Type 0 where
  pub tip : best new ≡ block_hash block.header
  pub kept : block_of new (block_hash block.header) ≡ Some block
  pub chain : active new ≡ active old ++ block.header ∷ []
  pub height : height_in new (best new) ≡ height_in old (best old) + 1

-- Another header with the same hash is known: two different serialised headers have one double
-- SHA-256 hash.
pub record HasNamesake (tree : Tree) (header : Header) : Type 0 where
  pub entry : Entry
  pub known : entry_of tree (block_hash header) ≡ Some entry
  pub alike : block_hash entry.header ≡ block_hash header
  pub other : header_text entry.header ≢ header_text header

abbrev pub first_output : Tx → OutPoint
first_output tx = record { txid = txid_of tx; index = 0 }

-- The coinbase's first output is unspent already, or a later transaction, which is no coinbase, has
-- the coinbase's txid.
abbrev pub IsMadeAgain : Unspent → List Tx → Type 0
IsMadeAgain u [] = ⊥
IsMadeAgain u (coinbase ∷ others) =
    (finite.contains_key u (first_output coinbase) ≡ true)
    ⊎ Any (λ tx. (¬ IsCoinbase tx) × (txid_of tx ≡ txid_of coinbase)) others

-- The block can't be connected to the tip, because an output that it creates is unspent already.
pub record MakesAgain (tree : Tree) (block : Block) : Type 0 where
  pub unspent : Unspent
  pub behind_tip : IsUnspent tree unspent
  pub fault : spend unspent block.txs ≡ Err Remade
  pub again : IsMadeAgain unspent block.txs

-- The block becomes the tip, or it is refused for one of four reasons: its hash was marked bad
-- before, the tip has the greatest height there may be, another header has its hash, or an output
-- that it creates is unspent already.
pub data FaresAsMined (old : RelayState) (block : Block) (taken : Taken) (new : RelayState)
    : Type 0 where
  is_next_tip : taken.refused ≡ None → IsNextTip old.tree block new.tree
      → FaresAsMined old block taken new
  was_marked : taken.refused ≡ Some BadParent → is_marked old.tree (block_hash block.header) ≡ true
      → FaresAsMined old block taken new
  tip_is_full : taken.refused ≡ Some TooMany → height_in old.tree (best old.tree) ≡ 1000000000
      → FaresAsMined old block taken new
  has_namesake : taken.refused ≡ Some Known → HasNamesake old.tree block.header
      → FaresAsMined old block taken new
  makes_again : taken.refused ≡ Some Remade → MakesAgain old.tree block
      → FaresAsMined old block taken new
