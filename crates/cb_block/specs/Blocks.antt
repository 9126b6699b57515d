-- When a block is sound, and the rules that a block must meet by itself (Bitcoin's consensus).
use Rattle.std.specs.Prelude.{◌≡◌, ◌≢◌, ℕ, ◌<◌, ◌≤◌, List, [], ◌∷◌, length, map, take, All, Any, slice_get, Some}
use Rattle.cb_base.specs.declared.fault.Fault.{Fault}
use Rattle.cb_base.specs.declared.fault.Fault.TheVariants.{Empty, Size64, Mutated, BadRoot, Oversize, BadCoinbase, BadTx}
use Rattle.cb_base.specs.declared.fault.TxRule.{TxRule}
use Rattle.cb_block.specs.declared.tx.Tx.{Tx}
use Rattle.cb_block.specs.TxText.{tx_text}
use Rattle.cb_block.specs.TxRules.{IsCoinbase, IsLeastBroken, MeetsFirst, MeetsRules}
use Rattle.cb_block.specs.declared.block.Block.{Block}
use Rattle.cb_block.specs.MerkleTree.{IsRoot, IsMutated}
use Rattle.cb_block.specs.Soundness.{names, IsSound}
use Rattle.cb_block.specs.BlockText.{block_text}

-- the serialisations of the transactions
abbrev pub texts : List Tx → List (List ℕ)
texts txs = map tx_text txs

-- the transactions of the block are sound under the Merkle root in its header
abbrev pub IsSoundBlock : Block → Type 0
IsSoundBlock b = IsSound b.header.root (texts b.txs)

-- The first reason why a block isn't sound: no transactions, one of 64 bytes, a mutated tree, or
-- another root.
abbrev pub IsUnsound : Block → Fault → Type 0
IsUnsound b Empty = length b.txs ≡ 0
IsUnsound b Size64 = Any (λ tx. length (tx_text tx) ≡ 64) b.txs
IsUnsound b Mutated =
    (0 < length b.txs) × All (λ tx. length (tx_text tx) ≢ 64) b.txs
    × IsMutated (names (texts b.txs))
IsUnsound b BadRoot =
    (0 < length b.txs) × All (λ tx. length (tx_text tx) ≢ 64) b.txs
    × (¬ IsMutated (names (texts b.txs))) × (¬ IsRoot (names (texts b.txs)) b.header.root)
IsUnsound b other = ⊥

-- the first transaction is a coinbase, and no other is
abbrev pub HasOneCoinbase : List Tx → Type 0
HasOneCoinbase [] = ⊥
HasOneCoinbase (first ∷ others) = IsCoinbase first × All (λ tx. ¬ IsCoinbase tx) others

-- the rule is the first that the first bad transaction breaks
abbrev pub BreaksFirst : List Tx → TxRule → Type 0
BreaksFirst txs rule =
    (k : ℕ) × (tx : Tx) × (slice_get txs k ≡ Some tx) × IsLeastBroken tx rule
    × All MeetsRules (take k txs)

-- Checking the rules can allocate: some transaction has two inputs or more and meets the first five
-- rules, and all transactions before it meet all of their rules.
abbrev pub AsksMemory : List Tx → Type 0
AsksMemory txs =
    (k : ℕ) × (tx : Tx) × (slice_get txs k ≡ Some tx) × (2 ≤ length tx.inputs) × MeetsFirst tx
    × All MeetsRules (take k txs)

-- at most 1,000,000 bytes, one coinbase, which is first, and transactions that meet their rules
pub record MeetsBlockRules (b : Block) : Type 0 where
  pub size : length (block_text b) ≤ 1000000
  pub coinbase : HasOneCoinbase b.txs
  pub txs : All MeetsRules b.txs

-- the fault of the first of these rules that the block breaks
abbrev pub IsRefused : Block → Fault → Type 0
IsRefused b Oversize = 1000000 < length (block_text b)
IsRefused b BadCoinbase = (length (block_text b) ≤ 1000000) × (¬ HasOneCoinbase b.txs)
IsRefused b (BadTx rule) =
    (length (block_text b) ≤ 1000000) × HasOneCoinbase b.txs × BreaksFirst b.txs rule
IsRefused b other = ⊥
