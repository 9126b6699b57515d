-- What bytes say as a whole: nothing may be left over. Memory is told only where something had to
-- be allocated.
use Rattle.std.specs.Prelude.{◌≡◌, ℕ, ◌<◌, ◌≤◌, ◌⊎◌, List, [], ◌∷◌, length, Result, Ok, Err}
use Rattle.cb_base.specs.Reading.{Read}
use Rattle.cb_base.specs.declared.fault.Fault.{Fault}
use Rattle.cb_base.specs.declared.fault.Fault.TheVariants.{BadTx, BadWork, Memory, Trailing}
use Rattle.cb_base.specs.declared.fault.TxRule.{TxRule}
use Rattle.cb_block.specs.Blocks.{AsksMemory, HasOneCoinbase, IsRefused, IsSoundBlock, IsUnsound, MeetsBlockRules}
use Rattle.cb_block.specs.BlockReading as blocks
use Rattle.cb_block.specs.BlockText.{IsBlock, IsHeader, block_text, header_text}
use Rattle.cb_block.specs.Work.{HasWork}
use Rattle.cb_block.specs.declared.block.Block.{Block}
use Rattle.cb_block.specs.declared.header.Header.{Header}
use Rattle.cb_block.specs.TxReading as transactions
use Rattle.cb_block.specs.TxRules.{IsLeastBroken, MeetsFirst, MeetsRules}
use Rattle.cb_block.specs.TxText.{IsTx, tx_text}
use Rattle.cb_block.specs.declared.tx.Tx.{Tx}

-- a read that leaves nothing over
abbrev pub whole : {A : Type 0} → Read A → Result A Fault
whole (Err fault) = Err fault
whole (Ok (value, [])) = Ok value
whole (Ok (value, byte ∷ bytes)) = Err Trailing

-- the bytes are this header's
abbrev pub IsHeaderOf : List ℕ → Header → Type 0
IsHeaderOf bytes header = IsHeader header × (bytes ≡ header_text header)

-- the bytes are no header, for this reason
abbrev pub IsNoHeader : List ℕ → Fault → Type 0
IsNoHeader bytes fault = whole (blocks.header_at bytes) ≡ Err fault

-- the bytes are no header with work, for this reason
abbrev pub IsNoWork : List ℕ → Fault → Type 0
IsNoWork bytes fault =
    IsNoHeader bytes fault
    ⊎ ((header : Header) × IsHeaderOf bytes header × (fault ≡ BadWork) × (¬ HasWork header))

-- the bytes are this transaction's
abbrev pub IsTxOf : List ℕ → Tx → Type 0
IsTxOf bytes tx = IsTx tx × (bytes ≡ tx_text tx)

-- the bytes are no transaction, for this reason, or memory ran out for its lists
abbrev pub IsNoTx : List ℕ → Fault → Type 0
IsNoTx bytes fault =
    (whole (transactions.tx_at bytes) ≡ Err fault)
    ⊎ ((fault ≡ Memory) × transactions.TakesMemory bytes)

-- the rule is the first that the transaction breaks, or memory ran out for the outputs that it
-- spends, which are two or more
abbrev pub IsRefusedTx : Tx → Fault → Type 0
IsRefusedTx tx fault =
    ((rule : TxRule) × (fault ≡ BadTx rule) × IsLeastBroken tx rule)
    ⊎ ((fault ≡ Memory) × MeetsFirst tx × (2 ≤ length tx.inputs))

-- the bytes are no transaction that meets the rules, for this reason
abbrev pub IsNoValidTx : List ℕ → Fault → Type 0
IsNoValidTx bytes fault = IsNoTx bytes fault ⊎ ((tx : Tx) × IsTxOf bytes tx × IsRefusedTx tx fault)

-- the bytes are this block's
abbrev pub IsBlockOf : List ℕ → Block → Type 0
IsBlockOf bytes block = IsBlock block × (bytes ≡ block_text block)

-- the bytes are no block, for this reason, or memory ran out for its transactions
abbrev pub IsNoBlock : List ℕ → Fault → Type 0
IsNoBlock bytes fault =
    (whole (blocks.block_at bytes) ≡ Err fault) ⊎ ((fault ≡ Memory) × blocks.TakesMemory bytes)

-- the block isn't sound, for this reason, or memory ran out for its tree
abbrev pub IsNoSound : Block → Fault → Type 0
IsNoSound block fault = IsUnsound block fault ⊎ ((fault ≡ Memory) × (0 < length block.txs))

-- the bytes are this sound block's
abbrev pub IsSoundOf : List ℕ → Block → Type 0
IsSoundOf bytes block = IsBlockOf bytes block × IsSoundBlock block

-- the bytes are no sound block, for this reason
abbrev pub IsNoSoundBlock : List ℕ → Fault → Type 0
IsNoSoundBlock bytes fault =
    IsNoBlock bytes fault ⊎ ((block : Block) × IsBlockOf bytes block × IsNoSound block fault)

-- The sound block breaks a rule, which is the first, or memory ran out for the outputs that a
-- transaction spends: its size and coinbase are right.
abbrev pub IsNoValid : Block → Fault → Type 0
IsNoValid block fault =
    IsRefused block fault
    ⊎ ((fault ≡ Memory) × (length (block_text block) ≤ 1000000) × HasOneCoinbase block.txs
    × AsksMemory block.txs)

-- the bytes are this sound block's, and it meets the rules
abbrev pub IsValidOf : List ℕ → Block → Type 0
IsValidOf bytes block = IsSoundOf bytes block × MeetsBlockRules block

-- the bytes are no sound block that meets the rules, for this reason
abbrev pub IsNoValidBlock : List ℕ → Fault → Type 0
IsNoValidBlock bytes fault =
    IsNoSoundBlock bytes fault ⊎ ((block : Block) × IsSoundOf bytes block × IsNoValid block fault)
