-- The parts of a transaction that is all of some bytes, and when they aren't told.
use Rattle.std.specs.Prelude.{◌≡◌, ℕ, ◌<◌, ◌⊎◌, List, length}
use Rattle.cb_base.specs.declared.fault.Fault.{Fault}
use Rattle.cb_base.specs.declared.fault.Fault.TheVariants.{Memory}
use Rattle.cb_block.specs.declared.block.Block.{Block}
use Rattle.cb_relay.specs.Spans.{fields_of, inputs_of, outputs_of}
use Rattle.cb_relay.specs.Whole.{IsBlockOf, IsNoBlock, IsNoTx, IsTxOf}
use Rattle.cb_relay.specs.declared.parts.TxParts.{TxParts}
use Rattle.cb_block.specs.declared.tx.Tx.{Tx}

-- the parts are those of the transaction
pub record AreParts (tx : Tx) (parts : TxParts) : Type 0 where
  pub fields : parts.fields ≡ fields_of tx
  pub inputs : parts.inputs.items ≡ inputs_of tx
  pub outputs : parts.outputs.items ≡ outputs_of tx

-- the transaction has inputs or outputs
abbrev pub HasParts : Tx → Type 0
HasParts tx = (0 < length tx.inputs) ⊎ (0 < length tx.outputs)

-- the bytes are no transaction, for this reason, or memory ran out for its parts
abbrev pub IsNoParts : List ℕ → Fault → Type 0
IsNoParts bytes fault =
    IsNoTx bytes fault
    ⊎ ((tx : Tx) × IsTxOf bytes tx × (fault ≡ Memory) × HasParts tx)

-- the bytes are no block, for this reason, or memory ran out for the places of its transactions
abbrev pub IsNoSpans : List ℕ → Fault → Type 0
IsNoSpans bytes fault =
    IsNoBlock bytes fault
    ⊎ ((block : Block) × IsBlockOf bytes block × (fault ≡ Memory) × (0 < length block.txs))
