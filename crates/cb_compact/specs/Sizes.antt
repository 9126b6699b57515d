-- Why a block has few transactions: each has an input, which names an output by a hash of 32 bytes.
use Rattle.std.specs.Prelude.{◌≡◌, ⊤, List, [], ◌∷◌, length}
use Rattle.cb_block.specs.declared.tx.Tx.{Tx}
use Rattle.cb_block.specs.declared.tx.TxIn.{TxIn}

abbrev pub BeginsByHash : List TxIn → Type 0
BeginsByHash [] = ⊤
BeginsByHash (first ∷ others) = length first.prev.txid.0 ≡ 32

-- The first input, if there is one, names its output by 32 bytes.
abbrev pub SpendsByHash : Tx → Type 0
SpendsByHash tx = BeginsByHash tx.inputs
