-- Which outputs transactions spend or make, and when two lists of transactions have none in common.
use Rattle.std.specs.Prelude.{◌≡◌, ◌<◌, ◌⊎◌, List, [], ◌∷◌, length}
use Rattle.cb_block.specs.declared.tx.OutPoint.{OutPoint}
use Rattle.cb_block.specs.declared.tx.Tx.{Tx}
use Rattle.cb_ledger.specs.Touched.{IsNamed}
use Rattle.cb_block.specs.Txid.{txid_of}

-- a transaction spends or makes the output
abbrev pub IsTouchedBy : Tx → OutPoint → Type 0
IsTouchedBy tx point =
    IsNamed tx.inputs point ⊎ ((point.txid ≡ txid_of tx) × (point.index < length tx.outputs))

-- one of the transactions spends or makes the output
abbrev pub IsTouched : List Tx → OutPoint → Type 0
IsTouched [] point = ⊥
IsTouched (tx ∷ txs) point = IsTouchedBy tx point ⊎ IsTouched txs point

-- the two lists spend or make no output in common
abbrev pub AreApart : List Tx → List Tx → Type 0
AreApart txs others = (point : OutPoint) → IsTouched txs point → ¬ IsTouched others point
