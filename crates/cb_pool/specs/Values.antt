-- What outputs are worth after a pool's transactions.
use Rattle.std.specs.Prelude.{◌≡◌, ℤ, List, Option, Ok}
use Rattle.std.specs.FinMap as map
use Rattle.cb_block.specs.declared.tx.OutPoint.{OutPoint}
use Rattle.cb_block.specs.declared.tx.Tx.{Tx}
use Rattle.cb_ledger.specs.Spend.{spend}
use Rattle.cb_ledger.specs.Unspent.{Unspent}

-- Once the transactions are spent over the UTXO set, the output is unspent with this value, or
-- isn't unspent.
abbrev pub IsValueAfter : Unspent → List Tx → OutPoint → Option ℤ → Type 0
IsValueAfter u taken point value =
    (after : Unspent) × (spend u taken ≡ Ok after) × (value ≡ map.get after point)
