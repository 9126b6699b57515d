-- The words of refusals (Bitcoin Core's reject reasons; those of a block: BIP 22).
use Rattle.std.specs.Prelude.{ℕ, List, codes}
use Rattle.cb_base.specs.Fault.{fault_name}
use Rattle.cb_base.specs.declared.fault.Fault.{Fault}
use Rattle.cb_base.specs.declared.fault.Fault.TheVariants as faults
use Rattle.cb_base.specs.declared.fault.TxRule.{TxRule}
use Rattle.cb_base.specs.declared.fault.TxRule.TheVariants.{NoInputs, NoOutputs, TooLong, BadValue, BadSum, RepeatedInput, BadCoinbaseScript, NullInput}

-- which rule a transaction breaks by itself
abbrev pub rule_words : TxRule → List ℕ
rule_words NoInputs = codes "bad-txns-vin-empty"
rule_words NoOutputs = codes "bad-txns-vout-empty"
rule_words TooLong = codes "bad-txns-oversize"
rule_words BadValue = codes "bad-txns-vout-outofrange"
rule_words BadSum = codes "bad-txns-txouttotal-toolarge"
rule_words RepeatedInput = codes "bad-txns-inputs-duplicate"
rule_words BadCoinbaseScript = codes "bad-cb-length"
rule_words NullInput = codes "bad-txns-prevout-null"

-- why the mempool refuses a transaction
abbrev pub reject_words : Fault → List ℕ
reject_words (faults.BadTx rule) = rule_words rule
reject_words faults.Size64 = codes "tx-size-small"
reject_words faults.BadCoinbase = codes "coinbase"
reject_words faults.Known = codes "txn-already-in-mempool"
reject_words faults.NoInput = codes "missing-inputs"
reject_words faults.PoolFull = codes "mempool full"
reject_words faults.Overspent = codes "bad-txns-in-belowout"
reject_words faults.Remade = codes "txn-already-known"
reject_words other = fault_name other

-- why the chain refuses a block
abbrev pub block_words : Fault → List ℕ
block_words (faults.BadTx rule) = rule_words rule
block_words faults.BadRoot = codes "bad-txnmrklroot"
block_words faults.Mutated = codes "bad-txns-duplicate"
block_words faults.Empty = codes "bad-blk-length"
block_words faults.Oversize = codes "bad-blk-length"
block_words faults.BadCoinbase = codes "bad-cb-missing"
block_words faults.BadWork = codes "high-hash"
block_words faults.Known = codes "duplicate"
block_words faults.NoInput = codes "bad-txns-inputs-missingorspent"
block_words faults.Overspent = codes "bad-txns-in-belowout"
block_words faults.Remade = codes "bad-txns-BIP30"
block_words faults.NoParent = codes "prev-blk-not-found"
block_words faults.BadParent = codes "duplicate-invalid"
block_words other = codes "rejected"

-- why the chain refuses a header
abbrev pub header_words : Fault → List ℕ
header_words faults.NoParent = codes "Must submit previous header first"
header_words faults.BadParent = codes "bad-prevblk"
header_words other = block_words other
