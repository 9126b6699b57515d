-- The rules that a transaction must meet by itself (Bitcoin's consensus, without scripts).
use Rattle.std.specs.Prelude.{◌≡◌, ℕ, ◌<◌, ◌⊎◌, ℤ, pos, ◌+ℤ◌, ◌<ℤ◌, List, [], ◌∷◌, length, map, fold, replicate, Any, slice_get, Some}
use Rattle.cb_base.specs.declared.fault.TxRule.{TxRule}
use Rattle.cb_base.specs.declared.fault.TxRule.TheVariants.{NoInputs, NoOutputs, TooLong, BadValue, BadSum, RepeatedInput, BadCoinbaseScript, NullInput}
use Rattle.cb_base.specs.Fault.{rule_number}
use Rattle.cb_block.specs.declared.tx.OutPoint.{OutPoint}
use Rattle.cb_block.specs.declared.tx.TxIn.{TxIn}
use Rattle.cb_block.specs.declared.tx.TxOut.{TxOut}
use Rattle.cb_block.specs.declared.tx.Tx.{Tx}
use Rattle.cb_block.specs.TxText.{tx_text}

-- the null outpoint: txid zero and index ffffffff
abbrev pub IsNull : OutPoint → Type 0
IsNull prev = (prev.txid.0 ≡ replicate 32 0) × (prev.index ≡ 4294967295)

-- exactly one input, which has the null outpoint
abbrev pub IsCoinbaseInputs : List TxIn → Type 0
IsCoinbaseInputs [] = ⊥
IsCoinbaseInputs (only ∷ []) = IsNull only.prev
IsCoinbaseInputs (first ∷ second ∷ others) = ⊥

abbrev pub IsCoinbase : Tx → Type 0
IsCoinbase t = IsCoinbaseInputs t.inputs

-- a value below 0, or above 21,000,000 bitcoins of 100,000,000 satoshis each
abbrev pub IsOutsideMoney : ℤ → Type 0
IsOutsideMoney value = (value <ℤ pos 0) ⊎ (pos 2100000000000000 <ℤ value)

-- the sum of the values of the outputs
abbrev pub value_sum : List TxOut → ℤ
value_sum outputs = fold (λ sum output. sum +ℤ output.value) (pos 0) outputs

-- two inputs, at different indexes, spend the same output
abbrev pub SpendsTwice : List TxIn → Type 0
SpendsTwice inputs = (prev : OutPoint) × (i : ℕ) × (j : ℕ) × (i < j)
    × (slice_get (map (λ input. input.prev) inputs) i ≡ Some prev)
    × (slice_get (map (λ input. input.prev) inputs) j ≡ Some prev)

-- the script of the first input has fewer than 2 bytes or more than 100
abbrev pub HasBadScript : List TxIn → Type 0
HasBadScript [] = ⊥
HasBadScript (first ∷ others) = (length first.script < 2) ⊎ (100 < length first.script)

-- the transaction breaks the rule
abbrev pub Breaks : Tx → TxRule → Type 0
Breaks t NoInputs = t.inputs ≡ []
Breaks t NoOutputs = t.outputs ≡ []
Breaks t TooLong = 1000000 < length (tx_text t)
Breaks t BadValue = Any (λ output. IsOutsideMoney output.value) t.outputs
Breaks t BadSum = pos 2100000000000000 <ℤ value_sum t.outputs
Breaks t RepeatedInput = SpendsTwice t.inputs
Breaks t BadCoinbaseScript = IsCoinbase t × HasBadScript t.inputs
Breaks t NullInput = (¬ IsCoinbase t) × Any (λ input. IsNull input.prev) t.inputs

-- the rule is the first that the transaction breaks
pub record IsLeastBroken (t : Tx) (rule : TxRule) : Type 0 where
  pub broken : Breaks t rule
  pub earlier : (other : TxRule) → rule_number other < rule_number rule → ¬ Breaks t other

-- it breaks no rule
abbrev pub MeetsRules : Tx → Type 0
MeetsRules t = (rule : TxRule) → ¬ Breaks t rule

-- it breaks none of the first five rules
abbrev pub MeetsFirst : Tx → Type 0
MeetsFirst t = (rule : TxRule) → rule_number rule < 6 → ¬ Breaks t rule
