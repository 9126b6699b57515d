-- The verdict on a block's rules, from those on its transactions.
use Rattle.std.proofs.Common.{◌≡◌, ◌≤◌, ◌⊎◌, List, length, All, Result, Ok, Err, sym, ap, ◌∙◌, subst, inl, inr}
use Rattle.std.specs.Prelude.{MatchResult}
use Rattle.cb_base.specs.declared.fault.Fault.{Fault}
use Rattle.cb_base.specs.declared.fault.Fault.TheVariants.{Memory, BadTx}
use Rattle.cb_base.specs.declared.fault.TxRule.{TxRule}
use Rattle.cb_block.specs.declared.tx.Tx.{Tx}
use Rattle.cb_block.specs.TxRules.{MeetsRules}
use Rattle.cb_block.specs.declared.block.Block.{Block}
use Rattle.cb_block.specs.Blocks.{HasOneCoinbase, BreaksFirst, MeetsBlockRules, IsRefused}
use Rattle.cb_block.specs.BlockText.{block_text}

pub block_verdict : {T : Type 0} (b : Block) (r : Result T Fault) → length (block_text b) ≤ 1000000 → HasOneCoinbase b.txs
    → MatchResult r (λ _. All MeetsRules b.txs) (λ fault. (fault ≡ Memory) ⊎ ((rule : TxRule) × (fault ≡ BadTx rule) × BreaksFirst b.txs rule))
    → MatchResult r (λ _. MeetsBlockRules b) (λ fault. (fault ≡ Memory) ⊎ IsRefused b fault)
block_verdict b (Ok x) size coinbase h = record { size = size; coinbase = coinbase; txs = h }
block_verdict b (Err fault) size coinbase (inl memory) = inl memory
block_verdict b (Err fault) size coinbase (inr h) = inr (subst (IsRefused b) (sym h.1) (size, coinbase, h.2))

-- the same, where the block and its transactions are known by other names
pub block_verdict_at : {T : Type 0} (b other : Block) (txs again : List Tx) (r : Result T Fault) → other ≡ b → txs ≡ other.txs → again ≡ other.txs → length (block_text other) ≤ 1000000 → HasOneCoinbase txs
    → MatchResult r (λ _. All MeetsRules again) (λ fault. (fault ≡ Memory) ⊎ ((rule : TxRule) × (fault ≡ BadTx rule) × BreaksFirst again rule))
    → MatchResult r (λ _. MeetsBlockRules b) (λ fault. (fault ≡ Memory) ⊎ IsRefused b fault)
block_verdict_at b other txs again r e f g size coinbase h =
    let is : txs ≡ b.txs = f ∙ ap (λ (x : Block). x.txs) e in
    let is-again : again ≡ b.txs = g ∙ ap (λ (x : Block). x.txs) e in
    block_verdict b r (subst (λ (x : Block). length (block_text x) ≤ 1000000) e size) (subst HasOneCoinbase is coinbase)
    (subst (λ (x : List Tx). MatchResult r (λ _. All MeetsRules x) (λ fault. (fault ≡ Memory) ⊎ ((rule : TxRule) × (fault ≡ BadTx rule) × BreaksFirst x rule))) is-again h)
