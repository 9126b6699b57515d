-- Regtest's genesis block meets the rules of a block.
use Rattle.std.proofs.Common.{◌≡◌, ◌≤◌, zero, suc, [], ◌++◌, length, map, refl, sym, subst, arith, inl, inr}
use Rattle.std.specs.Int.{w32, to_le_bytes}
use Rattle.std.proofs.lemmas.Int.{ints}
use Rattle.std.proofs.lemmas.List.{length-append}
use Rattle.std.proofs.lemmas.List.Elements.{All-cons}
use Rattle.std.proofs.lemmas.Option.{slice_get_within}
use Rattle.cb_base.specs.CompactSize.{compact_text}
use Rattle.cb_base.specs.declared.fault.TxRule.TheVariants.{NoInputs, NoOutputs, TooLong, BadValue, BadSum, RepeatedInput, BadCoinbaseScript, NullInput}
use Rattle.cb_base.proofs.Hashes.{length-double_hash}
use Rattle.cb_block.specs.declared.tx.TxIn.{TxIn}
use Rattle.cb_block.specs.declared.tx.TxOut.{TxOut}
use Rattle.cb_block.specs.TxRules.{HasBadScript, IsOutsideMoney, MeetsRules}
use Rattle.cb_block.specs.TxText.{tx_text, list_text, input_text, output_text, script_text}
use Rattle.cb_block.specs.Blocks.{MeetsBlockRules}
use Rattle.cb_block.specs.Genesis.{genesis_block, genesis_header, genesis_tx, headline, to_a_key}
use Rattle.cb_block.specs.BlockText.{block_text, header_text}
use Rattle.cb_state.proofs.MinedLaws.{money}

-- ---- its bytes

header_long : length (header_text genesis_header) ≡ 80
unfolding header_text
header_long =
    let h = genesis_header in
    let tail = to_le_bytes w32 h.time ++ (to_le_bytes w32 h.bits ++ to_le_bytes w32 h.nonce) in
    let prev : length h.prev.0 ≡ 32 = refl in
    omega (arith, prev, length-double_hash (tx_text genesis_tx), length-append h.prev.0 (h.root.0 ++ tail), length-append h.root.0 tail)

txs_long : length (list_text tx_text genesis_block.txs) ≡ 205
unfolding tx_text list_text input_text output_text script_text compact_text headline to_a_key
txs_long = refl

tx_long : length (tx_text genesis_tx) ≡ 204
unfolding tx_text list_text input_text output_text script_text compact_text headline to_a_key
tx_long = refl

first_long : length (block_text genesis_block) ≤ 1000000
unfolding block_text
first_long = omega (arith, header_long, txs_long, length-append (header_text genesis_header) (list_text tx_text genesis_block.txs))

-- ---- the rules of its transaction

script_long : length headline ≡ 77
unfolding headline
script_long = refl

tx_meets_rules : MeetsRules genesis_tx
tx_meets_rules NoInputs e = cc
tx_meets_rules NoOutputs e = cc
tx_meets_rules TooLong long = absurd (omega (arith, long, tx_long))
tx_meets_rules BadValue (zero, output, lt, is, outside) = money (subst (λ (o : TxOut). IsOutsideMoney o.value) (sym is) outside)
tx_meets_rules BadValue (suc k, output, lt, is, outside) = absurd (omega (arith, lt))
tx_meets_rules BadSum above = grind (arith, ints)
tx_meets_rules RepeatedInput twice = absurd (omega (arith, twice.3, slice_get_within (map (λ (input : TxIn). input.prev) genesis_tx.inputs) twice.2 twice.0 twice.5))
tx_meets_rules BadCoinbaseScript bad = go bad.1 where
  go : HasBadScript genesis_tx.inputs → ⊥
  go (inl short) = absurd (omega (arith, short, script_long))
  go (inr long) = absurd (omega (arith, long, script_long))
tx_meets_rules NullInput other = other.0 (refl, refl)

pub first_meets_rules : MeetsBlockRules genesis_block
first_meets_rules = record {
  size = first_long;
  coinbase = ((refl, refl), λ k tx lt. absurd (omega (arith, lt)));
  txs = All-cons MeetsRules genesis_tx [] tx_meets_rules (λ k tx lt. absurd (omega (arith, lt)));
}
