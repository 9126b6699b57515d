-- A transaction that isn't too long has few outputs.
use Rattle.std.proofs.Common.{◌<◌, ◌≤◌, ◌^◌, List, [], ◌∷◌, ◌++◌, length, arith, ap, inl, inr}
use Rattle.std.specs.List.{flat_map}
use Rattle.std.specs.Int.{w32, w64, to_le_bytes, cast_unsigned}
use Rattle.std.proofs.lemmas.Bool.{cases_lt}
use Rattle.std.proofs.lemmas.List.{length-append}
use Rattle.std.proofs.lemmas.List.Concat.{flat_map-cons}
use Rattle.cb_base.specs.declared.fault.TxRule.TheVariants.{TooLong}
use Rattle.cb_base.specs.CompactSize.{compact_text}
use Rattle.cb_base.proofs.Compact.{compact_long}
use Rattle.cb_block.specs.declared.tx.TxOut.{TxOut}
use Rattle.cb_block.specs.declared.tx.Tx.{Tx}
use Rattle.cb_block.specs.TxRules.{MeetsRules}
use Rattle.cb_block.specs.TxText.{script_text, input_text, output_text, list_text, tx_text}

output_long : (o : TxOut) → 1 ≤ length (output_text o)
unfolding output_text script_text
output_long o =
    omega (arith, compact_long (length o.script), length-append (compact_text (length o.script)) o.script, length-append (to_le_bytes w64 (cast_unsigned w64 o.value)) (compact_text (length o.script) ++ o.script))

outputs_long : (os : List TxOut) → length os ≤ length (flat_map output_text os)
outputs_long [] = omega arith
outputs_long (o ∷ os) =
    omega (arith, outputs_long os, output_long o, ap length (flat_map-cons output_text o os), length-append (output_text o) (flat_map output_text os))

list_longer : (os : List TxOut) → length os ≤ length (list_text output_text os)
unfolding list_text
list_longer os = omega (arith, outputs_long os, length-append (compact_text (length os)) (flat_map output_text os))

tx_longer : (tx : Tx) → length tx.outputs ≤ length (tx_text tx)
unfolding tx_text
tx_longer tx =
    let outputs = list_text output_text tx.outputs in
    let after = outputs ++ to_le_bytes w32 tx.lock_time in
    let rest = list_text input_text tx.inputs ++ after in
    omega (arith, list_longer tx.outputs, length-append outputs (to_le_bytes w32 tx.lock_time), length-append (list_text input_text tx.inputs) after, length-append (to_le_bytes w32 (cast_unsigned w32 tx.version)) rest)

pub few_outputs : (tx : Tx) → MeetsRules tx → length tx.outputs < 2 ^ 32
few_outputs tx meets =
    elim (cases_lt 1000000 (length (tx_text tx))) [
      | inl long ↦ absurd (meets TooLong long)
      | inr short ↦ omega (arith, tx_longer tx, short)
    ]
