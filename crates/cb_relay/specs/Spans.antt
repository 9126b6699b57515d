-- Where the parts of a transaction lie in its serialisation, and transactions in that of a block.
use Rattle.std.specs.Prelude.{ℕ, ◌+◌, List, [], ◌∷◌, drop, length, take}
use Rattle.cb_base.specs.CompactSize.{compact_text}
use Rattle.cb_block.specs.declared.block.Block.{Block}
use Rattle.cb_relay.specs.Shapes.{shape_of_hash}
use Rattle.cb_relay.specs.declared.shapes.CbInput.{CbInput}
use Rattle.cb_relay.specs.declared.shapes.CbOutput.{CbOutput}
use Rattle.cb_relay.specs.declared.shapes.CbSpan.{CbSpan}
use Rattle.cb_relay.specs.declared.shapes.CbTx.{CbTx}
use Rattle.cb_block.specs.TxText.{input_text, list_text, output_text, tx_text}
use Rattle.cb_block.specs.declared.tx.Tx.{Tx}
use Rattle.cb_block.specs.declared.tx.TxIn.{TxIn}
use Rattle.cb_block.specs.declared.tx.TxOut.{TxOut}

-- what lies at a span
abbrev pub cut : List ℕ → CbSpan → List ℕ
cut bytes span = take span.len (drop span.offset bytes)

-- a script lies behind the CompactSize of its length, which begins there
abbrev pub script_span : ℕ → List ℕ → CbSpan
script_span at script =
    record { offset = at + length (compact_text (length script)); len = length script }

-- an input that begins there: its script lies behind a txid and an index of 4 bytes
abbrev pub input_at : ℕ → TxIn → CbInput
input_at at input = record {
  txid = shape_of_hash input.prev.txid;
  index = input.prev.index;
  sequence = input.sequence;
  script = script_span (at + 36) input.script;
}

-- an output that begins there: its script lies behind a value of 8 bytes
abbrev pub output_at : ℕ → TxOut → CbOutput
output_at at output = record { value = output.value; script = script_span (at + 8) output.script }

-- inputs one after the other, the first of which begins there
abbrev pub inputs_at : ℕ → List TxIn → List CbInput
inputs_at at [] = []
inputs_at at (input ∷ others) =
    input_at at input ∷ inputs_at (at + length (input_text input)) others

-- outputs one after the other, the first of which begins there
abbrev pub outputs_at : ℕ → List TxOut → List CbOutput
outputs_at at [] = []
outputs_at at (output ∷ others) =
    output_at at output ∷ outputs_at (at + length (output_text output)) others

-- transactions one after the other, the first of which begins there
abbrev pub txs_at : ℕ → List Tx → List CbSpan
txs_at at [] = []
txs_at at (tx ∷ others) =
    record { offset = at; len = length (tx_text tx) } ∷ txs_at (at + length (tx_text tx)) others

-- the inputs begin behind the version of 4 bytes and their count
abbrev pub inputs_of : Tx → List CbInput
inputs_of tx = inputs_at (4 + length (compact_text (length tx.inputs))) tx.inputs

-- the outputs begin behind the version, the inputs with their count, and the count of outputs
abbrev pub outputs_of : Tx → List CbOutput
outputs_of tx =
    outputs_at
    (4 + length (list_text input_text tx.inputs) + length (compact_text (length tx.outputs)))
    tx.outputs

-- the other fields
abbrev pub fields_of : Tx → CbTx
fields_of tx = record {
  version = tx.version;
  lock_time = tx.lock_time;
  inputs = length tx.inputs;
  outputs = length tx.outputs;
}

-- the transactions of a block begin behind its header of 80 bytes and their count
abbrev pub spans_of : Block → List CbSpan
spans_of block = txs_at (80 + length (compact_text (length block.txs))) block.txs
