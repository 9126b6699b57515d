-- The serialisation of a transaction (Bitcoin's protocol, without the marker, flag and witnesses of
-- BIP 141).
use Rattle.std.specs.Prelude.{◌≡◌, ℕ, ◌<◌, ◌^◌, List, ◌++◌, length, All, FitsSigned}
use Rattle.std.specs.List.{flat_map}
use Rattle.std.specs.Int.{w32, w64, to_le_bytes, cast_unsigned}
use Rattle.cb_base.specs.CompactSize.{compact_text}
use Rattle.cb_block.specs.declared.tx.OutPoint.{OutPoint}
use Rattle.cb_block.specs.declared.tx.TxIn.{TxIn}
use Rattle.cb_block.specs.declared.tx.TxOut.{TxOut}
use Rattle.cb_block.specs.declared.tx.Tx.{Tx}

-- a script: its length, then its bytes
unfoldable pub script_text : List ℕ → List ℕ
script_text bytes = compact_text (length bytes) ++ bytes

-- an input: the output that it spends, the script and the sequence number
unfoldable pub input_text : TxIn → List ℕ
input_text i =
    i.prev.txid.0
    ++ (to_le_bytes w32 i.prev.index ++ (script_text i.script ++ to_le_bytes w32 i.sequence))

-- an output: the value and the script
unfoldable pub output_text : TxOut → List ℕ
output_text o = to_le_bytes w64 (cast_unsigned w64 o.value) ++ script_text o.script

-- a list: its count, then its items
unfoldable pub list_text : {A : Type 0} → (A → List ℕ) → List A → List ℕ
list_text text items = compact_text (length items) ++ flat_map text items

-- a transaction
unfoldable pub tx_text : Tx → List ℕ
tx_text t =
    to_le_bytes w32 (cast_unsigned w32 t.version)
    ++ (list_text input_text t.inputs
    ++ (list_text output_text t.outputs ++ to_le_bytes w32 t.lock_time))

-- an outpoint, and those that inputs spend, one after the other
abbrev pub point_text : OutPoint → List ℕ
point_text point = point.txid.0 ++ to_le_bytes w32 point.index

abbrev pub points_text : List TxIn → List ℕ
points_text inputs = flat_map (λ input. point_text input.prev) inputs

-- What holds of every value in the program: each number fits its field, each hash has 32 bytes.
pub record IsInput (i : TxIn) : Type 0 where
  pub txid : length i.prev.txid.0 ≡ 32
  pub index : i.prev.index < 2 ^ 32
  pub script : length i.script < 2 ^ 64
  pub sequence : i.sequence < 2 ^ 32

pub record IsOutput (o : TxOut) : Type 0 where
  pub value : FitsSigned w64 o.value
  pub script : length o.script < 2 ^ 64

pub record IsTx (t : Tx) : Type 0 where
  pub version : FitsSigned w32 t.version
  pub few_inputs : length t.inputs < 2 ^ 64
  pub inputs : All IsInput t.inputs
  pub few_outputs : length t.outputs < 2 ^ 64
  pub outputs : All IsOutput t.outputs
  pub lock_time : t.lock_time < 2 ^ 32
