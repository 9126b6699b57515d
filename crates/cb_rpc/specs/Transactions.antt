-- A transaction as fields: Bitcoin Core's `decoderawtransaction` and `getrawtransaction`
-- (`TxToUniv` in core_write.cpp, `TxToJSON` in rpc/rawtransaction.cpp).
use Rattle.std.specs.Prelude.{ℕ, suc, Bool, ◌==◌, ◌&&◌, if◌then◌else◌, false, List, [], ◌∷◌, ◌++◌, length, replicate, codes, bytes_eq, Option, Some, None}
use Rattle.std.specs.Int.{w32, cast_unsigned}
use Rattle.std.specs.List.{flat_map}
use Rattle.json.specs.Token.{Token}
use Rattle.cb_base.specs.declared.hash.Hash256.{Hash256}
use Rattle.cb_block.specs.declared.tx.OutPoint.{OutPoint}
use Rattle.cb_block.specs.declared.tx.Tx.{Tx}
use Rattle.cb_block.specs.declared.tx.TxIn.{TxIn}
use Rattle.cb_block.specs.declared.tx.TxOut.{TxOut}
use Rattle.cb_block.specs.TxText.{tx_text}
use Rattle.cb_rpc.specs.declared.told.TxPlace.{TxPlace}
use Rattle.cb_rpc.specs.declared.told.TxReport.{TxReport}
use Rattle.cb_rpc_call.specs.Amounts.{amount_field}
use Rattle.cb_rpc_call.specs.Fields.{capped, hash_field, hex_field, number_field, object_tokens, switch_field, weight_of}

-- a script in hex
unfoldable pub script_field : List ℕ → List ℕ → List Token
script_field name script = Token.key name ∷ object_tokens (hex_field (codes "hex") script)

-- the null outpoint: txid zero and index ffffffff
abbrev pub is_null : OutPoint → Bool
is_null prev = bytes_eq prev.txid.0 (replicate 32 0) && (prev.index == 4294967295)

-- a coinbase has exactly one input, which has the null outpoint
abbrev pub is_coinbase : List TxIn → Bool
is_coinbase [] = false
is_coinbase (only ∷ []) = is_null only.prev
is_coinbase (first ∷ second ∷ others) = false

-- what an input spends, and its script
unfoldable pub source_fields : Bool → TxIn → List Token
source_fields coinbase input =
    if coinbase then hex_field (codes "coinbase") input.script
    else hash_field (codes "txid") input.prev.txid
    ++ (number_field (codes "vout") input.prev.index
    ++ script_field (codes "scriptSig") input.script)

unfoldable pub input_tokens : Bool → TxIn → List Token
input_tokens coinbase input =
    object_tokens
    (source_fields coinbase input ++ number_field (codes "sequence") input.sequence)

unfoldable pub inputs_field : List TxIn → List Token
inputs_field inputs =
    Token.key (codes "vin") ∷ Token.begin_array
    ∷ (flat_map (input_tokens (is_coinbase inputs)) inputs ++ Token.end_array ∷ [])

unfoldable pub output_tokens : ℕ → TxOut → List Token
output_tokens place output =
    object_tokens
    (amount_field (codes "value") output.value
    ++ (number_field (codes "n") place ++ script_field (codes "scriptPubKey") output.script))

-- outputs, of which the first has this place
abbrev pub outputs_from : ℕ → List TxOut → List Token
outputs_from place [] = []
outputs_from place (output ∷ outputs) =
    output_tokens place output ++ outputs_from (suc place) outputs

unfoldable pub outputs_field : List TxOut → List Token
outputs_field outputs =
    Token.key (codes "vout") ∷ Token.begin_array
    ∷ (outputs_from 0 outputs ++ Token.end_array ∷ [])

-- Names and version. Without witnesses (BIP 141) both names are the txid. The version is told
-- without a sign, as Bitcoin Core does.
unfoldable pub name_fields : Hash256 → Tx → List Token
name_fields txid tx =
    hash_field (codes "txid") txid
    ++ (hash_field (codes "hash") txid
    ++ number_field (codes "version") (cast_unsigned w32 tx.version))

-- how many bytes it has
abbrev pub tx_size : Tx → ℕ
tx_size tx = capped (length (tx_text tx))

unfoldable pub size_fields : Tx → List Token
size_fields tx =
    number_field (codes "size") (tx_size tx)
    ++ (number_field (codes "vsize") (tx_size tx)
    ++ (number_field (codes "weight") (weight_of (tx_size tx))
    ++ number_field (codes "locktime") tx.lock_time))

unfoldable pub tx_fields : Hash256 → Tx → List Token
tx_fields txid tx =
    name_fields txid tx
    ++ (size_fields tx ++ (inputs_field tx.inputs ++ outputs_field tx.outputs))

-- whether the block that was named is on the best chain
abbrev pub active_field : Option TxPlace → List Token
active_field None = []
active_field (Some place) = switch_field (codes "in_active_chain") place.active

abbrev pub bytes_field : Bool → Tx → List Token
bytes_field hex tx = if hex then hex_field (codes "hex") (tx_text tx) else []

-- the times of a block on the best chain
unfoldable pub block_times : TxPlace → List Token
block_times place =
    if place.active
    then number_field (codes "time") place.time ++ number_field (codes "blocktime") place.time
    else []

-- the block that was named
unfoldable pub block_fields : TxPlace → List Token
block_fields place =
    hash_field (codes "blockhash") place.block
    ++ (number_field (codes "confirmations") place.confirmations ++ block_times place)

abbrev pub named_fields : Option TxPlace → List Token
named_fields None = []
named_fields (Some place) = block_fields place

abbrev pub tx_tokens : TxReport → List Token
tx_tokens report =
    object_tokens
    (active_field report.place
    ++ (tx_fields report.txid report.tx
    ++ (bytes_field report.hex report.tx ++ named_fields report.place)))
