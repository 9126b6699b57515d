-- Calls about the mempool and the UTXO set.
use Rattle.std.specs.Prelude.{◌^◌, Bool, true, false, not, ◌==◌, codes, Option, Some, None, ok_or, Result, Ok, Err}
use Rattle.json.specs.Json.{Json}
use Rattle.json.specs.Json as json
use Rattle.json.specs.Find.{as_bool, at}
use Rattle.cb_base.specs.declared.hash.Hash256.{Hash256}
use Rattle.cb_block.specs.declared.block.Block.{Block}
use Rattle.cb_control.specs.Written.{block_in, tx_in}
use Rattle.cb_block.specs.declared.tx.Tx.{Tx}
use Rattle.cb_rpc_call.specs.Arguments.{◌>>=◌, argument, hash_of, if_given, needed, number_of, switch_of, text_of}
use Rattle.cb_rpc_call.specs.ChainCalls.{verbosity}
use Rattle.cb_rpc_call.specs.declared.call.Call.{Call}
use Rattle.cb_rpc_call.specs.declared.call.Call.TheVariants as calls
use Rattle.cb_rpc_call.specs.declared.call.ReadCall.TheVariants as reads
use Rattle.cb_rpc_call.specs.declared.fault.RpcFault.{RpcFault}
use Rattle.cb_rpc_call.specs.declared.fault.RpcFault.TheVariants.{BadBlock, BadTransaction, NotOne, WrongType}
use Rattle.cb_rpc_call.specs.declared.method.Method.TheVariants as methods

abbrev pub raw_mempool_call : Json → Result Call RpcFault
raw_mempool_call request = do
  verbose ← if_given false switch_of (argument 0 (codes "verbose") request)
  Ok (calls.Read (reads.RawMempool verbose))

abbrev pub mempool_entry_call : Json → Result Call RpcFault
mempool_entry_call request = do
  txid ← needed methods.GetMempoolEntry hash_of (argument 0 (codes "txid") request)
  Ok (calls.Read (reads.MempoolEntry txid))

-- whether a transaction is told as fields: true, or a number that isn't 0
abbrev pub verbose_with : Option Bool → Json → Result Bool RpcFault
verbose_with (Some verbose) j = Ok verbose
verbose_with None j = do
  n ← number_of (2 ^ 64) j
  Ok (not (n == 0))

abbrev pub verbose_of : Json → Result Bool RpcFault
verbose_of j = verbose_with (as_bool j) j

-- the hash of a block, if one is named
abbrev pub some_hash_of : Json → Result (Option Hash256) RpcFault
some_hash_of j = do
  hash ← hash_of j
  Ok (Some hash)

abbrev pub raw_transaction_call : Json → Result Call RpcFault
raw_transaction_call request = do
  txid ← needed methods.GetRawTransaction hash_of (argument 0 (codes "txid") request)
  verbose ← if_given false verbose_of (verbosity request)
  block ← if_given None some_hash_of (argument 2 (codes "blockhash") request)
  Ok (calls.Read (reads.RawTransaction txid verbose block))

abbrev pub tx_out_call : Json → Result Call RpcFault
tx_out_call request = do
  txid ← needed methods.GetTxOut hash_of (argument 0 (codes "txid") request)
  index ← needed methods.GetTxOut (number_of (2 ^ 32)) (argument 1 (codes "n") request)
  with_mempool ← if_given true switch_of (argument 2 (codes "include_mempool") request)
  Ok (calls.Read (reads.TxOut (record { txid = txid; index = index }) with_mempool))

-- ---- transactions and blocks in hex

abbrev pub tx_of : Json → Result Tx RpcFault
tx_of j = do
  text ← text_of j
  ok_or (tx_in text) BadTransaction

abbrev pub block_of : Json → Result Block RpcFault
block_of j = do
  text ← text_of j
  ok_or (block_in text) BadBlock

abbrev pub decode_call : Json → Result Call RpcFault
decode_call request = do
  tx ← needed methods.DecodeRawTransaction tx_of (argument 0 (codes "hexstring") request)
  Ok (calls.Read (reads.DecodeTransaction tx))

abbrev pub send_call : Json → Result Call RpcFault
send_call request = do
  tx ← needed methods.SendRawTransaction tx_of (argument 0 (codes "hexstring") request)
  Ok (calls.SendTransaction tx)

-- the one item of a list
abbrev pub one_at : Option Json → Option Json → Result Json RpcFault
one_at (Some first) None = Ok first
one_at other more = Err NotOne

abbrev pub one_of : Json → Result Json RpcFault
one_of (json.array js) = one_at (at 0 (json.array js)) (at 1 (json.array js))
one_of other = Err WrongType

abbrev pub only_tx_of : Json → Result Tx RpcFault
only_tx_of j = do
  one ← one_of j
  tx_of one

abbrev pub test_accept_call : Json → Result Call RpcFault
test_accept_call request = do
  tx ← needed methods.TestMempoolAccept only_tx_of (argument 0 (codes "rawtxs") request)
  Ok (calls.Read (reads.TestAccept tx))

abbrev pub submit_block_call : Json → Result Call RpcFault
submit_block_call request = do
  block ← needed methods.SubmitBlock block_of (argument 0 (codes "hexdata") request)
  Ok (calls.SubmitBlock block)
