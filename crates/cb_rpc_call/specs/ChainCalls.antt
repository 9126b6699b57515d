-- Calls about the chain.
use Rattle.std.specs.Prelude.{ℕ, ◌^◌, Bool, true, if◌then◌else◌, ◌==◌, List, codes, Option, Some, None, ok_or, option_and_then, option_map, Result, Ok, Err}
use Rattle.std.specs.Result.{result_ok}
use Rattle.hex.specs.Hex.{decode_sized}
use Rattle.json.specs.Json.{Json}
use Rattle.json.specs.Find.{as_bool, as_number, later_or}
use Rattle.cb_block.specs.BlockReading.{header_at}
use Rattle.cb_block.specs.declared.header.Header.{Header}
use Rattle.cb_control.specs.Words.{number_in}
use Rattle.cb_rpc_call.specs.Arguments.{◌>>=◌, argument, hash_of, if_given, needed, number_of, switch_of, text_of}
use Rattle.cb_rpc_call.specs.declared.call.Call.{Call}
use Rattle.cb_rpc_call.specs.declared.call.Call.TheVariants as calls
use Rattle.cb_rpc_call.specs.declared.call.Detail.{Detail}
use Rattle.cb_rpc_call.specs.declared.call.Detail.TheVariants.{Hex, Txids, Txs}
use Rattle.cb_rpc_call.specs.declared.call.ReadCall.TheVariants as reads
use Rattle.cb_rpc_call.specs.declared.fault.RpcFault.{RpcFault}
use Rattle.cb_rpc_call.specs.declared.fault.RpcFault.TheVariants.{BadHeader, HeightOutOfRange, OutOfRange, WrongType}
use Rattle.cb_rpc_call.specs.declared.method.Method.TheVariants as methods

-- a height: a number below 2^32
abbrev pub height_of : Json → Result ℕ RpcFault
height_of j = do
  digits ← ok_or (as_number j) WrongType
  ok_or (number_in (2 ^ 32) digits) HeightOutOfRange

abbrev pub block_hash_call : Json → Result Call RpcFault
block_hash_call request = do
  height ← needed methods.GetBlockHash height_of (argument 0 (codes "height") request)
  Ok (calls.Read (reads.BlockHash height))

abbrev pub block_header_call : Json → Result Call RpcFault
block_header_call request = do
  hash ← needed methods.GetBlockHeader hash_of (argument 0 (codes "blockhash") request)
  verbose ← if_given true switch_of (argument 1 (codes "verbose") request)
  Ok (calls.Read (reads.BlockHeader hash verbose))

-- an argument that has two names
abbrev pub verbosity : Json → Option Json
verbosity request =
    later_or (argument 1 (codes "verbosity") request) (argument 1 (codes "verbose") request)

-- how much of a block is told: 0, 1 or 2, or false or true for the first two
abbrev pub detail_numbered : ℕ → Result Detail RpcFault
detail_numbered n =
    if n == 0
    then Ok Hex
    else if n == 1
    then Ok Txids
    else if n == 2
    then Ok Txs
    else Err OutOfRange

abbrev pub detail_with : Option Bool → Json → Result Detail RpcFault
detail_with (Some txids) j = Ok (if txids then Txids else Hex)
detail_with None j = do
  n ← number_of (2 ^ 64) j
  detail_numbered n

abbrev pub detail_of : Json → Result Detail RpcFault
detail_of j = detail_with (as_bool j) j

abbrev pub block_call : Json → Result Call RpcFault
block_call request = do
  hash ← needed methods.GetBlock hash_of (argument 0 (codes "blockhash") request)
  detail ← if_given Txids detail_of (verbosity request)
  Ok (calls.Read (reads.Block hash detail))

-- the header that 160 digits of hex write
abbrev pub header_in : List ℕ → Option Header
header_in text =
    option_and_then (λ bytes. option_map (λ read. read.0) (result_ok (header_at bytes)))
    (result_ok (decode_sized text 80))

abbrev pub header_of : Json → Result Header RpcFault
header_of j = do
  text ← text_of j
  ok_or (header_in text) BadHeader

abbrev pub submit_header_call : Json → Result Call RpcFault
submit_header_call request = do
  header ← needed methods.SubmitHeader header_of (argument 0 (codes "hexdata") request)
  Ok (calls.SubmitHeader header)

-- how many blocks are mined: 1 to 1,000
abbrev pub unless_zero : ℕ → Option ℕ
unless_zero n = if n == 0 then None else Some n

abbrev pub mined_of : Json → Result ℕ RpcFault
mined_of j = do
  digits ← ok_or (as_number j) WrongType
  ok_or (option_and_then unless_zero (number_in 1001 digits)) OutOfRange

abbrev pub generate_call : Json → Result Call RpcFault
generate_call request = do
  count ← needed methods.Generate mined_of (argument 0 (codes "nblocks") request)
  Ok (calls.Generate count)
