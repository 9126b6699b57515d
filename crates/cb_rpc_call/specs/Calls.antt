-- The call that a request asks for (JSON-RPC 1.0: the members `method` and `params`).
use Rattle.std.specs.Prelude.{◌≡◌, ℕ, Bool, true, ◌&&◌, if◌then◌else◌, List, codes, Option, Some, None, option_and_then, Result, Ok, Err}
use Rattle.json.specs.Json.{Json, Members, no_members, member}
use Rattle.json.specs.Json as json
use Rattle.json.specs.Find.{as_str, at, get}
use Rattle.cb_rpc_call.specs.ChainCalls.{block_call, block_hash_call, block_header_call, generate_call, submit_header_call}
use Rattle.cb_rpc_call.specs.ControlCalls.{help_call, logging_call}
use Rattle.cb_rpc_call.specs.Lacking.{lacking_in}
use Rattle.cb_rpc_call.specs.MempoolCalls.{decode_call, mempool_entry_call, raw_mempool_call, raw_transaction_call, send_call, submit_block_call, test_accept_call, tx_out_call}
use Rattle.cb_rpc_call.specs.Methods.{method_in, most, takes}
use Rattle.cb_rpc_call.specs.PeerCalls.{ReadsAddNode, ReadsDisconnectNode, set_network_active_call}
use Rattle.cb_rpc_call.specs.Starving.{InMemory}
use Rattle.cb_rpc_call.specs.declared.call.Call.{Call}
use Rattle.cb_rpc_call.specs.declared.call.Call.TheVariants as calls
use Rattle.cb_rpc_call.specs.declared.call.ReadCall.TheVariants as reads
use Rattle.cb_rpc_call.specs.declared.fault.Lacking.{Lacking}
use Rattle.cb_rpc_call.specs.declared.fault.RpcFault.{RpcFault}
use Rattle.cb_rpc_call.specs.declared.fault.RpcFault.TheVariants.{Lacks, MethodNotText, NoMethod, ParamsNotList, UnknownMethod, UnknownParameter, Usage}
use Rattle.cb_rpc_call.specs.declared.method.Method.{Method}
use Rattle.cb_rpc_call.specs.declared.method.Method.TheVariants.{GetBlockCount, GetBestBlockHash, GetChainTips, GetBlockchainInfo, GetMempoolInfo, GetNetworkInfo, GetNetTotals, GetConnectionCount, GetPeerInfo, Ping, Uptime, Stop, GetBlockHash, GetBlockHeader, GetBlock, GetRawMempool, GetMempoolEntry, GetRawTransaction, GetTxOut, SubmitHeader, Generate, SetNetworkActive, Logging, Help, DecodeRawTransaction, SendRawTransaction, TestMempoolAccept, SubmitBlock, AddNode, DisconnectNode}

-- ---- whether the arguments suit a method

-- the method has a parameter with the name of each member
abbrev pub all_taken : Method → Members → Bool
all_taken method no_members = true
all_taken method (member name j rest) = takes method name && all_taken method rest

abbrev pub misnamed : Method → Members → Option RpcFault
misnamed method ms = if all_taken method ms then None else Some UnknownParameter

abbrev pub too_many : Method → Option Json → Option RpcFault
too_many method None = None
too_many method (Some j) = Some (Usage method)

-- what is wrong with the arguments: there is one at the place behind the last, or one under another
-- name, or they are neither a list nor an object
abbrev pub misfit_in : Method → Json → Option RpcFault
misfit_in method json.null = None
misfit_in method (json.array js) = too_many method (at (most method) (json.array js))
misfit_in method (json.object ms) = misnamed method ms
misfit_in method other = Some ParamsNotList

abbrev pub misfit : Method → Json → Option RpcFault
misfit method request = option_and_then (misfit_in method) (get (codes "params") request)

-- ---- the call

-- the call of a method that the arguments suit
abbrev pub ReadsFitting : Method → Json → Result Call RpcFault → Type 0
ReadsFitting GetBlockCount request result = result ≡ Ok (calls.Read reads.BlockCount)
ReadsFitting GetBestBlockHash request result = result ≡ Ok (calls.Read reads.BestBlockHash)
ReadsFitting GetChainTips request result = result ≡ Ok (calls.Read reads.ChainTips)
ReadsFitting GetBlockchainInfo request result = result ≡ Ok (calls.Read reads.ChainInfo)
ReadsFitting GetMempoolInfo request result = result ≡ Ok (calls.Read reads.MempoolInfo)
ReadsFitting GetNetworkInfo request result = result ≡ Ok calls.NetworkInfo
ReadsFitting GetNetTotals request result = result ≡ Ok calls.NetTotals
ReadsFitting GetConnectionCount request result = result ≡ Ok calls.ConnectionCount
ReadsFitting GetPeerInfo request result = result ≡ Ok calls.PeerInfo
ReadsFitting Ping request result = result ≡ Ok calls.Ping
ReadsFitting Uptime request result = result ≡ Ok calls.Uptime
ReadsFitting Stop request result = result ≡ Ok calls.Stop
ReadsFitting GetBlockHash request result = result ≡ block_hash_call request
ReadsFitting GetBlockHeader request result = result ≡ block_header_call request
ReadsFitting GetBlock request result = result ≡ block_call request
ReadsFitting GetRawMempool request result = result ≡ raw_mempool_call request
ReadsFitting GetMempoolEntry request result = result ≡ mempool_entry_call request
ReadsFitting GetRawTransaction request result = result ≡ raw_transaction_call request
ReadsFitting GetTxOut request result = result ≡ tx_out_call request
ReadsFitting SubmitHeader request result = result ≡ submit_header_call request
ReadsFitting Generate request result = result ≡ generate_call request
ReadsFitting SetNetworkActive request result = result ≡ set_network_active_call request
ReadsFitting Logging request result = result ≡ logging_call request
ReadsFitting Help request result = result ≡ help_call request
ReadsFitting DecodeRawTransaction request result = InMemory (decode_call request) result
ReadsFitting SendRawTransaction request result = InMemory (send_call request) result
ReadsFitting TestMempoolAccept request result = InMemory (test_accept_call request) result
ReadsFitting SubmitBlock request result = InMemory (submit_block_call request) result
ReadsFitting AddNode request result = ReadsAddNode request result
ReadsFitting DisconnectNode request result = ReadsDisconnectNode request result

abbrev pub ReadsUnless : Option RpcFault → Method → Json → Result Call RpcFault → Type 0
ReadsUnless (Some fault) method request result = result ≡ Err fault
ReadsUnless None method request result = ReadsFitting method request result

-- why a method isn't answered
abbrev pub unanswered : Option Lacking → RpcFault
unanswered (Some lacking) = Lacks lacking
unanswered None = UnknownMethod

-- the call of the method with a name
abbrev pub ReadsMethod : Option Method → List ℕ → Json → Result Call RpcFault → Type 0
ReadsMethod (Some method) name request result =
    ReadsUnless (misfit method request) method request result
ReadsMethod None name request result = result ≡ Err (unanswered (lacking_in name))

abbrev pub ReadsNamed : Option (List ℕ) → Json → Result Call RpcFault → Type 0
ReadsNamed (Some name) request result = ReadsMethod (method_in name) name request result
ReadsNamed None request result = result ≡ Err MethodNotText

abbrev pub ReadsMember : Option Json → Json → Result Call RpcFault → Type 0
ReadsMember (Some method) request result = ReadsNamed (as_str method) request result
ReadsMember None request result = result ≡ Err NoMethod

-- the call that a request asks for, or why there is none
abbrev pub Reads : Json → Result Call RpcFault → Type 0
Reads request result = ReadsMember (get (codes "method") request) request result
