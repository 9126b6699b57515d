-- Why calls are refused: the number, the words and the HTTP status of each reason (Bitcoin Core's
-- RPC error codes; JSON-RPC 2.0, "Error object").
use Rattle.std.specs.Prelude.{ℕ, ℤ, negsuc, List, codes}
use Rattle.cb_base.specs.Fault.{fault_name}
use Rattle.cb_base.specs.declared.fault.Fault.{Fault}
use Rattle.cb_base.specs.declared.fault.Fault.TheVariants as faults
use Rattle.cb_rpc_call.specs.declared.fault.Lacking.{Lacking}
use Rattle.cb_rpc_call.specs.declared.fault.Lacking.TheVariants.{Wallet, Disk, Scripts, Mining}
use Rattle.cb_rpc_call.specs.declared.fault.RpcFault.{RpcFault}
use Rattle.cb_rpc_call.specs.declared.fault.RpcFault.TheVariants.{Unreadable, NotObject, TooMany, NoMethod, MethodNotText, ParamsNotList, UnknownMethod, Lacks, Usage, WrongType, UnknownParameter, BadHash, OutOfRange, BadWord, NotOne, HeightOutOfRange, NoBlock, NoBlockData, NotInMempool, NoTransaction, BadTransaction, BadBlock, BadHeader, MissingInputs, InChain, Rejected, HeaderRejected, MiningFailed, BadAddress, Already, NotAdded, NotConnected, Own, NoSlot, NetworkOff, Internal, Memory, Io, Ending}
use Rattle.cb_rpc_call.specs.declared.status.ResponseStatus.{ResponseStatus}
use Rattle.cb_rpc_call.specs.declared.status.ResponseStatus.TheVariants.{Answered, NoContent, BadRequest, NotFound, ServerError}
use Rattle.cb_rpc_call.specs.Methods.{usage}
use Rattle.cb_rpc_call.specs.Words.{block_words, header_words, reject_words}

abbrev pub code_of : RpcFault → ℤ
code_of Unreadable = negsuc 32699
code_of NotObject = negsuc 32699
code_of TooMany = negsuc 32599
code_of NoMethod = negsuc 32599
code_of MethodNotText = negsuc 32599
code_of ParamsNotList = negsuc 32599
code_of UnknownMethod = negsuc 32600
code_of (Lacks lacking) = negsuc 32600
code_of (Usage method) = negsuc 0
code_of WrongType = negsuc 2
code_of UnknownParameter = negsuc 7
code_of BadHash = negsuc 7
code_of OutOfRange = negsuc 7
code_of BadWord = negsuc 7
code_of NotOne = negsuc 7
code_of HeightOutOfRange = negsuc 7
code_of NoBlock = negsuc 4
code_of NoBlockData = negsuc 0
code_of NotInMempool = negsuc 4
code_of NoTransaction = negsuc 4
code_of BadTransaction = negsuc 21
code_of BadBlock = negsuc 21
code_of BadHeader = negsuc 21
code_of MissingInputs = negsuc 24
code_of InChain = negsuc 26
code_of (Rejected fault) = negsuc 25
code_of (HeaderRejected fault) = negsuc 24
code_of (MiningFailed fault) = negsuc 32602
code_of BadAddress = negsuc 29
code_of Already = negsuc 22
code_of NotAdded = negsuc 23
code_of NotConnected = negsuc 28
code_of Own = negsuc 0
code_of NoSlot = negsuc 0
code_of NetworkOff = negsuc 8
code_of (Internal fault) = negsuc 32602
code_of Memory = negsuc 6
code_of Io = negsuc 0
code_of Ending = negsuc 0

-- what the node doesn't have
abbrev pub lacking_words : Lacking → List ℕ
lacking_words Wallet = codes "Method not found: this node has no wallet"
lacking_words Disk = codes "Method not found: this node keeps no blocks and indexes on a disk"
lacking_words Scripts =
    codes "Method not found: this node has no witnesses, runs no scripts, estimates no fees"
lacking_words Mining = codes "Method not found: this node makes no templates of blocks"

abbrev pub message_of : RpcFault → List ℕ
message_of Unreadable = codes "Parse error"
message_of NotObject = codes "Top-level object parse error"
message_of TooMany = codes "Too many requests in a batch"
message_of NoMethod = codes "Missing method"
message_of MethodNotText = codes "Method must be a string"
message_of ParamsNotList = codes "Params must be an array or object"
message_of UnknownMethod = codes "Method not found"
message_of (Lacks lacking) = lacking_words lacking
message_of (Usage method) = usage method
message_of WrongType = codes "JSON value is not of expected type"
message_of UnknownParameter = codes "Unknown named parameter"
message_of BadHash = codes "hash must be of length 64 and a hexadecimal string"
message_of OutOfRange = codes "JSON integer out of range"
message_of BadWord = codes "Unknown command or level"
message_of NotOne = codes "Array must contain exactly one transaction."
message_of HeightOutOfRange = codes "Block height out of range"
message_of NoBlock = codes "Block not found"
message_of NoBlockData = codes "Block not available (not fully downloaded)"
message_of NotInMempool = codes "Transaction not in mempool"
message_of NoTransaction =
    codes "No such mempool transaction. Use blockhash to query for transactions in a block"
message_of BadTransaction = codes "TX decode failed"
message_of BadBlock = codes "Block decode failed"
message_of BadHeader = codes "Block header decode failed"
message_of MissingInputs = codes "bad-txns-inputs-missingorspent"
message_of InChain = codes "Transaction outputs already in utxo set"
message_of (Rejected fault) = reject_words fault
message_of (HeaderRejected fault) = header_words fault
message_of (MiningFailed fault) = block_words fault
message_of BadAddress = codes "Error: Invalid IP address or hostname"
message_of Already = codes "Error: Node already added"
message_of NotAdded = codes "Error: Node could not be removed. It has not been added previously."
message_of NotConnected = codes "Node not found in connected nodes"
message_of Own = codes "The address is the node's own"
message_of NoSlot = codes "No slot is free"
message_of NetworkOff = codes "Network activity is disabled"
message_of (Internal fault) = fault_name fault
message_of Memory = codes "Out of memory"
message_of Io = codes "A call of the system failed"
message_of Ending = codes "The node is about to end"

-- the status of the HTTP response that tells it alone
abbrev pub status_of : RpcFault → ResponseStatus
status_of TooMany = BadRequest
status_of NoMethod = BadRequest
status_of MethodNotText = BadRequest
status_of ParamsNotList = BadRequest
status_of UnknownMethod = NotFound
status_of (Lacks lacking) = NotFound
status_of other = ServerError

-- the number of a status
abbrev pub status_number : ResponseStatus → ℕ
status_number Answered = 200
status_number NoContent = 204
status_number BadRequest = 400
status_number NotFound = 404
status_number ServerError = 500

-- a fault of the hall that no request calls for
abbrev pub internal_fault : Fault → RpcFault
internal_fault faults.Memory = Memory
internal_fault fault = Internal fault
