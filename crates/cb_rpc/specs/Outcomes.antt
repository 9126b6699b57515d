-- What comes of a request.
use Rattle.std.specs.Prelude.{◌≡◌, Result, Ok, Err}
use Rattle.json.specs.Json.{Json}
use Rattle.cb_rpc_call.specs.Calls.{Reads}
use Rattle.cb_rpc_call.specs.declared.call.Call.{Call}
use Rattle.cb_rpc_call.specs.declared.fault.RpcFault.{RpcFault}
use Rattle.cb_rpc.specs.declared.told.CallResult.{CallResult}

-- what may be answered to a call
abbrev pub Answering : Type 1
Answering = Call → Result CallResult RpcFault → Type 0

-- what comes of a call that was read, or of why none was
abbrev pub IsHeard : Answering → Result Call RpcFault → Result CallResult RpcFault → Type 0
IsHeard answers (Ok call) outcome = answers call outcome
IsHeard answers (Err fault) outcome = outcome ≡ Err fault

-- what the node answers to the call that a request reads as, or why it is none
abbrev pub IsOutcome : Answering → Json → Result CallResult RpcFault → Type 0
IsOutcome answers request outcome =
    (heard : Result Call RpcFault) × Reads request heard × IsHeard answers heard outcome
