-- The JSON that answers a request.
use Rattle.std.specs.Prelude.{if◌then◌else◌, List, [], ◌∷◌, ◌++◌, codes, Result, Ok, Err, unwrap_or}
use Rattle.std.specs.Fmt.{signed_decimal}
use Rattle.json.specs.Json.{Json}
use Rattle.json.specs.Json as json
use Rattle.json.specs.Token.{Token}
use Rattle.json.specs.Tree.{json_tokens}
use Rattle.json.specs.Find.{get}
use Rattle.cb_rpc_call.specs.Faults.{code_of, message_of}
use Rattle.cb_rpc_call.specs.declared.fault.RpcFault.{RpcFault}
use Rattle.cb_rpc.specs.Telling.{told_tokens}
use Rattle.cb_rpc.specs.declared.told.CallResult.{CallResult}
use Rattle.cb_rpc.specs.Requests.{is_second}

-- `"id": ..`: as in the request, or null
abbrev pub id_tokens : Json → List Token
id_tokens request =
    Token.key (codes "id") ∷ json_tokens (unwrap_or (get (codes "id") request) json.null)

abbrev pub code_tokens : RpcFault → List Token
code_tokens fault =
    Token.key (codes "code") ∷ Token.number (signed_decimal (code_of fault)) ∷ []

abbrev pub message_tokens : RpcFault → List Token
message_tokens fault = Token.key (codes "message") ∷ Token.string (message_of fault) ∷ []

-- `{"code": .., "message": ..}`
abbrev pub fault_tokens : RpcFault → List Token
fault_tokens fault =
    Token.begin_object ∷ (code_tokens fault ++ (message_tokens fault ++ Token.end_object ∷ []))

abbrev pub result_tokens : Result CallResult RpcFault → List Token
result_tokens (Ok told) = told_tokens told
result_tokens (Err fault) = Token.null ∷ []

abbrev pub error_tokens : Result CallResult RpcFault → List Token
error_tokens (Ok told) = Token.null ∷ []
error_tokens (Err fault) = fault_tokens fault

-- JSON-RPC 1.x: `{"result": .., "error": .., "id": ..}`, one of the first two null
abbrev pub first_tokens : Json → Result CallResult RpcFault → List Token
first_tokens request outcome =
    Token.begin_object
    ∷ Token.key (codes "result")
    ∷ (result_tokens outcome
    ++ Token.key (codes "error")
    ∷ (error_tokens outcome ++ (id_tokens request ++ Token.end_object ∷ [])))

abbrev pub version_tokens : List Token
version_tokens = Token.key (codes "jsonrpc") ∷ Token.string (codes "2.0") ∷ []

-- `"result": ..` or `"error": ..`
abbrev pub yield_tokens : Result CallResult RpcFault → List Token
yield_tokens (Ok told) = Token.key (codes "result") ∷ told_tokens told
yield_tokens (Err fault) = Token.key (codes "error") ∷ fault_tokens fault

-- JSON-RPC 2.0, section 5: `{"jsonrpc": "2.0", "result": .., "id": ..}`, or `error` for `result`
abbrev pub second_tokens : Json → Result CallResult RpcFault → List Token
second_tokens request outcome =
    Token.begin_object
    ∷ (version_tokens ++ (yield_tokens outcome ++ (id_tokens request ++ Token.end_object ∷ [])))

-- the answer to a request
abbrev pub answer_tokens : Json → Result CallResult RpcFault → List Token
answer_tokens request outcome =
    if is_second request then second_tokens request outcome else first_tokens request outcome
