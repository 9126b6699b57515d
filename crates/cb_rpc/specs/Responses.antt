-- What answers a text.
use Rattle.std.specs.Prelude.{◌≡◌, ◌⊎◌, ◌≤◌, ◌<◌, ℕ, zero, suc, Bool, true, false, not, ◌||◌, nat_eq, if◌then◌else◌, List, [], ◌∷◌, ◌++◌, Some, None, Result, Ok, Err}
use Rattle.std.specs.Str.{IsUtf8}
use Rattle.json.specs.Json.{Json, document}
use Rattle.json.specs.Json as json
use Rattle.json.specs.Token.{Token}
use Rattle.json.specs.Print.{print}
use Rattle.cb_rpc_call.specs.Faults.{status_of}
use Rattle.cb_rpc_call.specs.declared.fault.RpcFault.{RpcFault}
use Rattle.cb_rpc_call.specs.declared.fault.RpcFault.TheVariants.{Unreadable, NotObject, TooMany}
use Rattle.cb_rpc_call.specs.declared.status.ResponseStatus.{ResponseStatus}
use Rattle.cb_rpc_call.specs.declared.status.ResponseStatus.TheVariants.{Answered, NoContent}
use Rattle.cb_rpc.specs.declared.told.CallResult.{CallResult}
use Rattle.cb_rpc.specs.Answers.{answer_tokens}
use Rattle.cb_rpc.specs.Outcomes.{Answering, IsOutcome}
use Rattle.cb_rpc.specs.Requests.{is_note, is_second, request_at, size_of}
use Rattle.cb_rpc.specs.declared.response.Response.{Response}
use Rattle.cb_rpc.specs.declared.listing.TheConstants.{MOST_REQUESTS}

-- nothing is answered
abbrev pub IsSilent : Response → Type 0
IsSilent response = (response.status ≡ NoContent) × (response.text.items ≡ [])

abbrev pub first_status : Result CallResult RpcFault → ResponseStatus
first_status (Ok told) = Answered
first_status (Err fault) = status_of fault

-- the status of an answer that stands alone
abbrev pub outcome_status : Json → Result CallResult RpcFault → ResponseStatus
outcome_status request outcome = if is_second request then Answered else first_status outcome

-- a line of JSON that answers a request
abbrev pub IsPrinted : Json → Result CallResult RpcFault → Response → Type 0
IsPrinted request outcome response =
    (response.status ≡ outcome_status request outcome)
    × (response.text.items ≡ print (answer_tokens request outcome) ++ 10 ∷ [])

-- what answers a request that stands alone: nothing if it is a notification
abbrev pub IsAlone : Json → Result CallResult RpcFault → Response → Type 0
IsAlone request outcome response =
    ((is_note request ≡ true) × IsSilent response)
    ⊎ ((is_note request ≡ false) × IsPrinted request outcome response)

-- the answer to a request is added to those before it; none if it is a notification
abbrev pub AddsOne : Answering → Json → List Token → List Token → Type 0
AddsOne answers request before after =
    (outcome : Result CallResult RpcFault) × IsOutcome answers request outcome
    × (after ≡ before ++ (if is_note request then [] else answer_tokens request outcome))

-- the same of the request at a place of a list
abbrev pub Adds : Answering → Json → ℕ → List Token → List Token → Type 0
Adds answers requests place before after = AddsOne answers (request_at place requests) before after

-- the answers to the first requests of a list, behind one another
abbrev pub AreAdded : Answering → Json → ℕ → List Token → Type 0
AreAdded answers requests zero tokens = tokens ≡ Token.begin_array ∷ []
AreAdded answers requests (suc n) tokens =
    (before : List Token) × AreAdded answers requests n before
    × Adds answers requests n before tokens

abbrev pub is_told_at : ℕ → Json → Bool
is_told_at place requests = not (is_note (request_at place requests))

-- one of the first requests of a list isn't a notification
abbrev pub has_told : ℕ → Json → Bool
has_told zero requests = false
has_told (suc n) requests = has_told n requests || is_told_at n requests

-- the end of the answers to a list: a line of JSON, or nothing
abbrev pub IsClosed : Bool → List Token → Response → Type 0
IsClosed told tokens response =
    ((told ≡ true) × (response.status ≡ Answered)
    × (response.text.items ≡ print (tokens ++ Token.end_array ∷ []) ++ 10 ∷ []))
    ⊎ ((told ≡ false) × IsSilent response)

-- the answers to a list of requests, in their order. A list of notifications alone isn't answered;
-- an empty list is answered by an empty one
abbrev pub IsListed : Answering → Json → Response → Type 0
IsListed answers requests response =
    (tokens : List Token) × AreAdded answers requests (size_of requests) tokens
    × IsClosed (nat_eq (size_of requests) 0 || has_told (size_of requests) requests)
    tokens response

-- what answers a list of requests: one fault if it is too long
abbrev pub AreAnswered : Answering → Json → Response → Type 0
AreAnswered answers requests response =
    ((MOST_REQUESTS < size_of requests) × IsPrinted json.null (Err TooMany) response)
    ⊎ ((size_of requests ≤ MOST_REQUESTS) × IsListed answers requests response)

-- what answers a value that was read
abbrev pub Answers : Answering → Json → Response → Type 0
Answers answers json.null response = IsPrinted json.null (Err NotObject) response
Answers answers (json.boolean b) response = IsPrinted json.null (Err NotObject) response
Answers answers (json.number s) response = IsPrinted json.null (Err NotObject) response
Answers answers (json.string s) response = IsPrinted json.null (Err NotObject) response
Answers answers (json.array js) response = AreAnswered answers (json.array js) response
Answers answers (json.object ms) response =
    (outcome : Result CallResult RpcFault) × IsOutcome answers (json.object ms) outcome
    × IsAlone (json.object ms) outcome response

-- what answers a text: that of the value that it is, or that it is none
abbrev pub Responds : Answering → List ℕ → Response → Type 0
Responds answers text response =
    ((request : Json) × (document text ≡ Some request) × Answers answers request response)
    ⊎ ((IsUtf8 text → document text ≡ None)
    × IsPrinted json.null (Err Unreadable) response)
