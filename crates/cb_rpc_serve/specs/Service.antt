-- What answers an HTTP request.
use Rattle.std.specs.Prelude.{ℕ, Bool, true, false, ◌&&◌, not, if◌then◌else◌, bytes_eq, List, [], ◌∷◌, ◌++◌, codes, Option, Some, None, is_some}
use Rattle.base64.specs.Engines.{standard}
use Rattle.base64.specs.GeneralPurpose.{encode_of}
use Rattle.http.specs.Request.{head_of, body_of}
use Rattle.http.specs.declared.request.Request.{Request}
use Rattle.http_header.specs.HeaderMap.{get}
use Rattle.http_header.specs.FieldValue.{FieldValue}
use Rattle.http_server.specs.Response.{IsResponse}
use Rattle.http_server.specs.declared.response.Response as http
use Rattle.cb_rpc.specs.Outcomes.{Answering}
use Rattle.cb_rpc.specs.Responses.{Responds}
use Rattle.cb_rpc.specs.declared.response.Response.{Response}
use Rattle.cb_rpc_call.specs.Faults.{status_number}
use Rattle.cb_rpc_serve.specs.Words.{is_json_type, is_loopback}
use Rattle.cb_rpc_serve.specs.declared.refusal.HttpRefusal.{HttpRefusal}
use Rattle.cb_rpc_serve.specs.declared.refusal.HttpRefusal.TheVariants.{Method, Origin, Host, Stranger, Content}

-- the header `authorization` of who knows these words (RFC 7617, section 2)
abbrev pub key_of : List ℕ → List ℕ
key_of words = codes "Basic " ++ encode_of standard words

-- the first value of a header
abbrev pub field : List ℕ → Request (List ℕ) → Option FieldValue
field name request = get (head_of request).headers name

abbrev pub is_post : Request (List ℕ) → Bool
is_post request = bytes_eq (head_of request).method (codes "POST")

-- a web page sends it (RFC 6454, section 7)
abbrev pub has_origin : Request (List ℕ) → Bool
has_origin request = is_some (field (codes "origin") request)

-- a test of the first value of a header; what holds if there is none
abbrev pub tests : Bool → (List ℕ → Bool) → Option FieldValue → Bool
tests none test None = none
tests none test (Some value) = test value.bytes

-- the `host`, if there is one, is a name of the own machine
abbrev pub is_home : Request (List ℕ) → Bool
is_home request = tests true is_loopback (field (codes "host") request)

-- it has the password
abbrev pub has_key : List ℕ → Request (List ℕ) → Bool
has_key key request =
    tests false (λ value. bytes_eq value key) (field (codes "authorization") request)

-- its content is said to be JSON
abbrev pub is_json : Request (List ℕ) → Bool
is_json request = tests false is_json_type (field (codes "content-type") request)

-- why it is refused, if it is
abbrev pub refusal_of : List ℕ → Bool → Request (List ℕ) → Option HttpRefusal
refusal_of key remote request =
    if not (is_post request)
    then Some Method
    else if has_origin request
    then Some Origin
    else if not remote && not (is_home request)
    then Some Host
    else if not (has_key key request)
    then Some Stranger
    else if not (is_json request)
    then Some Content
    else None

-- the response that refuses a request
abbrev pub IsRefusal : HttpRefusal → http.Response → Type 0
IsRefusal Method response =
    IsResponse 405 ((codes "allow", codes "POST") ∷ [])
    (codes "JSONRPC server handles only POST requests") response
IsRefusal Origin response =
    IsResponse 403 [] (codes "Requests with an Origin are refused") response
IsRefusal Host response = IsResponse 403 [] (codes "Host is no name of this machine") response
IsRefusal Stranger response =
    IsResponse 401 ((codes "www-authenticate", codes "Basic realm=\"jsonrpc\"") ∷ []) [] response
IsRefusal Content response =
    IsResponse 415 [] (codes "Content-Type must be application/json") response

-- the headers that tell of a text
abbrev pub text_fields : List ℕ → List (List ℕ × List ℕ)
text_fields [] = []
text_fields (c ∷ cs) = (codes "content-type", codes "application/json") ∷ []

-- a response with this answer
abbrev pub IsFilled : Response → http.Response → Type 0
IsFilled answer response =
    IsResponse (status_number answer.status) (text_fields answer.text.items) answer.text.items
    response

-- a response with the text that answers the body of a request
unfoldable pub IsTold : Answering → Request (List ℕ) → http.Response → Type 0
IsTold answers request response =
    (answer : Response) × Responds answers (body_of request) answer × IsFilled answer response

abbrev pub IsAnswer : Answering → Option HttpRefusal → Request (List ℕ) → http.Response → Type 0
IsAnswer answers None request response = IsTold answers request response
IsAnswer answers (Some refusal) request response = IsRefusal refusal response

-- what answers a request: a refusal if there is a reason for one, else what its body is answered
abbrev pub IsAnswerTo : Answering → List ℕ → Bool → Request (List ℕ) → http.Response → Type 0
IsAnswerTo answers key remote request response =
    IsAnswer answers (refusal_of key remote request) request response
