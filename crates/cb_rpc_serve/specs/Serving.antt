-- What answers a request, whatever the node tells.
use Rattle.std.specs.Prelude.{⊤, ℕ, Bool, List}
use Rattle.http.specs.declared.request.Request.{Request}
use Rattle.http_server.specs.declared.response.Response.{Response}
use Rattle.cb_rpc_serve.specs.Service.{IsAnswerTo}

-- a response to a request: only who knows the password is told more than a refusal
unfoldable pub IsServed : List ℕ → Bool → Request (List ℕ) → Response → Type 0
IsServed key remote request response =
    IsAnswerTo (λ call outcome. ⊤) key remote request response
