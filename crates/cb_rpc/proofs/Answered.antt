-- What answers a request that is an object.
use Rattle.std.proofs.Common.{◌≡◌, Result, subst, sym}
use Rattle.std.specs.Prelude.{IfOk}
use Rattle.std.proofs.lemmas.Result.{IfOk-weaker}
use Rattle.json.specs.Json.{Json, Members}
use Rattle.json.specs.Json as json
use Rattle.cb_rpc_call.specs.declared.fault.RpcFault.{RpcFault}
use Rattle.cb_rpc.specs.declared.told.CallResult.{CallResult}
use Rattle.cb_rpc.specs.Outcomes.{Answering, IsOutcome}
use Rattle.cb_rpc.specs.Responses.{Answers, IsAlone}
use Rattle.cb_rpc.specs.declared.response.Response.{Response}

pub answers_object : {E : Type 0} (answers : Answering) (request : Json) (fields : Members) (outcome : Result CallResult RpcFault) (result : Result Response E) → request ≡ json.object fields
    → IsOutcome answers request outcome → IfOk result (λ response. IsAlone request outcome response) → IfOk result (λ response. Answers answers request response)
answers_object answers request fields outcome result is heard alone =
    subst (λ (r : Json). IsOutcome answers r outcome → IfOk result (λ response. IsAlone r outcome response) → IfOk result (λ response. Answers answers r response)) (sym is)
    (λ h a. IfOk-weaker result _ _ (λ response told. (outcome, h, told)) a) heard alone
