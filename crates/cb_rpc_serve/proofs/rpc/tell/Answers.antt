use Rattle.std.proofs.Common.{subst, ◌∙◌}
use Rattle.std.proofs.lemmas.Result.{on_ok_weaker}
use Rattle.cb_rpc.specs.Responses.{Responds}
use Rattle.cb_rpc_serve.specs.Service.{IsTold}
use Rattle.cb_rpc_serve.proofs.rpc.tell.Goals as goal

pub returns : goal.returns
unfolding IsTold
returns g c =
    on_ok_weaker c.fill.result
    (λ filled. (c.in_ok-answer.answer, subst (λ text. Responds (g.N.CallHandler.answers c.args.node.now) text c.in_ok-answer.answer) (c.as_slice.ensures ∙ c.body.ensures) c.in_ok-answer.ensures, filled))
    c.fill.ensures
