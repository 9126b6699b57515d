use Rattle.std.proofs.Common.{◌∙◌, ap}
use Rattle.json.specs.Value.{members_view, value_view}
use Rattle.json.proofs.Trees.{view-Object}
use Rattle.cb_rpc.proofs.Answered.{answers_object}
use Rattle.cb_rpc.proofs.responding.answer_read.Goals as goal

pub returns-in-Object : goal.returns-in-Object
returns-in-Object g c =
    answers_object (g.N.CallHandler.answers c.args.node.now) (value_view c.args.request.now) (members_view c.in-Object.field-0.items) c.outcome.result c.finish_one.result
    (ap (λ v. value_view v) c.in-Object.is ∙ view-Object c.in-Object.field-0) c.outcome.ensures c.finish_one.ensures
