use Rattle.std.proofs.Common.{sym, ap, ◌∙◌}
use Rattle.json.proofs.Trees.{view-Object}
use Rattle.json.specs.Value.{members_view, value_view}
use Rattle.cb_rpc_call.specs.Calls.{misfit_in, misnamed}
use Rattle.cb_rpc_call.proofs.reading.misfit_in.Goals as goal

pub returns-in-Object : goal.returns-in-Object
returns-in-Object c =
    c.misnamed.ensures
    ∙ ap (λ ms. misnamed c.args.method (members_view ms)) c.deref.ensures.value
    ∙ ap (misfit_in c.args.method) (sym (view-Object c.in-Object.members))
    ∙ ap (λ v. misfit_in c.args.method (value_view v)) (sym c.in-Object.is)
