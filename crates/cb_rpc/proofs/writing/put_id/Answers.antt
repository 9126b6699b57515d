use Rattle.std.proofs.Common.{sym, ap, ◌∙◌}
use Rattle.std.specs.Prelude.{option_map, codes}
use Rattle.json.specs.Value.{value_view}
use Rattle.json.proofs.Numbered.{HasNumbers-get}
use Rattle.cb_rpc.proofs.writing.put_id.Goals as goal

pub value-requires : goal.value-requires
value-requires c =
    HasNumbers-get (codes "id") (value_view c.args.request.now) (value_view c.in-Some.value.now) c.requires (ap (option_map (λ v. value_view v.now)) (sym c.in-Some.is) ∙ c.get.ensures)
