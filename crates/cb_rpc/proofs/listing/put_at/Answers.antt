use Rattle.std.proofs.Common.{sym, ap, ◌∙◌}
use Rattle.std.specs.Prelude.{option_map}
use Rattle.json.specs.Value.{value_view}
use Rattle.json.proofs.Numbered.{HasNumbers-at}
use Rattle.cb_rpc.proofs.listing.put_at.Goals as goal

pub put_one-requires : goal.put_one-requires
put_one-requires g c =
    HasNumbers-at c.args.place (value_view c.args.requests.now) (value_view c.in-Some.request.now) c.requires (ap (option_map (λ v. value_view v.now)) (sym c.in-Some.is) ∙ c.at.ensures)
