use Rattle.cb_audit.specs.Desks.{traces_of}
use Rattle.cb_audit.proofs.Uneven.{even_decides}
use Rattle.std.proofs.Common.{◌∙◌, ap, Option}
use Rattle.std.specs.Prelude.{ℕ, unwrap_or}
use Rattle.cb_audit.proofs.desk_counting.is_even_at_desks.Goals as goal

pub returns : goal.returns
returns g c =
    even_decides c.args.connections.now (traces_of c.args.desks.now) c.args.connection c.granted.result c.unwrap_or.result c.granted.ensures (c.unwrap_or.ensures ∙ ap (λ (told : Option ℕ). unwrap_or told 0) c.told_at.ensures)
