use Rattle.std.specs.Prelude.{ℤ}
use Rattle.std.proofs.Common.{ap, w64, ◌∙◌}
use Rattle.std.proofs.lemmas.Int.{to_z-of_z}
use Rattle.cb_node.specs.Times.{settings_at}
use Rattle.cb_node.proofs.Times.{set_at}
use Rattle.cb_node.proofs.node.Node.set_time.Goals as goal

pub returns : goal.returns
returns g c =
    let told = c.at-self-inside.ensures ∙ ap (λ (t : ℤ). settings_at c.self.inside.service.settings t) (to_z-of_z w64 c.args.time c.ranges.time) in
    set_at _ _ c.args.time c.at-self-inside.result told c.self.view_is
