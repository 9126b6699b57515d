use Rattle.std.proofs.Common.{◌+◌, All, ℕ, ap, subst, sym, ◌∙◌}
use Rattle.std.proofs.lemmas.List.Elements.{All-push}
use Rattle.cb_driver.specs.Playing.{HasSlots}
use Rattle.cb_driver.proofs.Keeping.{starts}
use Rattle.cb_driver.proofs.nodes.start_all.Goals as goal

pub loop-number-preserved : goal.loop-number-preserved
loop-number-preserved g c = (
  c.push_reserved.ensures.len ∙ ap (λ (n : ℕ). n + 1) c.loop-number.invariant.0,
  c.push_reserved.ensures.capacity ∙ c.loop-number.invariant.1,
  subst (All HasSlots) (sym c.push_reserved.ensures.items)
      (All-push HasSlots c.loop-number.list.items c.in_ok-start_with_seed.field-0 c.loop-number.invariant.2
      (starts c.settings_of-settings.result c.in_ok-start_with_seed.field-0 c.settings_of-settings.ensures.slots c.in_ok-start_with_seed.ensures)),
)
