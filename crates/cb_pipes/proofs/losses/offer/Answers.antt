use Rattle.std.proofs.Common.{rules, ◌≡◌, ◌+◌, ◌-◌, ◌^◌, refl, inl, inr, min}
use Rattle.cb_pipes.proofs.losses.offer.Goals as goal

pub returns-then-take : goal.returns-then-take
returns-then-take g c =
    (record { stamp = c.args.stamp; dropped = c.args.losses.now.dropped; text = c.args.text }, refl, refl, refl, inl (refl, c.take.ensures.taken c.if-take.true))

pub returns-else-take : goal.returns-else-take
returns-else-take g c =
    let more : c.saturating_add-losses.result ≡ min (c.args.losses.now.dropped + 1) (2 ^ 64 - 1) = search rules in
    (record { stamp = c.args.stamp; dropped = c.args.losses.now.dropped; text = c.args.text }, refl, refl, refl, inr (more, c.take.ensures.kept c.if-take.false, c.take.ensures.refused c.if-take.false))
