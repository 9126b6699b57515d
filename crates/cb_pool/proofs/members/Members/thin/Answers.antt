use Rattle.std.proofs.Common.{◌≡◌, ◌∙◌, List, ap, subst, sym}
use Rattle.cb_pool.specs.Listing.{Roomy}
use Rattle.cb_pool.specs.Staying.{Fits, Thin, staying}
use Rattle.cb_pool.specs.declared.members.Pooled.{Pooled}
use Rattle.cb_pool.proofs.Named.{pooled_of}
use Rattle.cb_pool.proofs.Thinner.{held_from, members_out, pooled_out}
use Rattle.cb_pool.proofs.members.Members.thin.Goals as goal

pub put_changes-requires : goal.put_changes-requires
put_changes-requires c =
    let list : List Pooled = pooled_of c.self.inside.entries.entries in
    let plan : Thin = record { marks = c.plan.inside.marks; gone = c.plan.inside.gone.keys; coins = c.plan.inside.coins.entries } in
    let fits : Fits plan list = subst (λ (p : Thin). Fits p list) (sym c.plan.view_is) (subst (λ (held : Roomy). Fits c.args.plan held.list) (sym c.self.view_is) c.requires) in
    record { held = held_from plan.marks c.self.inside.coins.entries plan.coins plan.gone list c.self.invariant.after fits.inside }

pub invariant_of-self : goal.invariant_of-self
invariant_of-self c =
    let entries = c.self.inside.entries.entries in
    let list : List Pooled = pooled_of entries in
    let plan : Thin = record { marks = c.plan.inside.marks; gone = c.plan.inside.gone.keys; coins = c.plan.inside.coins.entries } in
    let fits : Fits plan list = subst (λ (p : Thin). Fits p list) (sym c.plan.view_is) (subst (λ (held : Roomy). Fits c.args.plan held.list) (sym c.self.view_is) c.requires) in
    members_out entries c.take_out.new.entries.entries c.self.inside.coins.entries c.put_changes.new.coins.entries plan.coins plan.marks plan.gone c.self.invariant c.take_out.ensures fits.outside fits.inside c.put_changes.ensures

pub returns : goal.returns
returns c =
    let entries = c.self.inside.entries.entries in
    ap pooled_of c.take_out.ensures
    ∙ pooled_out c.plan.inside.gone.keys entries c.self.invariant.names
    ∙ ap (λ (held : Roomy). staying c.plan.inside.gone.keys held.list) c.self.view_is
    ∙ ap (λ (p : Thin). staying p.gone c.args.self.now.list) c.plan.view_is
