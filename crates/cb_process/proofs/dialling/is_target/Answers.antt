use Rattle.std.proofs.Common.{rules, ◌≡◌, ◌<◌, refl, length}
use Rattle.std.specs.List.{Contains}
use Rattle.cb_process.specs.Dialling.{addresses_of}
use Rattle.cb_process.proofs.Choosing.{found_at, not_yet}
use Rattle.cb_process.proofs.dialling.is_target.Goals as goal

pub returns-then-eq : goal.returns-then-eq
returns-then-eq c =
    let same : c.target-item.result.address ≡ c.args.address = search rules in
    let within : c.loop-target.target-index < length c.args.targets.now = search rules in
    let among : Contains (addresses_of c.args.targets.now) c.args.address = found_at c.args.targets.now c.loop-target.target-index _ c.target-item.result c.args.address within c.target-item.is same in
    ((λ _. among), (λ _. refl))

pub loop-target-preserved : goal.loop-target-preserved
loop-target-preserved c =
    let other : c.target-item.result.address ≡ c.args.address → ⊥ = search rules in
    let within : c.loop-target.target-index < length c.args.targets.now = search rules in
    not_yet c.args.targets.now c.loop-target.target-index _ c.target-item.result c.args.address within c.target-item.is other c.loop-target.invariant
