use Rattle.std.proofs.Common.{rules, ◌≡◌, ◌++◌, ◌∷◌, []}
use Rattle.std.specs.List.{Contains}
use Rattle.cb_process.specs.Dialling.{addresses_of}
use Rattle.cb_process.specs.OwnAddress.{IsOwn}
use Rattle.cb_process.proofs.Choosing.{aimed_known, aimed_own, aimed_push}
use Rattle.cb_process.proofs.aiming.aim.Goals as goal

pub returns-then-is_own-clause-dialled : goal.returns-then-is_own-clause-dialled
returns-then-is_own-clause-dialled c = λ asked d.
    let mine : IsOwn c.args.own c.args.address = search rules in aimed_own c.args.own c.args.address asked (addresses_of c.args.targets.now.items) mine d

pub returns-then-is_target-clause-dialled : goal.returns-then-is_target-clause-dialled
returns-then-is_target-clause-dialled c = λ asked d.
    let known : Contains (addresses_of c.args.targets.now.items) c.args.address = search rules in aimed_known c.args.own c.args.address asked (addresses_of c.args.targets.now.items) known d

pub returns-clause-dialled : goal.returns-clause-dialled
returns-clause-dialled c = λ asked d.
    let mine : IsOwn c.args.own c.args.address → ⊥ = search rules in
    let known : Contains (addresses_of c.args.targets.now.items) c.args.address → ⊥ = search rules in
    let at : c.new.result.address ≡ c.args.address = search rules in
    let more : c.push_reserved.new.self.items ≡ c.args.targets.now.items ++ c.new.result ∷ [] = search rules in
    aimed_push c.args.own c.args.address asked c.args.targets.now.items c.push_reserved.new.self.items c.new.result mine known at more d
