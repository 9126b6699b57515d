use Rattle.std.proofs.Common.{rules, ◌≡◌, ◌<◌, ◌++◌, ◌∷◌, [], refl}
use Rattle.cb_process.specs.Doors.{recent, recent_of}
use Rattle.cb_process.proofs.Windows.{recalls, still}
use Rattle.cb_process.proofs.doors.Doors.let_in.Goals as goal

pub returns-then-lasting-from-clause-still : goal.returns-then-lasting-from-clause-still
returns-then-lasting-from-clause-still c = λ before last recall le most other. still c.args.self.now c.forget.new.self before c.args.now last c.forget.ensures recall le

pub returns-in_err-push-clause-still : goal.returns-in_err-push-clause-still
returns-in_err-push-clause-still c = λ before last recall le most other.
    let kept : c.push.new.self.items ≡ recent c.args.now c.args.self.now = search rules in still c.args.self.now c.push.new.self.items before c.args.now last kept recall le

pub returns-clause-recalls : goal.returns-clause-recalls
returns-clause-recalls c = λ before last recall le ok most same.
    let pushed : c.push.new.self.items ≡ recent c.args.now c.args.self.now ++ (record { host = c.args.host; at = c.args.now }) ∷ [] = search rules in
    let few : recent_of c.args.host c.args.now c.args.self.now < 10 = search rules in
    recalls c.args.self.now c.push.new.self.items before c.args.host c.args.now last (record { host = c.args.host; at = c.args.now }) refl refl pushed few recall le ok
