use Rattle.std.proofs.Common.{◌≡◌, drop}
use Rattle.cb_net.specs.Audits.{refusal_in}
use Rattle.cb_net.proofs.ending.first_refusal.Given as goal

abbrev pub invariant-loop-place : goal.invariant-loop-place
invariant-loop-place l = refusal_in l.place (drop l.place l.verdicts) ≡ refusal_in 0 l.verdicts
