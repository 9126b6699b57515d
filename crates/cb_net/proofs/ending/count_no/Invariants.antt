use Rattle.std.proofs.Common.{◌≡◌, take}
use Rattle.std.specs.Prelude.{count_by}
use Rattle.cb_net.specs.Audits.{is_no}
use Rattle.cb_net.proofs.ending.count_no.Given as goal

-- those so far
abbrev pub invariant-loop-verdict : goal.invariant-loop-verdict
invariant-loop-verdict l = l.count ≡ count_by is_no (take l.verdict-index l.verdicts)
