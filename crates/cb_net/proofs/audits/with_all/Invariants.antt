use Rattle.std.proofs.Common.{◌≡◌, ◌++◌, take}
use Rattle.cb_net.specs.Audits.{traces_among}
use Rattle.cb_net.proofs.audits.with_all.Given as goal

abbrev pub invariant-loop-one : goal.invariant-loop-one
invariant-loop-one l = l.all.items ≡ l.fn.list.items ++ traces_among l.side (take l.one-index l.joined)
