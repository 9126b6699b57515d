use Rattle.cb_ledger.proofs.Changes.{IsExchanged}
use Rattle.cb_ledger.proofs.connecting.exchange_all.Given as goal

abbrev pub invariant-loop-left : goal.invariant-loop-left
invariant-loop-left l = IsExchanged l.fn.ledger.unspent l.fn.ledger.room l.fn.changes l.left l.ledger.unspent l.ledger.room l.changes

abbrev pub decreases-loop-left : goal.decreases-loop-left
decreases-loop-left l = l.left
