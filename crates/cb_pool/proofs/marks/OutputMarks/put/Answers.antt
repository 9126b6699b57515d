use Rattle.cb_pool.proofs.Marking.{named_put, named_stay}
use Rattle.cb_pool.proofs.marks.OutputMarks.put.Goals as goal

pub invariant_of-self-in_err-insert-2 : goal.invariant_of-self-in_err-insert-2
invariant_of-self-in_err-insert-2 c =
    named_stay c.self.inside.points.entries c.insert-2.new.self.entries c.args.point.txid c.self.inside.txids.keys c.insert.new.self.keys c.in_ok-insert.ensures.updates.0 c.in_err-insert-2.ensures.err c.self.invariant

pub invariant_of-self-2 : goal.invariant_of-self-2
invariant_of-self-2 c =
    named_put c.self.inside.points.entries c.insert-2.new.self.entries c.args.point c.args.mark c.self.inside.txids.keys c.insert.new.self.keys c.in_ok-insert.ensures.updates.0 c.in_ok-insert-2.ensures.updates.0 c.self.invariant
