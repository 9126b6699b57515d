use Rattle.cb_crew.proofs.Crews.{keep_more}
use Rattle.cb_crew.proofs.crew.Crew.keep_all.Goals as goal
use Rattle.std.proofs.Common.{arith}

pub loop-preserved : goal.loop-preserved
loop-preserved g c =
    let i = c.loop.invariant in
    let k = keep_more _ c.args.self.now c.loop.hand c.keep.new.hand c.loop.desks.items c.push_reserved.new.self.items c.in-Some-keep.desk i.of_ring i.all i.names i.held i.named c.in-Some-keep.ensures.kept.0 c.in-Some-keep.ensures.kept.1 c.push_reserved.ensures.items in
    record { of_ring = k.of_ring; all = k.all; names = k.names; held = k.held; named = k.named; room = omega (arith, i.room, c.push_reserved.ensures.capacity) }
