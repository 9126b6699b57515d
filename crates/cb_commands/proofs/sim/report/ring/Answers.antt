use Rattle.std.proofs.Common.{map, sym, ap, ◌∙◌}
use Rattle.std.specs.String.{string_bytes}
use Rattle.std.specs.VecDeque.Iter.{deque_iter_rest}
use Rattle.cb_commands.proofs.SimReportLemmas.{queue_given, ring_line}
use Rattle.cb_commands.proofs.sim.report.ring.Goals as goal

pub returns-in_ok-writeln-in-Some-clause-text : goal.returns-in_ok-writeln-in-Some-clause-text
returns-in_ok-writeln-in-Some-clause-text c =
    ring_line c.args.system.now.crew.desks.ring (deque_iter_rest c.next.new.self) (map (λ y. y.now) c.loop-desk.yielded) (deque_iter_rest c.loop-desk.desk-iterator) c.in-Some.first.now (string_bytes c.args.out.now) (string_bytes c.write.new.self) (string_bytes c.loop-desk.out) (string_bytes c.writeln.new.self)
    (sym c.ring-desks.ensures ∙ c.in-Some.ensures.steps) (ap deque_iter_rest (sym c.into_iter-desk-iterator.ensures.into_iter_gives) ∙ queue_given c.into_iter-desk-iterator.result c.loop-desk.yielded c.loop-desk.desk-iterator c.loop-desk.yielded_by) c.in-None-desk.ensures.steps.0 c.in_ok-write-in-Some.ensures.bytes c.loop-desk.invariant c.in_ok-writeln-in-Some.ensures.bytes
