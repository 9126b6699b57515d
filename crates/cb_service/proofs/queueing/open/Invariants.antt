use Rattle.std.proofs.Common.{◌≡◌}
use Rattle.cb_crew.specs.Crew.{inbox_of}
use Rattle.cb_service.specs.Service.{EndsOrStays}
use Rattle.cb_service.proofs.queueing.open.Given as goal

abbrev pub invariant-loop : goal.invariant-loop
invariant-loop g l = EndsOrStays l.fn.side l.side × (inbox_of l.side ≡ l.inbox.name) × (l.opening ≡ l.fn.opening)
