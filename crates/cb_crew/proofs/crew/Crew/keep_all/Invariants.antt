use Rattle.std.proofs.Common.{◌≡◌, ◌≤◌, length, map, vec_capacity}
use Rattle.cb_crew.specs.Turn.{shown_desk}
use Rattle.cb_crew.specs.Crew.{AreDeskNames}
use Rattle.cb_crew.specs.Ring.{IsHandOf, IsOfCrew, StandsForAll}
use Rattle.std.specs.List.{All}
use Rattle.cb_crew.proofs.crew.Crew.keep_all.Given as goal

abbrev pub invariant-loop : goal.invariant-loop
invariant-loop g l = record {
  of_ring : IsHandOf l.fn.self.ring l.hand;
  all : StandsForAll l.hand;
  names : AreDeskNames l.fn.self l.hand.names;
  held : l.hand.held ≡ map (shown_desk g.W.Work.label g.W.Work.is_closed) l.desks.items;
  named : All (IsOfCrew l.hand.names) l.hand.held;
  room : length l.fn.self.inboxes ≤ vec_capacity l.desks;
}
