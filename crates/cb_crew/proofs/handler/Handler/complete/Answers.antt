use Rattle.std.proofs.Common.{ap, rules, subst, sym, ◌∙◌}
use Rattle.cb_crew.specs.Ring.{IsHeld, given_hand}
use Rattle.cb_crew.specs.Desk.{DeskState}
use Rattle.cb_crew.specs.Turn.{HandlerState, shown_desk}
use Rattle.cb_crew.proofs.Turns.{held_is, inbox_of_turn}
use Rattle.cb_crew.proofs.handler.Handler.complete.Goals as goal

pub returns-clause-serves : goal.returns-clause-serves
returns-clause-serves g c = (c.serve_desk-turn.new.desk, c.give.ensures ∙ ap (λ (h : HandlerState (DeskState _ _)). given_hand h.hand (shown_desk g.W.Work.label g.W.Work.is_closed c.serve_desk-turn.new.desk)) c.self.view_is, c.serve_desk-turn.ensures.turns)

pub returns-clause-ticks : goal.returns-clause-ticks
returns-clause-ticks g c = (c.serve_desk-turn.new.desk, c.give.ensures ∙ ap (λ (h : HandlerState (DeskState _ _)). given_hand h.hand (shown_desk g.W.Work.label g.W.Work.is_closed c.serve_desk-turn.new.desk)) c.self.view_is, inbox_of_turn g.W.Work.label g.W.Work.given g.W.Work.is_closed c.args.desk c.serve_desk-turn.new.desk c.args.budget c.serve_desk-turn.result c.serve_desk-turn.ensures.turns, c.serve_desk-turn.ensures.ticks)

pub give-requires-clause-hand : goal.give-requires-clause-hand
give-requires-clause-hand g c = (
  search rules,
  subst (λ (h : HandlerState (DeskState _ _)). IsHeld h.hand.held (shown_desk g.W.Work.label g.W.Work.is_closed c.serve_desk-turn.new.desk)) (sym c.self.view_is)
      (held_is g.W.Work.label g.W.Work.given g.W.Work.is_closed c.args.self.now.hand c.args.desk c.serve_desk-turn.new.desk c.args.budget c.serve_desk-turn.result c.requires.desk c.serve_desk-turn.ensures.turns),
)
